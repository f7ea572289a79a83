-- A group that closes has no more packets than its telegrams.
use Rattle.std.proofs.Common.{◌≡◌, ℕ, zero, suc, ◌+◌, ◌≤◌, length, List, [], ◌∷◌, ◌++◌, Bool, true, false, Option, Some, None, cond, refl, ap, arith}
use Rattle.std.specs.Prelude.{◌==◌}
use Rattle.std.proofs.lemmas.List.{length-append}
use Rattle.packets.specs.declared.packet.Packet.{Packet}
use Rattle.packets.specs.Packets.{number_of}
use Rattle.telegram.specs.declared.message.Telegram.{Telegram}
use Rattle.balise_groups.specs.declared.message.Cause.{Cause}
use Rattle.balise_groups.specs.declared.message.Closed.{Closed}
use Rattle.balise_groups.specs.declared.reading.Reading.{Reading}
use Rattle.balise_groups.specs.Description.{infill, before_infill, reported_by}
use Rattle.balise_groups.specs.Closing.{is_at, is_read, is_whole, telegrams_at, telegrams_below, cause_of, closed_as, close_of}
use Rattle.balise_groups.specs.Groups.{with_reading, close_if_whole}
use Rattle.balise_groups.specs.PacketCounts.{packets_at, packets_in, packets_of_closed}

shorter : (ps : List Packet) → length (before_infill ps) ≤ length ps
shorter [] = omega arith
shorter (p ∷ ps) =
    let so_far = shorter ps in
    let cases : (b : Bool) → length (cond b [] (p ∷ before_infill ps)) ≤ length (p ∷ ps) = elim [ true ↦ omega arith | false ↦ omega arith ] in
    cases (number_of p == infill)

-- the packets of telegrams
abbrev all_of : List Telegram → ℕ
all_of [] = 0
all_of (t ∷ ts) = length t.packets.items + all_of ts

reported_shorter : (ts : List Telegram) → length (reported_by ts) ≤ all_of ts
reported_shorter [] = omega arith
reported_shorter (t ∷ ts) =
    let here = shorter t.packets.items in
    let following = reported_shorter ts in
    let lengths = length-append (before_infill t.packets.items) (reported_by ts) in
    omega arith

all_append : (ts us : List Telegram) → all_of (ts ++ us) ≡ all_of ts + all_of us
all_append [] us = omega arith
all_append (t ∷ ts) us = let k = all_append ts us in omega arith

-- what a place adds, and the places below one, where one telegram has it
abbrev here : ℕ → ℕ → ℕ → ℕ
here own many place = cond (own == place) many 0

abbrev below : ℕ → ℕ → ℕ → ℕ
below own many zero = 0
below own many (suc place) = below own many place + here own many place

none_below : (own many place : ℕ) → place ≤ own → below own many place ≡ 0
none_below own many zero h = refl
none_below own many (suc place) h =
    let so_far = none_below own many place (omega arith) in
    let cases : (b : Bool) → (own == place) ≡ b → below own many place + cond b many 0 ≡ 0 =
    elim [ true ↦ λ e. absurd (grind arith) | false ↦ λ e. omega arith ] in
    cases (own == place) refl

at_most : (own many place : ℕ) → below own many place ≤ many
at_most own many zero = omega arith
at_most own many (suc place) =
    let so_far = at_most own many place in
    let cases : (b : Bool) → (own == place) ≡ b → below own many place + cond b many 0 ≤ many =
    elim [
      | true ↦ λ e. (let none = none_below own many place (grind arith) in omega arith)
      | false ↦ λ e. omega arith
    ] in
    cases (own == place) refl

one_place : (place : ℕ) (r : Reading) (rs : List Reading) →
    all_of (telegrams_at place (r ∷ rs)) ≤ here r.telegram.header.position (packets_at r) place + all_of (telegrams_at place rs)
one_place place r rs =
    let cases : (b : Bool) → all_of (cond b (r.telegram ∷ []) (telegrams_at place rs)) ≤ cond b (packets_at r) 0 + all_of (telegrams_at place rs) =
    elim [ true ↦ omega arith | false ↦ omega arith ] in
    cases (is_at place r)

places_below : (place : ℕ) (r : Reading) (rs : List Reading) →
    all_of (telegrams_below place (r ∷ rs)) ≤ below r.telegram.header.position (packets_at r) place + all_of (telegrams_below place rs)
places_below zero r rs = omega arith
places_below (suc place) r rs =
    let so_far = places_below place r rs in
    let one = one_place place r rs in
    let longer = all_append (telegrams_below place (r ∷ rs)) (telegrams_at place (r ∷ rs)) in
    let shorter_ones = all_append (telegrams_below place rs) (telegrams_at place rs) in
    omega arith

none_read : (place : ℕ) → all_of (telegrams_below place []) ≡ 0
none_read zero = refl
none_read (suc place) = let k = none_read place in let a = all_append (telegrams_below place []) [] in omega arith

all_places : (place : ℕ) (rs : List Reading) → all_of (telegrams_below place rs) ≤ packets_in rs
all_places place [] = let k = none_read place in omega arith
all_places place (r ∷ rs) =
    let own = places_below place r rs in
    let most = at_most r.telegram.header.position (packets_at r) place in
    let others = all_places place rs in
    omega arith

as_closed : (first : Reading) (rs : List Reading) (cause : Option Cause) → packets_of_closed (Some (closed_as first rs cause)) ≤ packets_in rs
as_closed first rs (Some cause) = omega arith
as_closed first rs None =
    let reported = reported_shorter (telegrams_below (first.telegram.header.last_position + 1) rs) in
    let all = all_places (first.telegram.header.last_position + 1) rs in
    omega arith

closed_space : (rs : List Reading) → packets_of_closed (close_of rs) ≤ packets_in rs
closed_space [] = omega arith
closed_space (first ∷ rs) = as_closed first (first ∷ rs) (cause_of first (first ∷ rs))

whole_space : (rs : List Reading) → packets_of_closed (close_if_whole rs) ≤ packets_in rs
whole_space rs =
    let k = closed_space rs in
    let cases : (b : Bool) → packets_of_closed (cond b (close_of rs) None) ≤ packets_in rs = elim [ true ↦ k | false ↦ omega arith ] in
    cases (is_whole rs)

one_more : (rs : List Reading) (r : Reading) → packets_in (rs ++ r ∷ []) ≡ packets_in rs + packets_at r
one_more [] r = omega arith
one_more (s ∷ rs) r = let k = one_more rs r in omega arith

joined : (rs : List Reading) (r : Reading) → packets_in (with_reading rs r) ≤ packets_in rs + packets_at r
joined rs r =
    let k = one_more rs r in
    let cases : (b : Bool) → packets_in (cond b rs (rs ++ r ∷ [])) ≤ packets_in rs + packets_at r = elim [ true ↦ omega arith | false ↦ omega arith ] in
    cases (is_read rs r.telegram.header.position)

-- what closes, and where one more reading makes a group whole
pub closing_space : (closed : Option Closed) (rs : List Reading) → closed ≡ close_of rs → packets_of_closed closed ≤ packets_in rs
closing_space closed rs same = omega (arith, ap packets_of_closed same, closed_space rs)

pub joined_space : (closed : Option Closed) (rs : List Reading) (r : Reading) → closed ≡ close_if_whole (with_reading rs r) → packets_of_closed closed ≤ packets_in rs + packets_at r
joined_space closed rs r same = omega (arith, ap packets_of_closed same, whole_space (with_reading rs r), joined rs r)
