-- Packets that are reported as used, along with those that are used.
use Rattle.std.proofs.Common.{◌≡◌, ℕ, ◌+◌, ◌==◌, Bool, true, false, not, ◌&&◌, ◌||◌, if◌then◌else◌, List, [], ◌∷◌, length, filter, Option, Some, None, refl, ap, ◌∙◌}
use Rattle.std.specs.Option.{option_map_or}
use Rattle.balise_groups.specs.Description.{before_infill, infill}
use Rattle.mode_table.specs.Packets.{uses}
use Rattle.mode_table.specs.declared.mode.Mode.{Mode}
use Rattle.packets.specs.Packets.{length_of, number_of}
use Rattle.packets.specs.declared.packet.Packet.{Packet}
use Rattle.track_picture.specs.Sentences.{is_used, is_valid, valid_in}
use Rattle.vars.specs.declared.linking.LinkOrientation.{LinkOrientation}
use Rattle.vars.specs.declared.packet_head.ValidityDirection.{ValidityDirection}
use Rattle.packet_uses.specs.Calls.{is_other_than_used}
use Rattle.packet_uses.specs.Fates.{fate_by}
use Rattle.packet_uses.specs.Laws.{used_among}
use Rattle.packet_uses.specs.Description.{reported_from}
use Rattle.packet_uses.specs.declared.fate.Fate.TheVariants.{Used, OtherDirection, NotInMode}

pub each_once : (mode : Mode) (direction : Option LinkOrientation) (after_infill : Bool) (start : ℕ) (ps : List Packet)
    → length (reported_from mode direction after_infill start ps) ≡ length ps
each_once mode direction after_infill start [] = refl
each_once mode direction after_infill start (p ∷ ps) =
    let rest = each_once mode direction (after_infill || (number_of p == infill)) (start + length_of p) ps in
    rw rest refl

-- ---- after infill

none_after : (mode : Mode) (direction : Option LinkOrientation) (start : ℕ) (ps : List Packet)
    → used_among ps (reported_from mode direction true start ps) ≡ []
none_after mode direction start [] = refl
none_after mode direction start (p ∷ ps) = none_after mode direction (start + length_of p) ps

-- ---- before it

by_table : (used valid : Bool) → is_other_than_used (if used then (if valid then Used else OtherDirection) else NotInMode) ≡ not (used && valid)
by_table true true = refl
by_table true false = refl
by_table false true = refl
by_table false false = refl

none_known : (used : Bool) → true ≡ not (used && false)
none_known true = refl
none_known false = refl

by_direction : (mode : Mode) (direction : Option LinkOrientation) (number : ℕ) (valid : Option ValidityDirection)
    → is_other_than_used (fate_by mode direction number valid) ≡ not (uses mode number && option_map_or (λ v. is_valid v direction) valid false)
by_direction mode direction number None = none_known (uses mode number)
by_direction mode direction number (Some v) = by_table (uses mode number) (is_valid v direction)

chosen : (p : Packet) (ps qs : List Packet) (used : Bool) → ps ≡ qs → (if not used then ps else p ∷ ps) ≡ (if used then p ∷ qs else qs)
chosen p ps qs true e = ap (λ xs. p ∷ xs) e
chosen p ps qs false e = e

same : (mode : Mode) (direction : Option LinkOrientation) (p : Packet) (ps qs : List Packet) → ps ≡ qs
    → (if is_other_than_used (fate_by mode direction (number_of p) (valid_in p)) then ps else p ∷ ps) ≡ (if is_used mode direction p then p ∷ qs else qs)
same mode direction p ps qs e =
    ap (λ b. if b then ps else p ∷ ps) (by_direction mode direction (number_of p) (valid_in p)) ∙ chosen p ps qs (is_used mode direction p) e

step : (mode : Mode) (direction : Option LinkOrientation) (start : ℕ) (p : Packet) (ps : List Packet) (is_infill : Bool) → (number_of p == infill) ≡ is_infill
    → used_among ps (reported_from mode direction false (start + length_of p) ps) ≡ filter (is_used mode direction) (before_infill ps)
    → used_among (p ∷ ps) (reported_from mode direction false start (p ∷ ps)) ≡ filter (is_used mode direction) (before_infill (p ∷ ps))
step mode direction start p ps true e rest = rw e (none_after mode direction (start + length_of p) ps)
step mode direction start p ps false e rest = rw e (same mode direction p _ _ rest)

pub used_is_reported : (mode : Mode) (direction : Option LinkOrientation) (start : ℕ) (ps : List Packet)
    → used_among ps (reported_from mode direction false start ps) ≡ filter (is_used mode direction) (before_infill ps)
used_is_reported mode direction start [] = refl
used_is_reported mode direction start (p ∷ ps) = step mode direction start p ps (number_of p == infill) refl (used_is_reported mode direction (start + length_of p) ps)
