-- A demand is in the list exactly where a row of the table applies to a packet.
use Rattle.std.proofs.Common.{◌≡◌, ℕ, zero, suc, Bool, true, false, if◌then◌else◌, List, [], ◌∷◌, Option, Some, None, refl, sym, ap, ◌∙◌, arith, ◌⊎◌, inl, inr}
use Rattle.std.specs.List.{Contains, cons_option, filter_map}
use Rattle.std.specs.Option.{option_map}
use Rattle.std.proofs.lemmas.List.Elements.{Contains-append_right, Contains-append_cases}
use Rattle.track_packets.specs.declared.listing.PacketPlace.{PacketPlace}
use Rattle.track_guard.specs.Demands.{before_infill, concerns, demand_found, demand_of_packet, with_action}
use Rattle.track_guard.specs.Findings.{finding_in}
use Rattle.track_guard.specs.Laws.{Applies, RowsAreDemanded, bits_from}
use Rattle.track_guard.specs.Table.{action_by, table}
use Rattle.track_guard.specs.declared.demanding.Demand.{Demand}
use Rattle.track_guard.specs.declared.demanding.Situation.{Situation}
use Rattle.track_guard.specs.declared.demanding.Source.{Source}
use Rattle.track_guard.specs.declared.demanding.Source.TheVariants as sources
use Rattle.track_guard.specs.declared.finding.Action.{Action}
use Rattle.track_guard.specs.declared.finding.Finding.{Finding}

-- ---- one packet

-- what is known of a demand, by where it is found
record Row (s : Situation) (source : Source) (valid : Bool) (found : Option Finding) (d : Demand) : Type 0 where
  is_valid : valid ≡ true
  is_found : found ≡ Some d.finding
  is_demanded : action_by (table d.finding) s.mode s.overridden ≡ Some d.action
  is_there : d.source ≡ source

by_demand : (s : Situation) (source : Source) (f : Finding) (a : Action) (d : Demand) → action_by (table f) s.mode s.overridden ≡ Some a
    → with_action source f a ≡ d → Row s source true (Some f) d
by_demand s source f a d k e = rw (sym e) (record { is_valid = refl; is_found = refl; is_demanded = k; is_there = refl })

abbrev inside : Demand → Option Demand → Demand
inside d None = d
inside d (Some x) = x

by_action : (s : Situation) (source : Source) (f : Finding) (a : Option Action) (d : Demand) → action_by (table f) s.mode s.overridden ≡ a
    → option_map (with_action source f) a ≡ Some d → Row s source true (Some f) d
by_action s source f None d k e = absurd cc
by_action s source f (Some a) d k e = by_demand s source f a d k (ap (inside d) e)

to_row : (s : Situation) (source : Source) (valid : Bool) (found : Option Finding) (d : Demand)
    → (if valid then demand_found s source found else None) ≡ Some d → Row s source valid found d
to_row s source false found d e = absurd cc
to_row s source true None d e = absurd cc
to_row s source true (Some f) d e = by_action s source f (action_by (table f) s.mode s.overridden) d refl e

from_row : (s : Situation) (source : Source) (valid : Bool) (found : Option Finding) (d : Demand) → Row s source valid found d
    → (if valid then demand_found s source found else None) ≡ Some d
from_row s source valid found d r =
    ap (λ b. if b then demand_found s source found else None) r.is_valid
    ∙ ap (λ f. demand_found s source f) r.is_found
    ∙ ap (λ (a : Option Action). option_map (with_action source d.finding) a) r.is_demanded
    ∙ ap (λ x. Some (with_action x d.finding d.action)) (sym r.is_there)

applies : (s : Situation) (bytes : List ℕ) (p : PacketPlace) (d : Demand) → demand_of_packet s bytes p ≡ Some d → Applies s bytes p d
applies s bytes p d e =
    let r = to_row s (sources.Packet p) (concerns p.direction s.direction) (finding_in p.number p.length (bits_from bytes p)) d e in
    record { valid = r.is_valid; found = r.is_found; demanded = r.is_demanded; source = r.is_there }

is_demanded_by : (s : Situation) (bytes : List ℕ) (p : PacketPlace) (d : Demand) → Applies s bytes p d → demand_of_packet s bytes p ≡ Some d
is_demanded_by s bytes p d a =
    from_row s (sources.Packet p) (concerns p.direction s.direction) (finding_in p.number p.length (bits_from bytes p)) d
    (record { is_valid = a.valid; is_found = a.found; is_demanded = a.demanded; is_there = a.source })

-- ---- all of them

none : {X : Type 0} (y : X) → Contains [] y → ⊥
none y (k, l, e) = omega (arith, l)

only : {X : Type 0} (x y : X) → Contains (x ∷ []) y → x ≡ y
only x y (zero, l, e) = e
only x y (suc k, l, e) = absurd (omega (arith, l))

first : {X : Type 0} (x : X) (xs : List X) → Contains (x ∷ xs) x
first x xs = (0, omega arith, refl)

-- it came of one of the packets
abbrev CameOf : (PacketPlace → Option Demand) → List PacketPlace → Demand → Type 0
CameOf h ps d = (p : PacketPlace) × Contains ps p × (h p ≡ Some d)

further : (h : PacketPlace → Option Demand) (p : PacketPlace) (ps : List PacketPlace) (d : Demand) → CameOf h ps d → CameOf h (p ∷ ps) d
further h p ps d (q, there, k) = (q, Contains-append_right (p ∷ []) ps q there, k)

at_first : (h : PacketPlace → Option Demand) (p : PacketPlace) (ps : List PacketPlace) (d : Demand) (o : Option Demand) → h p ≡ o
    → (Contains (filter_map h ps) d → CameOf h ps d) → Contains (cons_option o (filter_map h ps)) d → CameOf h (p ∷ ps) d
at_first h p ps d None e rest c = further h p ps d (rest c)
at_first h p ps d (Some x) e rest c = by_place (Contains-append_cases (x ∷ []) (filter_map h ps) d c)
  where
    by_place : Contains (x ∷ []) d ⊎ Contains (filter_map h ps) d → CameOf h (p ∷ ps) d
    by_place (inl here) = (p, first p ps, e ∙ ap (λ y. Some y) (only x d here))
    by_place (inr there) = further h p ps d (rest there)

came_of : (h : PacketPlace → Option Demand) (ps : List PacketPlace) (d : Demand) → Contains (filter_map h ps) d → CameOf h ps d
came_of h [] d c = absurd (none d c)
came_of h (p ∷ ps) d c = at_first h p ps d (h p) refl (came_of h ps d) c

-- what comes of the first packet, before the demands of the others
with_first : (x : Option Demand) (xs : List Demand) (d : Demand) → x ≡ Some d → Contains (cons_option x xs) d
with_first x xs d e = rw e (first d xs)

with_others : (x : Option Demand) (xs : List Demand) (d : Demand) → Contains xs d → Contains (cons_option x xs) d
with_others None xs d c = c
with_others (Some x) xs d c = Contains-append_right (x ∷ []) xs d c

by_packet : (h : PacketPlace → Option Demand) (p q : PacketPlace) (ps : List PacketPlace) (d : Demand) → h q ≡ Some d
    → (Contains ps q → Contains (filter_map h ps) d) → Contains (p ∷ []) q ⊎ Contains ps q → Contains (filter_map h (p ∷ ps)) d
by_packet h p q ps d e rest (inl here) = with_first (h p) (filter_map h ps) d (ap h (only p q here) ∙ e)
by_packet h p q ps d e rest (inr there) = with_others (h p) (filter_map h ps) d (rest there)

comes : (h : PacketPlace → Option Demand) (q : PacketPlace) (ps : List PacketPlace) (d : Demand) → h q ≡ Some d
    → Contains ps q → Contains (filter_map h ps) d
comes h q [] d e c = absurd (none q c)
comes h q (p ∷ ps) d e c = by_packet h p q ps d e (comes h q ps d e) (Contains-append_cases (p ∷ []) ps q c)

pub rows_are_demanded : RowsAreDemanded
rows_are_demanded s bytes packets d = (
  (λ c. let (p, there, e) = came_of (demand_of_packet s bytes) (before_infill packets) d c in (p, there, applies s bytes p d e)),
  (λ (p, there, a). comes (demand_of_packet s bytes) p (before_infill packets) d (is_demanded_by s bytes p d a) there),
)
