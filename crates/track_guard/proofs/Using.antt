-- Packets that the kernel uses demand nothing.
use Rattle.std.proofs.Common.{◌≡◌, ℕ, ◌==◌, Bool, true, false, if◌then◌else◌, List, [], ◌∷◌, Option, None, refl, ap, ◌∙◌}
use Rattle.std.specs.List.{cons_option, filter_map}
use Rattle.std.proofs.lemmas.Bool.{eqb-true}
use Rattle.mode_table.specs.Packets.{uses}
use Rattle.mode_table.specs.declared.mode.Mode.{Mode}
use Rattle.mode_table.specs.declared.mode.Mode.TheVariants.{FullSupervision, OnSight, StaffResponsible, Shunting, Unfitted, StandBy, Trip, PostTrip, SystemFailure}
use Rattle.track_packets.specs.declared.listing.PacketPlace.{PacketPlace}
use Rattle.track_guard.specs.Demands.{before_infill, concerns, demand_found, demand_of_packet}
use Rattle.track_guard.specs.Findings.{endless, finding_in, is_endless}
use Rattle.track_guard.specs.Laws.{IsUsedInFull, UsedDemandsNothing, bits_from}
use Rattle.track_guard.specs.declared.demanding.Demand.{Demand}
use Rattle.track_guard.specs.declared.demanding.Situation.{Situation}
use Rattle.track_guard.specs.declared.demanding.Source.{Source}
use Rattle.track_guard.specs.declared.demanding.Source.TheVariants as sources
use Rattle.track_guard.specs.declared.finding.Finding.{Finding}

-- ---- no mode uses the packets of the table, but for 12

record Unused (mode : Mode) : Type 0 where
  no_16 : uses mode 16 ≡ false
  no_46 : uses mode 46 ≡ false
  no_49 : uses mode 49 ≡ false
  no_51 : uses mode 51 ≡ false
  no_70 : uses mode 70 ≡ false
  no_71 : uses mode 71 ≡ false
  no_132 : uses mode 132 ≡ false
  no_135 : uses mode 135 ≡ false
  no_137 : uses mode 137 ≡ false

unused : (mode : Mode) → Unused mode
unused FullSupervision = record { no_16 = refl; no_46 = refl; no_49 = refl; no_51 = refl; no_70 = refl; no_71 = refl; no_132 = refl; no_135 = refl; no_137 = refl }
unused OnSight = record { no_16 = refl; no_46 = refl; no_49 = refl; no_51 = refl; no_70 = refl; no_71 = refl; no_132 = refl; no_135 = refl; no_137 = refl }
unused StaffResponsible = record { no_16 = refl; no_46 = refl; no_49 = refl; no_51 = refl; no_70 = refl; no_71 = refl; no_132 = refl; no_135 = refl; no_137 = refl }
unused Shunting = record { no_16 = refl; no_46 = refl; no_49 = refl; no_51 = refl; no_70 = refl; no_71 = refl; no_132 = refl; no_135 = refl; no_137 = refl }
unused Unfitted = record { no_16 = refl; no_46 = refl; no_49 = refl; no_51 = refl; no_70 = refl; no_71 = refl; no_132 = refl; no_135 = refl; no_137 = refl }
unused StandBy = record { no_16 = refl; no_46 = refl; no_49 = refl; no_51 = refl; no_70 = refl; no_71 = refl; no_132 = refl; no_135 = refl; no_137 = refl }
unused Trip = record { no_16 = refl; no_46 = refl; no_49 = refl; no_51 = refl; no_70 = refl; no_71 = refl; no_132 = refl; no_135 = refl; no_137 = refl }
unused PostTrip = record { no_16 = refl; no_46 = refl; no_49 = refl; no_51 = refl; no_70 = refl; no_71 = refl; no_132 = refl; no_135 = refl; no_137 = refl }
unused SystemFailure = record { no_16 = refl; no_46 = refl; no_49 = refl; no_51 = refl; no_70 = refl; no_71 = refl; no_132 = refl; no_135 = refl; no_137 = refl }

differs : (mode : Mode) (n k : ℕ) (same : Bool) → (n == k) ≡ same → uses mode n ≡ true → uses mode k ≡ false → same ≡ false
differs mode n k false e u f = refl
differs mode n k true e u f =
    let is = ap (λ x. uses mode x) (eqb-true n k e) in
    absurd cc

is_other : (mode : Mode) (n k : ℕ) → uses mode n ≡ true → uses mode k ≡ false → (n == k) ≡ false
is_other mode n k u f = differs mode n k (n == k) refl u f

-- ---- nothing is found in what is used

in_authority : (n : ℕ) (bits : List Bool) (is_12 : Bool) → (n == 12) ≡ is_12 → (n ≡ 12 → is_endless bits ≡ false)
    → (if is_12 then endless (is_endless bits) else None) ≡ None
in_authority n bits false e ends = refl
in_authority n bits true e ends = ap endless (ends (eqb-true n 12 e))

finds_nothing : (mode : Mode) (n length : ℕ) (bits : List Bool) → uses mode n ≡ true → (n ≡ 12 → is_endless bits ≡ false) → finding_in n length bits ≡ None
finds_nothing mode n length bits u ends =
    let no = unused mode in
    rw (
      is_other mode n 137 u no.no_137,
      is_other mode n 132 u no.no_132,
      is_other mode n 49 u no.no_49,
      is_other mode n 135 u no.no_135,
      is_other mode n 16 u no.no_16,
      is_other mode n 46 u no.no_46,
      is_other mode n 51 u no.no_51,
      is_other mode n 70 u no.no_70,
      is_other mode n 71 u no.no_71,
    )
    (in_authority n bits (n == 12) refl ends)

not_found : (s : Situation) (source : Source) (valid : Bool) (found : Option Finding) → found ≡ None
    → (if valid then demand_found s source found else None) ≡ None
not_found s source true found e = ap (λ f. demand_found s source f) e
not_found s source false found e = refl

demands_nothing : (s : Situation) (bytes : List ℕ) (p : PacketPlace) → IsUsedInFull s bytes p → demand_of_packet s bytes p ≡ None
demands_nothing s bytes p i =
    not_found s (sources.Packet p) (concerns p.direction s.direction) (finding_in p.number p.length (bits_from bytes p))
    (finds_nothing s.mode p.number p.length (bits_from bytes p) i.used i.ends)

-- ---- all of them

at_first : (h : PacketPlace → Option Demand) (p : PacketPlace) (ps : List PacketPlace) (is_infill : Bool) → h p ≡ None
    → filter_map h (before_infill ps) ≡ [] → filter_map h (if is_infill then [] else p ∷ before_infill ps) ≡ []
at_first h p ps true e rest = refl
at_first h p ps false e rest = ap (λ (o : Option Demand). cons_option o (filter_map h (before_infill ps))) e ∙ rest

pub used_demands_nothing : UsedDemandsNothing
used_demands_nothing s bytes [] used = refl
used_demands_nothing s bytes (p ∷ ps) (used, others) =
    at_first (demand_of_packet s bytes) p ps (p.number == 136) (demands_nothing s bytes p used) (used_demands_nothing s bytes ps others)
