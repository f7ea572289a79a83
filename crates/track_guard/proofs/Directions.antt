-- Where the direction isn't known, what is demanded is what both directions demand.
use Rattle.std.proofs.Common.{◌≡◌, ℕ, Bool, true, false, ◌&&◌, if◌then◌else◌, List, [], ◌∷◌, ◌++◌, Option, Some, None, refl, sym, ap, subst, ◌∙◌, ◌⊎◌, inl, inr}
use Rattle.std.specs.List.{Contains, cons_option, filter, filter_map}
use Rattle.std.specs.Option.{option_map}
use Rattle.bits.specs.Bits.{bits_of}
use Rattle.std.proofs.lemmas.List.Elements.{Contains-append_left, Contains-append_right, Contains-append_cases, filter-append}
use Rattle.telegram.specs.declared.fault.TelegramFault.{TelegramFault}
use Rattle.track_packets.specs.declared.listing.PacketPlace.{PacketPlace}
use Rattle.vars.specs.declared.linking.LinkOrientation.{LinkOrientation}
use Rattle.vars.specs.declared.linking.LinkOrientation.TheVariants.{Nominal, Reverse}
use Rattle.vars.specs.declared.packet_head.ValidityDirection.{ValidityDirection}
use Rattle.vars.specs.declared.packet_head.ValidityDirection.TheVariants as q_dir
use Rattle.track_guard.specs.Demands.{before_infill, concerns, demand_found, demand_of_packet, demands_in, demands_of, fault_found, list_of, packets_found, with_action}
use Rattle.track_guard.specs.Findings.{finding_in, finding_of_fault}
use Rattle.track_guard.specs.Laws.{Applies, OnlyOneWayIsLeftOut, UnknownDemandsWhatEachDoes, bits_from, is_either_way, passing}
use Rattle.track_guard.specs.Table.{action_by, table}
use Rattle.track_guard.proofs.Applying.{rows_are_demanded}
use Rattle.track_guard.specs.declared.demanding.Demand.{Demand}
use Rattle.track_guard.specs.declared.demanding.Situation.{Situation}
use Rattle.track_guard.specs.declared.demanding.Source.{Source}
use Rattle.track_guard.specs.declared.demanding.Source.TheVariants as sources
use Rattle.track_guard.specs.declared.finding.Action.{Action}
use Rattle.track_guard.specs.declared.finding.Finding.{Finding}

-- ---- what is left out

abbrev stays : Demand → Bool
stays d = is_either_way d.source

-- whether a packet's demand stays, by its Q_DIR
abbrev counts : Option ValidityDirection → Bool
counts v = concerns v (Some Nominal) && concerns v (Some Reverse)

made : (p : PacketPlace) (f : Finding) (a : Option Action) (rest : List Demand)
    → filter stays (cons_option (option_map (with_action (sources.Packet p) f) a) rest)
    ≡ cons_option (if counts p.direction then option_map (with_action (sources.Packet p) f) a else None) (filter stays rest)
made p f None rest = by_case (counts p.direction)
  where
    by_case : (b : Bool) → filter stays rest ≡ cons_option (if b then None else None) (filter stays rest)
    by_case true = refl
    by_case false = refl
made p f (Some a) rest = by_case (counts p.direction)
  where
    by_case : (b : Bool) → (if b then with_action (sources.Packet p) f a ∷ filter stays rest else filter stays rest)
        ≡ cons_option (if b then Some (with_action (sources.Packet p) f a) else None) (filter stays rest)
    by_case true = refl
    by_case false = refl

found : (s : Situation) (p : PacketPlace) (o : Option Finding) (rest : List Demand)
    → filter stays (cons_option (demand_found s (sources.Packet p) o) rest)
    ≡ cons_option (if counts p.direction then demand_found s (sources.Packet p) o else None) (filter stays rest)
found s p None rest = by_case (counts p.direction)
  where
    by_case : (b : Bool) → filter stays rest ≡ cons_option (if b then None else None) (filter stays rest)
    by_case true = refl
    by_case false = refl
found s p (Some f) rest = made p f (action_by (table f) s.mode s.overridden) rest

-- .. by its Q_DIR
found_by : (s : Situation) (p : PacketPlace) (v : Option ValidityDirection) (o : Option Finding) (rest : List Demand) → p.direction ≡ v
    → filter stays (cons_option (demand_found s (sources.Packet p) o) rest)
    ≡ cons_option (if counts v then demand_found s (sources.Packet p) o else None) (filter stays rest)
found_by s p v o rest e =
    found s p o rest ∙ ap (λ (w : Option ValidityDirection). cons_option (if counts w then demand_found s (sources.Packet p) o else None) (filter stays rest)) e

-- one packet, by its Q_DIR and the direction
one_packet : (s : Situation) (p : PacketPlace) (v : Option ValidityDirection) (o : Option Finding) (passed : LinkOrientation) (rest : List Demand) → p.direction ≡ v
    → filter stays (cons_option (if concerns v (Some passed) then demand_found s (sources.Packet p) o else None) rest)
    ≡ cons_option (if concerns v None then demand_found s (sources.Packet p) o else None) (filter stays rest)
one_packet s p None o Nominal rest e = found_by s p None o rest e
one_packet s p None o Reverse rest e = found_by s p None o rest e
one_packet s p (Some q_dir.Both) o Nominal rest e = found_by s p (Some q_dir.Both) o rest e
one_packet s p (Some q_dir.Both) o Reverse rest e = found_by s p (Some q_dir.Both) o rest e
one_packet s p (Some q_dir.Nominal) o Nominal rest e = found_by s p (Some q_dir.Nominal) o rest e
one_packet s p (Some q_dir.Nominal) o Reverse rest e = refl
one_packet s p (Some q_dir.Reverse) o Nominal rest e = refl
one_packet s p (Some q_dir.Reverse) o Reverse rest e = found_by s p (Some q_dir.Reverse) o rest e

all_packets : (s : Situation) (bytes : List ℕ) (passed : LinkOrientation) (ps : List PacketPlace)
    → filter stays (filter_map (demand_of_packet (passing (Some passed) s) bytes) ps) ≡ filter_map (demand_of_packet (passing None s) bytes) ps
all_packets s bytes passed [] = refl
all_packets s bytes passed (p ∷ ps) =
    one_packet s p p.direction (finding_in p.number p.length (bits_from bytes p)) passed (filter_map (demand_of_packet (passing (Some passed) s) bytes) ps) refl
    ∙ ap (λ (xs : List Demand). cons_option (demand_of_packet (passing None s) bytes p) xs) (all_packets s bytes passed ps)

-- the demand of a refused telegram stays
of_fault : (s : Situation) (bytes : List ℕ) (fault : Option TelegramFault) (passed : LinkOrientation)
    → filter stays (fault_found (passing (Some passed) s) bytes fault) ≡ fault_found (passing None s) bytes fault
of_fault s bytes None passed = refl
of_fault s bytes (Some fault) passed = by_action (finding_of_fault fault (bits_of bytes)) (action_by (table (finding_of_fault fault (bits_of bytes))) s.mode s.overridden)
  where
    by_action : (f : Finding) (a : Option Action)
        → filter stays (list_of (option_map (with_action (sources.Refused fault) f) a)) ≡ list_of (option_map (with_action (sources.Refused fault) f) a)
    by_action f None = refl
    by_action f (Some a) = refl

pub only_one_way_is_left_out : OnlyOneWayIsLeftOut
only_one_way_is_left_out s bytes fault passed =
    sym (filter-append stays (fault_found (passing (Some passed) s) bytes fault) (demands_in (passing (Some passed) s) bytes (packets_found bytes))
    ∙ ap (λ (xs : List Demand). xs ++ filter stays (demands_in (passing (Some passed) s) bytes (packets_found bytes))) (of_fault s bytes fault passed)
    ∙ ap (λ (xs : List Demand). fault_found (passing None s) bytes fault ++ xs) (all_packets s bytes passed (before_infill (packets_found bytes))))

-- ---- what is in both lists

-- a packet that is valid in both directions is valid where the direction isn't known, and the other way round
both_ways : (v : Option ValidityDirection) → concerns v (Some Nominal) ≡ true → concerns v (Some Reverse) ≡ true → concerns v None ≡ true
both_ways None n r = refl
both_ways (Some q_dir.Both) n r = refl
both_ways (Some q_dir.Nominal) n r = r
both_ways (Some q_dir.Reverse) n r = n

each_way : (v : Option ValidityDirection) (passed : LinkOrientation) → concerns v None ≡ true → concerns v (Some passed) ≡ true
each_way None Nominal e = refl
each_way None Reverse e = refl
each_way (Some q_dir.Both) Nominal e = refl
each_way (Some q_dir.Both) Reverse e = refl
each_way (Some q_dir.Nominal) passed e = absurd cc
each_way (Some q_dir.Reverse) passed e = absurd cc

-- packets that demand
abbrev Demanding : Situation → List ℕ → Demand → Type 0
Demanding s bytes d = (p : PacketPlace) × Contains (before_infill (packets_found bytes)) p × Applies s bytes p d

abbrev packet_of : Source → PacketPlace → PacketPlace
packet_of (sources.Packet p) other = p
packet_of (sources.Refused fault) other = other

of_both : (s : Situation) (bytes : List ℕ) (d : Demand) → Demanding (passing (Some Nominal) s) bytes d → Demanding (passing (Some Reverse) s) bytes d
    → Demanding (passing None s) bytes d
of_both s bytes d (p, there, a) (q, there_too, b) =
    let same : q ≡ p = ap (λ x. packet_of x p) (sym b.source ∙ a.source) in
    (p, there, record { valid = both_ways p.direction a.valid (ap (λ (x : PacketPlace). concerns x.direction (Some Reverse)) (sym same) ∙ b.valid); found = a.found; demanded = a.demanded; source = a.source })

of_each : (s : Situation) (bytes : List ℕ) (d : Demand) (passed : LinkOrientation) → Demanding (passing None s) bytes d → Demanding (passing (Some passed) s) bytes d
of_each s bytes d passed (p, there, a) =
    (p, there, record { valid = each_way p.direction passed a.valid; found = a.found; demanded = a.demanded; source = a.source })

-- a demand in a list is that of the refused telegram, or of packets
parts : (s : Situation) (bytes : List ℕ) (fault : Option TelegramFault) (d : Demand) → Contains (demands_of s bytes fault) d
    → Contains (fault_found s bytes fault) d ⊎ Demanding s bytes d
parts s bytes fault d c = by_place (Contains-append_cases (fault_found s bytes fault) (demands_in s bytes (packets_found bytes)) d c)
  where
    by_place : Contains (fault_found s bytes fault) d ⊎ Contains (demands_in s bytes (packets_found bytes)) d → Contains (fault_found s bytes fault) d ⊎ Demanding s bytes d
    by_place (inl here) = inl here
    by_place (inr there) = inr ((rows_are_demanded s bytes (packets_found bytes) d).0 there)

whole : (s : Situation) (bytes : List ℕ) (fault : Option TelegramFault) (d : Demand) → Contains (fault_found s bytes fault) d ⊎ Demanding s bytes d
    → Contains (demands_of s bytes fault) d
whole s bytes fault d (inl here) = Contains-append_left (fault_found s bytes fault) (demands_in s bytes (packets_found bytes)) d here
whole s bytes fault d (inr there) =
    Contains-append_right (fault_found s bytes fault) (demands_in s bytes (packets_found bytes)) d ((rows_are_demanded s bytes (packets_found bytes) d).1 there)

-- what a refused telegram demands is the same in each direction
same_fault : (s : Situation) (bytes : List ℕ) (fault : Option TelegramFault) (a b : Option LinkOrientation)
    → fault_found (passing a s) bytes fault ≡ fault_found (passing b s) bytes fault
same_fault s bytes None a b = refl
same_fault s bytes (Some fault) a b = refl

fault_there : (s : Situation) (bytes : List ℕ) (fault : Option TelegramFault) (d : Demand) (a b : Option LinkOrientation)
    → Contains (fault_found (passing a s) bytes fault) d → Contains (fault_found (passing b s) bytes fault) d
fault_there s bytes fault d a b c = subst (λ (xs : List Demand). Contains xs d) (same_fault s bytes fault a b) c

to_each : (s : Situation) (bytes : List ℕ) (fault : Option TelegramFault) (d : Demand) (passed : LinkOrientation)
    → Contains (fault_found (passing None s) bytes fault) d ⊎ Demanding (passing None s) bytes d
    → Contains (fault_found (passing (Some passed) s) bytes fault) d ⊎ Demanding (passing (Some passed) s) bytes d
to_each s bytes fault d passed (inl here) = inl (fault_there s bytes fault d None (Some passed) here)
to_each s bytes fault d passed (inr there) = inr (of_each s bytes d passed there)

from_both : (s : Situation) (bytes : List ℕ) (fault : Option TelegramFault) (d : Demand)
    → Contains (fault_found (passing (Some Nominal) s) bytes fault) d ⊎ Demanding (passing (Some Nominal) s) bytes d
    → Contains (fault_found (passing (Some Reverse) s) bytes fault) d ⊎ Demanding (passing (Some Reverse) s) bytes d
    → Contains (fault_found (passing None s) bytes fault) d ⊎ Demanding (passing None s) bytes d
from_both s bytes fault d (inl here) r = inl (fault_there s bytes fault d (Some Nominal) None here)
from_both s bytes fault d (inr there) (inl here) = inl (fault_there s bytes fault d (Some Reverse) None here)
from_both s bytes fault d (inr there) (inr there_too) = inr (of_both s bytes d there there_too)

pub unknown_demands_what_each_does : UnknownDemandsWhatEachDoes
unknown_demands_what_each_does s bytes fault d = (
  (λ c. let p = parts (passing None s) bytes fault d c in
      (whole (passing (Some Nominal) s) bytes fault d (to_each s bytes fault d Nominal p), whole (passing (Some Reverse) s) bytes fault d (to_each s bytes fault d Reverse p))),
  (λ (n, r). whole (passing None s) bytes fault d
      (from_both s bytes fault d (parts (passing (Some Nominal) s) bytes fault d n) (parts (passing (Some Reverse) s) bytes fault d r))),
)
