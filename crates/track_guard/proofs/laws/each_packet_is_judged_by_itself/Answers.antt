use Rattle.std.proofs.Common.{◌≡◌, ◌==◌, false, List, [], ◌∷◌, ◌++◌, refl, sym, ap, ◌∙◌}
use Rattle.std.specs.List.{AllByRecursion as Each, filter_map}
use Rattle.std.proofs.lemmas.List.Elements.{filter_map-append}
use Rattle.track_packets.specs.declared.listing.PacketPlace.{PacketPlace}
use Rattle.track_guard.specs.Demands.{before_infill, demand_of_packet}
use Rattle.track_guard.proofs.laws.each_packet_is_judged_by_itself.Goals as goal

kept : (first others : List PacketPlace) → Each (λ p. (p.number == 136) ≡ false) first → before_infill (first ++ others) ≡ first ++ before_infill others
kept [] others e = refl
kept (p ∷ ps) others (e, es) = rw e (ap (λ (xs : List PacketPlace). p ∷ xs) (kept ps others es))

single : (first : List PacketPlace) → Each (λ p. (p.number == 136) ≡ false) first → before_infill first ≡ first
single [] e = refl
single (p ∷ ps) (e, es) = rw e (ap (λ (xs : List PacketPlace). p ∷ xs) (single ps es))

pub returns : goal.returns
returns c = λ s bytes first others e.
    ap (λ (ps : List PacketPlace). filter_map (demand_of_packet s bytes) ps) (kept first others e)
    ∙ filter_map-append (demand_of_packet s bytes) first (before_infill others)
    ∙ sym (ap (λ (ps : List PacketPlace). filter_map (demand_of_packet s bytes) ps ++ filter_map (demand_of_packet s bytes) (before_infill others)) (single first e))
