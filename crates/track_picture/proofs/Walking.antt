-- One packet of a walk over the packets of a group, and a walk for which there is none.
use Rattle.std.proofs.Common.{◌≡◌, Bool, true, false, Option, Some, None, List, [], ◌∷◌, cond, refl, ap, ◌∙◌}
use Rattle.std.specs.Prelude.{map, filter, is_some}
use Rattle.std.specs.List.{list_any}
use Rattle.std.specs.Option.{option_map_or}
use Rattle.balise_groups.proofs.Places.{or_left, or_right}
use Rattle.packets.specs.declared.packet.Packet.{Packet}
use Rattle.packets.specs.Packets.{as_revocation, as_mode_profile}
use Rattle.track_picture.specs.declared.using.Use.{Use}
use Rattle.track_picture.specs.Entry.{Fact}
use Rattle.track_picture.specs.Columns.{after_facts}
use Rattle.track_picture.specs.Sentences.{is_used}
use Rattle.track_picture.specs.Steps.{fact_of, facts}
use Rattle.track_picture.specs.Reported.{Walked, after_later}
use Rattle.track_picture.specs.Happenings.{comes_later}

module _ {A : Type 0} (describe : Fact → A → A) (used : Use) (packet : Packet) (rest : List Packet) (reported : A) where
  by_use : (b : Bool) →
      after_facts describe (map (fact_of used) (cond b (packet ∷ filter (is_used used.mode used.direction) rest) (filter (is_used used.mode used.direction) rest))) reported
      ≡ after_facts describe (facts used rest) (cond b (describe (fact_of used packet) reported) reported)
  by_use true = refl
  by_use false = refl

  -- what it says where it is used, and then the others
  pub one_packet : after_facts describe (facts used (packet ∷ rest)) reported
      ≡ after_facts describe (facts used rest) (cond (is_used used.mode used.direction packet) (describe (fact_of used packet) reported) reported)
  one_packet = by_use (is_used used.mode used.direction packet)

-- ---- a packet that isn't for the second walk says it nothing

nothing_reported : {A B : Type 0} (describe : A → B) (o : Option A) (reported : B) → is_some o ≡ false → option_map_or describe o reported ≡ reported
nothing_reported describe None reported h = refl
nothing_reported describe (Some a) reported h = cc

stays : (fact : Fact) (walked : Walked) → comes_later fact.packet ≡ false → after_later fact walked ≡ walked
stays fact walked h =
    let reported = walked.reported in
    let revocation = nothing_reported _ (as_revocation fact.packet) reported.restrictions (or_left _ _ h) in
    let areas = nothing_reported _ (as_mode_profile fact.packet) reported.areas (or_right _ _ h) in
    (λ i. record walked { reported = record reported { restrictions = revocation i; areas = areas i } })

stays_so : (fact : Fact) (walked : Walked) → comes_later fact.packet ≡ false → (b : Bool) → cond b (after_later fact walked) walked ≡ walked
stays_so fact walked h true = stays fact walked h
stays_so fact walked h false = refl

pub none_later : (used : Use) (packets : List Packet) (walked : Walked) → list_any comes_later packets ≡ false →
    after_facts after_later (facts used packets) walked ≡ walked
none_later used [] walked h = refl
none_later used (packet ∷ packets) walked h =
    one_packet after_later used packet packets walked
    ∙ ap (after_facts after_later (facts used packets))
    (stays_so (fact_of used packet) walked (or_left (comes_later packet) (list_any comes_later packets) h) (is_used used.mode used.direction packet))
    ∙ none_later used packets walked (or_right (comes_later packet) (list_any comes_later packets) h)
