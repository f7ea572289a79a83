-- The gradients and the static speeds that count are those of their lists, and so is the forgetting mark.
use Rattle.std.proofs.Common.{◌≡◌, ℕ, ℤ, List, [], ◌∷◌, refl, ap}
use Rattle.std.specs.Int.{int_max}
use Rattle.vars.specs.declared.group.GroupIdentity.{GroupIdentity}
use Rattle.mode_table.specs.declared.statuses.Item.TheVariants as item
use Rattle.packets.specs.declared.packet.Packet.{Packet}
use Rattle.packets.specs.declared.packet.Packet.TheVariants as packets
use Rattle.speed_profile.specs.declared.reported.CategorySpeeds.{CategorySpeeds}
use Rattle.speed_profile.specs.Reported.{gradient_fact, speed_fact}
use Rattle.track_store.specs.Facts as profiles
use Rattle.track_store.proofs.Standing.{filter-true}
use Rattle.track_picture.specs.Columns.{TrackReports, reported_in, none_reported}
use Rattle.track_picture.specs.Live.{Happening, level_reported, deleting}
use Rattle.track_picture.specs.Parts.{gradients_in, speeds_in, mark_in}
use Rattle.track_picture.proofs.EachKind.{gradients, speeds}
use Rattle.track_picture.proofs.OneKind.{Follows, fact_with, by_mode, follows, past_linked, past_links, past_level}

abbrev grades : TrackReports → List (profiles.Fact ℤ)
grades reported = reported.gradients

gradients_reported : (group : GroupIdentity) (place : ℤ) (moment : ℕ) (packet : Packet) (reported : TrackReports) →
    Follows gradients grades (Happening.Reported (fact_with group place moment packet)) reported
gradients_reported g p m (packets.Gradients q) reported = ap (λ xs. gradient_fact p q ∷ xs) (filter-true reported.gradients)
gradients_reported g p m (packets.Linking q) reported = past_links gradients (λ a. refl) g p q reported.gradients
gradients_reported g p m (packets.LevelTransition q) reported =
    past_level gradients (λ a. refl) (level_reported (fact_with g p m (packets.LevelTransition q))) reported.gradients
gradients_reported g p m other reported = filter-true reported.gradients

gradients_one : (h : Happening) (reported : TrackReports) → Follows gradients grades h reported
gradients_one (Happening.Reported fact) reported = gradients_reported fact.group fact.place fact.moment fact.packet reported
gradients_one (Happening.Linked entry) reported = past_linked gradients refl entry reported.gradients
gradients_one (Happening.Entered mode) reported = by_mode gradients (λ xs. xs) none_reported (λ xs. refl) (deleting item.Profiles mode) reported.gradients
gradients_one other reported = filter-true reported.gradients

pub gradients_are : (hs : List Happening) → gradients_in hs ≡ (reported_in hs).gradients
gradients_are = follows gradients grades refl gradients_one

abbrev limits : TrackReports → List (profiles.Fact CategorySpeeds)
limits reported = reported.speeds

speeds_reported : (group : GroupIdentity) (place : ℤ) (moment : ℕ) (packet : Packet) (reported : TrackReports) →
    Follows speeds limits (Happening.Reported (fact_with group place moment packet)) reported
speeds_reported g p m (packets.StaticSpeeds q) reported = ap (λ xs. speed_fact p q ∷ xs) (filter-true reported.speeds)
speeds_reported g p m (packets.Linking q) reported = past_links speeds (λ a. refl) g p q reported.speeds
speeds_reported g p m (packets.LevelTransition q) reported =
    past_level speeds (λ a. refl) (level_reported (fact_with g p m (packets.LevelTransition q))) reported.speeds
speeds_reported g p m other reported = filter-true reported.speeds

speeds_one : (h : Happening) (reported : TrackReports) → Follows speeds limits h reported
speeds_one (Happening.Reported fact) reported = speeds_reported fact.group fact.place fact.moment fact.packet reported
speeds_one (Happening.Linked entry) reported = past_linked speeds refl entry reported.speeds
speeds_one (Happening.Entered mode) reported = by_mode speeds (λ xs. xs) none_reported (λ xs. refl) (deleting item.Profiles mode) reported.speeds
speeds_one other reported = filter-true reported.speeds

pub speeds_are : (hs : List Happening) → speeds_in hs ≡ (reported_in hs).speeds
speeds_are = follows speeds limits refl speeds_one

pub mark_is : (hs : List Happening) → mark_in hs ≡ (reported_in hs).mark
mark_is [] = refl
mark_is (Happening.Marked mark ∷ hs) = ap (int_max mark) (mark_is hs)
mark_is (other ∷ hs) = mark_is hs
