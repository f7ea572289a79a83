-- The mark of the restrictions is that which is kept next to them: no packet changes it.
use Rattle.std.proofs.Common.{◌≡◌, ◌≤ℤ◌, ℤ, List, [], ◌∷◌, Option, Some, None, refl, ap, ◌∙◌, arith}
use Rattle.std.proofs.lemmas.Int.{ints}
use Rattle.std.specs.Int.{int_max}
use Rattle.std.specs.Option.{option_map_or}
use Rattle.packets.specs.Packets.{as_speed_restriction, as_revocation}
use Rattle.track_store.specs.Restrictions as track
use Rattle.track_store.specs.Restrictions.RestrictionEntry.{Restricted, Revoked}
use Rattle.track_picture.specs.Entry.{Fact}
use Rattle.track_picture.specs.Columns.{TrackReports, reported_in, earlier_reported, later_reported, after_restriction, after_revocation}
use Rattle.track_picture.specs.Live.{Happening, restriction_of}

maybe_unmarked : {P : Type 0} (entry : P → track.RestrictionEntry) (packet : Option P) (reported : List track.RestrictionEntry) →
    ((p : P) → track.mark_of (entry p ∷ reported) ≡ track.mark_of reported) →
    track.mark_of (option_map_or (λ p. entry p ∷ reported) packet reported) ≡ track.mark_of reported
maybe_unmarked entry None reported same = refl
maybe_unmarked entry (Some p) reported same = same p

pub restriction_unmarked : (fact : Fact) (reported : List track.RestrictionEntry) → track.mark_of (after_restriction fact reported) ≡ track.mark_of reported
restriction_unmarked fact reported =
    maybe_unmarked (λ p. Restricted (restriction_of fact.place p)) (as_speed_restriction fact.packet) reported (λ p. refl)

pub revocation_unmarked : (fact : Fact) (reported : List track.RestrictionEntry) → track.mark_of (after_revocation fact reported) ≡ track.mark_of reported
revocation_unmarked fact reported = maybe_unmarked (λ p. Revoked p.number) (as_revocation fact.packet) reported (λ p. refl)

-- ---- of a whole life

reported_unmarked : (fact : Fact) (reported : TrackReports) → track.mark_of (later_reported fact (earlier_reported fact reported)).restrictions ≡ track.mark_of reported.restrictions
reported_unmarked fact reported =
    revocation_unmarked fact (after_restriction fact reported.restrictions) ∙ restriction_unmarked fact reported.restrictions

pub one_mark : (hs : List Happening) → track.mark_of (reported_in hs).restrictions ≡ (reported_in hs).mark
one_mark [] = refl
one_mark (Happening.Marked mark ∷ hs) = ap (int_max mark) (one_mark hs)
one_mark (Happening.Reported fact ∷ hs) = reported_unmarked fact (reported_in hs) ∙ one_mark hs
one_mark (other ∷ hs) = one_mark hs

-- a mark that isn't ahead changes nothing
pub kept_mark : (mark before : ℤ) → mark ≤ℤ before → int_max mark before ≡ before
kept_mark mark before following = grind (arith, ints)
