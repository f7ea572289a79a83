-- What a steady limit is for stays while nothing comes, and where it is so it is the limit.
use Rattle.std.proofs.Common.{◌≡◌, ap, sym, ◌∙◌}
use Rattle.authority.specs.Untimed.{IsUntimed}
use Rattle.authority.proofs.Untimed.{same_end, same_main_speed}
use Rattle.mode_table.specs.declared.mode.Mode.{Mode}
use Rattle.mode_table.specs.declared.mode.Mode.TheVariants.{FullSupervision}
use Rattle.track_picture.specs.History.{authority_of, authorities}
use Rattle.track_picture.specs.StandsFor.{national_of}
use Rattle.mode_control.specs.History.{tracks, mode_of}
use Rattle.mode_control.specs.Life.{Life, track_of, driver_of}
use Rattle.mode_control.specs.Sentences.{span_of}
use Rattle.speed_supervision.specs.declared.steady.SteadyLimit.{SteadyLimit}
use Rattle.speed_supervision.specs.Limit.{in_areas, limit_in, permitted_for, limit}
use Rattle.speed_supervision.specs.Steady.{IsWithin, IsFor, IsSteady}
use Rattle.speed_supervision.proofs.Remaining.{permitted_is}

-- two lives with the same data of the train, national values in force and authority, of which no time runs
pub record AreAlike (one other : Life) : Type 0 where
  pub driver : driver_of other ≡ driver_of one
  pub values : national_of (track_of other) ≡ national_of (track_of one)
  pub stored : (authority_of (tracks one.entries)).stored ≡ (authority_of (tracks other.entries)).stored
  pub untimed : IsUntimed (authority_of (tracks one.entries)).stored

pub for_alike : {one other : Life} → AreAlike one other → (steady : SteadyLimit) → IsFor steady one → IsFor steady other
for_alike {one} {other} alike steady is =
    let end = same_end (authorities (tracks one.entries)) (authorities (tracks other.entries)) alike.stored alike.untimed in
    let main = same_main_speed (authorities (tracks one.entries)) (authorities (tracks other.entries)) alike.stored in
    record {
      train = is.train;
      valid = ap (λ d. d.train_data) alike.driver ∙ is.valid;
      bounds = is.bounds ∙ (λ i. record { maximum = is.train.maximum; category = is.train.category; main = main i; end = end i });
      brakes = is.brakes;
      national = is.national ∙ sym (ap (λ v. in_areas v.in_force.values) alike.values);
    }

pub steady_limit : (steady : SteadyLimit) (life : Life) → mode_of life.entries ≡ FullSupervision → IsFor steady life → IsSteady steady life →
    IsWithin steady (span_of life) → steady.limit ≡ limit life
steady_limit steady life mode is lasts within =
    permitted_is steady life is.train lasts within is.bounds is.brakes is.national
    ∙ (λ i. sym (ap (permitted_for life) is.valid) i)
    ∙ sym (ap (λ (m : Mode). limit_in m life) mode)
