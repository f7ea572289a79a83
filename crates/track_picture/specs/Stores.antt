-- What contracts see of the two stores of the profiles, however these keep them (this project's profile).
use Rattle.std.specs.Prelude.{ℕ, ℤ}
use Rattle.speed_profile.specs.declared.reported.CategorySpeeds.{CategorySpeeds}
use Rattle.track_store.specs.Profiles.{Profile}
use Rattle.track_store.specs.Remembered as remembered
use Rattle.track_store.specs.Remembered.{Listed, profile_listed}
use Rattle.track_store.specs.Segments as segments
use Rattle.track_store.specs.Segments.{Segmented, profile_kept}

-- the gradients and the static speeds that are read off them; for how many packets each has space; how much each keeps
pub record Stores (G S : Type 0) : Type 0 where
  pub gradients : G → Profile ℤ
  pub speeds : S → Profile CategorySpeeds
  pub gradients_space : G → ℕ
  pub speeds_space : S → ℕ
  pub gradients_size : G → ℕ
  pub speeds_size : S → ℕ

-- two stores of segments
abbrev pub segment_stores : Stores (Segmented ℤ) (Segmented CategorySpeeds)
segment_stores =
    record {
      gradients = profile_kept;
      speeds = profile_kept;
      gradients_space = λ kept. kept.space;
      speeds_space = λ kept. kept.space;
      gradients_size = segments.size_of;
      speeds_size = segments.size_of;
    }

-- .. of facts
abbrev pub fact_stores : Stores (Listed ℤ) (Listed CategorySpeeds)
fact_stores =
    record {
      gradients = profile_listed;
      speeds = profile_listed;
      gradients_space = λ listed. listed.space;
      speeds_space = λ listed. listed.space;
      gradients_size = remembered.size_of;
      speeds_size = remembered.size_of;
    }
