-- What is known represents a life (this project's profile). Places are centimetres, moments milliseconds.
use Rattle.std.specs.Prelude.{◌≡◌, ℕ, Option}
use Rattle.areas.specs.declared.acknowledgement.Acknowledgement.{Acknowledgement}
use Rattle.driver.specs.declared.action.Action.{Action}
use Rattle.driver.specs.Known as driver
use Rattle.mode_table.specs.declared.mode.Mode.{Mode}
use Rattle.track_picture.specs.StandsFor as track_picture
use Rattle.track_picture.specs.Stores.{Stores}
use Rattle.mode_control.specs.History.{mode_of, staff_from, done_in, on_sight_of, shunting_of, level_0_of}
use Rattle.mode_control.specs.Life.{Life, track_of, driver_of}

-- what each part knows but for what the track sent
pub record KnownModes : Type 0 where
  pub driver : driver.KnownItems
  pub mode : Mode
  pub staff_from : ℕ
  pub on_sight : Acknowledgement
  pub shunting : Acknowledgement
  pub level_0 : Acknowledgement
  pub done : Option Action

-- .. and what the track sent
pub record Knowledge (G S : Type 0) : Type 0 where
  pub parts : KnownModes
  pub track : track_picture.Knowledge G S

-- what the parts know of a life
abbrev pub parts_of : Life → KnownModes
parts_of life = record {
  driver = driver_of life;
  mode = mode_of life.entries;
  staff_from = staff_from life.entries;
  on_sight = on_sight_of life.entries;
  shunting = shunting_of life.entries;
  level_0 = level_0_of life.entries;
  done = done_in life.entries;
}

-- it represents a life; what the two stores give is read off them so
pub record StandsForLife {G S : Type 0} (stores : Stores G S) (known : Knowledge G S) (life : Life) : Type 0 where
  pub parts_are : known.parts ≡ parts_of life
  pub track_is : track_picture.StandsForLife stores known.track (track_of life)
