-- What the driver is shown, as one number (this project's profile).
use Rattle.std.specs.Prelude.{ℕ, ◌+◌, Bool, if◌then◌else◌}
use Rattle.events.specs.declared.output.Indications.{Indications}

abbrev pub flag_value : Bool → ℕ → ℕ
flag_value indications number = if indications then number else 0

abbrev pub number_of : Indications → ℕ
number_of indications =
    flag_value indications.on_sight 1 + flag_value indications.shunting 2 + flag_value indications.level_0 4 + flag_value indications.trip 8
    + flag_value indications.overridden 16 + flag_value indications.not_revalidated 32 + flag_value indications.overspeed 64
