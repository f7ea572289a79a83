-- The numbers by which C sees what isn't a number (this project's profile; docs/explain/brakes.md has what decides a
-- limit at length). What isn't known is 0.
use Rattle.std.specs.Prelude.{ℕ, ℤ, pos, Bool, if◌then◌else◌, Option, Some, None}
use Rattle.reasons.specs.declared.limit_texts.LimitKind.{LimitKind}
use Rattle.reasons.specs.declared.limit_texts.LimitKind.TheVariants as kind

-- the number of the interface
abbrev pub this_abi : ℕ
this_abi = 6

abbrev pub flag_of : Bool → ℕ
flag_of set = if set then 1 else 0

abbrev pub or_zero : Option ℕ → ℕ
or_zero None = 0
or_zero (Some n) = n

abbrev pub place_or_zero : Option ℤ → ℤ
place_or_zero None = pos 0
place_or_zero (Some place) = place

-- what decides a limit
abbrev pub limit_number : LimitKind → ℕ
limit_number kind.NoSpeed = 1
limit_number kind.NoTrainData = 2
limit_number kind.StaffResponsible = 3
limit_number kind.Override = 4
limit_number kind.Shunting = 5
limit_number kind.Unfitted = 6
limit_number kind.Maximum = 7
limit_number kind.Main = 8
limit_number kind.End = 9
limit_number kind.StaticSpeed = 10
limit_number kind.Restriction = 11
limit_number kind.Area = 12
limit_number kind.StaticSpeedAhead = 13
limit_number kind.UnknownSpeedAhead = 14
limit_number kind.RestrictionAhead = 15
limit_number kind.AreaAhead = 16
limit_number kind.EndOfAuthority = 17
limit_number kind.SupervisedLocation = 18
limit_number kind.Release = 19
limit_number kind.NationalRelease = 20
