-- The numbers of the causes for which a group gives no message (this project's profile).
use Rattle.std.specs.Prelude.{ℕ}
use Rattle.balise_groups.specs.declared.message.Cause.{Cause}
use Rattle.balise_groups.specs.declared.message.Cause.TheVariants.{Missing, Counter, Mixed}

abbrev pub cause_number : Cause → ℕ
cause_number Missing = 1
cause_number Counter = 2
cause_number Mixed = 3
