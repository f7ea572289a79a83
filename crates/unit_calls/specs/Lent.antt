-- What a handle's pointer holds where it lies, lent for a call (this project's profile).
use Rattle.std.specs.Prelude.{Some}
use Rattle.std.specs.Borrow.{Lends, MutBor, Fml}
use Rattle.unit_calls.specs.declared.handle.Content.{Content}
use Rattle.unit_calls.specs.contracts.handle.Content.{the_row as content_row}
use Rattle.unit_calls.specs.declared.raw.Raw.{Raw}
use Rattle.unit_calls.specs.contracts.raw.Raw.{the_row as raw_row}

-- once the borrow r ends, what s holds is the last value after r
abbrev pub LendsHeld : MutBor Raw → MutBor Content → Fml
LendsHeld s r = Lends raw_row content_row s r (λ w. record s.now { value = Some w })
