use Rattle.std.proofs.Common.{◌≡◌, ◌↔◌, ℤ, subst, IsSome, IfSome}
use Rattle.units.specs.Limits.{IsCm}
use Rattle.units.proofs.Sums.{difference_fits}
use Rattle.units.proofs.cm.Cm.checked_sub.Goals as goal

pub returns-clause-found : goal.returns-clause-found
returns-clause-found c = subst (λ (z : ℤ). IsSome c.new.result ↔ IsCm z) (difference_fits c.self.view_is c.other.view_is c.self.invariant c.other.invariant) c.new.ensures.found

pub returns-clause-value : goal.returns-clause-value
returns-clause-value c = subst (λ (z : ℤ). IfSome c.new.result (λ r. r ≡ z)) (difference_fits c.self.view_is c.other.view_is c.self.invariant c.other.invariant) c.new.ensures.value
