use Rattle.std.proofs.Common.{◌≡◌, ◌≤◌, ◌<◌, ℕ, zero, suc, true, false, List, [], ◌∷◌, length, slice_index_or, refl, ap, ◌∙◌, arith}
use Rattle.std.specs.List.{AllByRecursion as Each, Contains}
use Rattle.events.specs.declared.output.Brake.{Brake}
use Rattle.events.specs.declared.output.Brake.TheVariants as brakes
use Rattle.track_guard.specs.Guarding.{Event, after, after_all, brake_of, brake_of_all, empty, heard, is_no_release, strength, stronger}
use Rattle.track_guard.specs.declared.demanding.Demand.{Demand}
use Rattle.track_guard.specs.declared.finding.Action.TheVariants as actions
use Rattle.track_guard.specs.declared.guard.Guard.{Guard}
use Rattle.track_guard.specs.declared.guard.Policy.TheVariants.{Strict, Warn}
use Rattle.track_guard.proofs.laws.guard_only_adds_braking.Goals as goal

-- ---- it only adds

not_weaker : (a b : Brake) → strength a ≤ strength (stronger a b)
not_weaker brakes.Emergency b = omega arith
not_weaker brakes.Service brakes.Emergency = omega arith
not_weaker brakes.Service brakes.Service = omega arith
not_weaker brakes.Service brakes.None = omega arith
not_weaker brakes.None b = omega arith

-- ---- warning

record IsQuiet (g : Guard) : Type 0 where
  warns : g.policy ≡ Warn
  holds_none : g.brake ≡ brakes.None

still_quiet : (g : Guard) (e : Event) → IsQuiet g → IsQuiet (after e g)
still_quiet g (Event.Heard demands) q = record { warns = q.warns; holds_none = rw q.warns q.holds_none }
still_quiet g (Event.Acknowledged true) q = record { warns = q.warns; holds_none = refl }
still_quiet g (Event.Acknowledged false) q = q

always_quiet : (events : List Event) (g : Guard) → IsQuiet g → IsQuiet (after_all events g)
always_quiet [] g q = q
always_quiet (e ∷ es) g q = always_quiet es (after e g) (still_quiet g e q)

with_none : (a : Brake) → stronger a brakes.None ≡ a
with_none brakes.Emergency = refl
with_none brakes.Service = refl
with_none brakes.None = refl

-- ---- a trip

with_emergency : (a : Brake) → stronger a brakes.Emergency ≡ brakes.Emergency
with_emergency brakes.Emergency = refl
with_emergency brakes.Service = refl
with_emergency brakes.None = refl

record Brakes (g : Guard) : Type 0 where
  strict : g.policy ≡ Strict
  holds_it : g.brake ≡ brakes.Emergency

still_braking : (g : Guard) (e : Event) → is_no_release e ≡ true → Brakes g → Brakes (after e g)
still_braking g (Event.Heard demands) n b =
    record { strict = b.strict; holds_it = rw b.strict (ap (λ x. stronger x (brake_of_all demands)) b.holds_it) }
still_braking g (Event.Acknowledged true) n b = absurd cc
still_braking g (Event.Acknowledged false) n b = b

always_braking : (events : List Event) (g : Guard) → Each (λ e. is_no_release e ≡ true) events → Brakes g → Brakes (after_all events g)
always_braking [] g n b = b
always_braking (e ∷ es) g (n, ns) b = always_braking es (after e g) ns (still_braking g e n b)

strongest_is_emergency : (demands : List Demand) (k : ℕ) (d : Demand) → k < length demands → d.action ≡ actions.Trip → slice_index_or demands k d ≡ d
    → brake_of_all demands ≡ brakes.Emergency
strongest_is_emergency [] k d l t e = absurd (omega (arith, l))
strongest_is_emergency (x ∷ xs) zero d l t e =
    ap (λ (y : Demand). stronger (brake_of y.action) (brake_of_all xs)) e ∙ ap (λ a. stronger (brake_of a) (brake_of_all xs)) t
strongest_is_emergency (x ∷ xs) (suc k) d l t e =
    ap (stronger (brake_of x.action)) (strongest_is_emergency xs k d (omega (arith, l)) t e) ∙ with_emergency (brake_of x.action)

begins_braking : (g : Guard) (demands : List Demand) (d : Demand) → g.policy ≡ Strict → Contains demands d → d.action ≡ actions.Trip → Brakes (heard demands g)
begins_braking g demands d p (k, l, e) t =
    record { strict = p; holds_it = rw p (ap (stronger g.brake) (strongest_is_emergency demands k d l t e) ∙ with_emergency g.brake) }

pub returns-clause-adds : goal.returns-clause-adds
returns-clause-adds c = λ g unit. not_weaker unit g.brake

pub returns-clause-warns : goal.returns-clause-warns
returns-clause-warns c = λ events unit.
    ap (stronger unit) (always_quiet events (empty Warn) (record { warns = refl; holds_none = refl })).holds_none ∙ with_none unit

pub returns-clause-holds : goal.returns-clause-holds
returns-clause-holds c = λ g demands d events unit p there t n.
    ap (stronger unit) (always_braking events (heard demands g) n (begins_braking g demands d p there t)).holds_it ∙ with_emergency unit
