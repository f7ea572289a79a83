use Rattle.std.proofs.Common.{◌≡◌, ℕ, List, true, false, refl, ap, sym, ◌∙◌, rules}
use Rattle.std.specs.Prelude.{◌&&◌}
use Rattle.std.specs.Bool.{Decides}
use Rattle.std.specs.Cmp.Lexicographic.{pointwise}
use Rattle.std.proofs.lemmas.Bool.Decides.{Decides-eqb}
use Rattle.std.proofs.lemmas.Slice.Eq.{slice_eq-Decides}
use Rattle.speed_profile.specs.contracts.short_speed.ShortSpeedPartialEq.TheImpl.{eq-value}
use Rattle.vars.specs.contracts.restriction.TrainLengthDelay.{the_type}
use Rattle.vars.specs.declared.restriction.TrainLengthDelay.{TrainLengthDelay}
use Rattle.vars.specs.declared.restriction.TrainLengthDelay.TheVariants.{Applied, NotApplied}
use Rattle.speed_profile.specs.declared.reported.CategorySpeeds.{CategorySpeeds}
use denote.Enum.Bare.{sameb}
use Rattle.speed_profile.proofs.reported.CategorySpeedsSame.is_same.Goals as goal

delays : (x y : TrainLengthDelay) → Decides (sameb the_type x y) (x ≡ y)
delays Applied Applied = (λ h. refl, λ h. refl)
delays Applied NotApplied = (λ h. absurd cc, λ h. absurd cc)
delays NotApplied Applied = (λ h. absurd cc, λ h. absurd cc)
delays NotApplied NotApplied = (λ h. refl, λ h. refl)

speeds : (xs ys : List ℕ) → Decides (pointwise eq-value.it xs ys) (xs ≡ ys)
speeds xs ys = slice_eq-Decides (λ x y. Decides-eqb x y) xs ys (pointwise eq-value.it xs ys) refl

fields_alike : (a b : CategorySpeeds) (same_speeds same_delay : _) → Decides same_speeds (a.speeds ≡ b.speeds) → Decides same_delay (a.delay ≡ b.delay) →
    Decides (same_speeds && same_delay) (a ≡ b)
fields_alike a b true true s d = (λ h i. record { speeds = s.0 refl i; delay = d.0 refl i }, λ h. refl)
fields_alike a b true false s d = (λ h. absurd cc, λ h. d.1 (ap (λ (x : CategorySpeeds). x.delay) h))
fields_alike a b false same s d = (λ h. absurd cc, λ h. s.1 (ap (λ (x : CategorySpeeds). x.speeds) h))

pub returns : goal.returns
returns c =
    let a = c.args.self.now in
    let b = c.args.other.now in
    let all = fields_alike a b (pointwise eq-value.it a.speeds b.speeds) (sameb the_type a.delay b.delay) (speeds a.speeds b.speeds) (delays a.delay b.delay) in
    (λ h. all.0 (sym c.eq.ensures ∙ (search rules)), λ h. (let e : c.eq.result ≡ true = c.eq.ensures ∙ all.1 h in search rules))
