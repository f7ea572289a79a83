use Rattle.std.proofs.Common.{◌≡◌, ◌∙◌, ap, arith}
use Rattle.std.proofs.lemmas.Int.{ints}
use Rattle.units.specs.Stretches.{Span}
use Rattle.odometry.specs.Place.{stretch_about}
use Rattle.odometry.proofs.place.stretch_about.Goals as goal

pub new_unchecked-requires-4 : goal.new_unchecked-requires-4
new_unchecked-requires-4 c =
    (omega (arith, ints, c.new_unchecked.ensures, c.new_unchecked-2.ensures), omega (arith, ints, c.new_unchecked-2.ensures, c.new_unchecked-3.ensures))

pub returns-clause-value : goal.returns-clause-value
returns-clause-value c =
    let whole = stretch_about c.args.estimate c.args.uncertainty c.args.length in
    let rear : c.new_unchecked.result ≡ whole.rear = omega (arith, ints, c.new_unchecked.ensures) in
    let least : c.new_unchecked-2.result ≡ whole.min_front = omega (arith, ints, c.new_unchecked-2.ensures) in
    let greatest : c.new_unchecked-3.result ≡ whole.max_front = omega (arith, ints, c.new_unchecked-3.ensures) in
    c.new_unchecked-4.ensures ∙ (λ i. record { rear = rear i; min_front = least i; max_front = greatest i })

pub returns-clause-near : goal.returns-clause-near
returns-clause-near c =
    omega (arith, ints, c.new_unchecked.ensures, ap (λ (train : Span). train.rear) c.new_unchecked-4.ensures)
