use Rattle.std.proofs.Common.{◌≡◌, ◌∙◌, ◌+◌, ℕ, get_or, refl, ap, arith}
use Rattle.std.specs.Prelude.{unwrap_or}
use Rattle.disk.specs.Record.{place_in}
use Rattle.disk.specs.declared.record.Place.TheVariants.{Start}
use Rattle.disk.proofs.Places.{front_of, place_nothing, place_one_more}
use Rattle.disk.proofs.record.place_sectors.Goals as goal

pub loop-i-init : goal.loop-i-init
loop-i-init c = place_nothing c.args.span c.args.places.now

pub loop-i-preserved : goal.loop-i-preserved
loop-i-preserved c =
    place_one_more c.args.span c.loop-i.i (c.args.span.first + c.loop-i.i) c.args.places.now c.loop-i.places refl (omega arith) c.loop-i.invariant

pub returns : goal.returns
returns c = λ s.
    let all : c.loop-i.i ≡ c.args.span.sectors = omega arith in
    c.loop-i.invariant s ∙ ap (λ (n : ℕ). unwrap_or (place_in (front_of c.args.span n) s) (get_or c.args.places.now s Start)) all
