use Rattle.std.proofs.Common.{rules, ◌≡◌, ℤ, ◌∙◌, FitsSigned, to_z, of_z, w64, arith}
use Rattle.std.specs.Prelude.{not, int_lt}
use lib.Signed.{le_z}
use Rattle.std.proofs.lemmas.Int.{ints, clamps}
use Rattle.track_store.specs.Meeting.{from_where, first_met, last_met}
use Rattle.track_store.proofs.restriction.Restriction.meets.Goals as goal
use Rattle.track_store.proofs.restriction.Restriction.meets.Goals.{in-Applied, in-NotApplied}

-- the code's comparison
le_is : (a b : ℤ) → FitsSigned w64 a → FitsSigned w64 b → le_z (to_z w64 (of_z w64 a)) (to_z w64 (of_z w64 b)) ≡ not (int_lt b a)
le_is a b f g = grind (arith, ints)

pub returns : goal.returns
returns c =
    let last : c.min-last_met.result ≡ last_met c.args.train.now c.args.self.now = omega (arith, ints, clamps) in
    let from : c.match-self.from ≡ from_where c.args.first c.args.train.now c.args.self.now.delay =
    elim c.match-self.branch [
      | in-Applied w ↦ rw w.in-Applied.is (omega (arith, ints))
      | in-NotApplied w ↦ rw w.in-NotApplied.is (omega (arith, ints, clamps))
    ] in
    let first : c.max-first_met.result ≡ first_met c.args.first c.args.train.now c.args.self.now = omega (arith, ints, clamps) in
    le_is c.max-first_met.result c.min-last_met.result (search rules) (search rules) ∙ (λ i. not (int_lt (last i) (first i)))
