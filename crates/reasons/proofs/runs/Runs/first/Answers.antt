use Rattle.std.proofs.Common.{◌≡◌, ℕ, None, slice_index_or, refl, ap, ◌∙◌}
use Rattle.kernel.specs.declared.causes.BrakeCause.{BrakeCause}
use Rattle.kernel.specs.declared.causes.BrakeCause.TheVariants as cause
use Rattle.kernel.specs.Lives.{Story}
use Rattle.reasons.specs.declared.runs.Runs.{Runs}
use Rattle.reasons.specs.Runs.{first_in, run_of, runs_of}
use Rattle.reasons.proofs.runs.Runs.first.Goals as goal

found : (story : Story) (why : BrakeCause) → first_in (runs_of story) why ≡ run_of why story
found story cause.NotRevalidated = refl
found story _ = refl

pub returns-clause-value : goal.returns-clause-value
returns-clause-value c = ap (λ (place : ℕ). slice_index_or c.args.self.now.firsts place None) c.place.ensures

pub returns-clause-run : goal.returns-clause-run
returns-clause-run c story is =
    ap (λ (place : ℕ). slice_index_or c.args.self.now.firsts place None) c.place.ensures
    ∙ ap (λ (runs : Runs). first_in runs c.args.cause) is ∙ found story c.args.cause
