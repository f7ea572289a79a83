use Rattle.std.proofs.Common.{◌≡◌, ap, List, [], ◌∷◌, ◌++◌}
use Rattle.events.specs.declared.input.Event.{Event}
use Rattle.events.specs.declared.input.Event.TheVariants.{PowerUp}
use Rattle.events.specs.declared.kept.Kept.{Kept}
use Rattle.mode_table.specs.declared.statuses.Cold.{Cold}
use Rattle.mode_control.specs.Sentences.{initial_life}
use Rattle.kernel.specs.declared.counts.Counts.{Counts}
use Rattle.kernel.specs.Lives.{counted, counts_of, kept_of, life_after, life_of, kept_by}
use Rattle.kernel.specs.Output.{output_of}
use Rattle.kernel.proofs.laws.power_up_forgets.Goals as goal

abbrev counts_kept : Kept → Counts
counts_kept kept = record { events = kept.events; lives = kept.lives }

-- lists that a power-up keeps the same of are counted alike, and lead to the same life
same_counts : (cold : Cold) (p q later : List Event) → kept_by p ≡ kept_by q →
    counts_of (later ++ PowerUp cold ∷ p) ≡ counts_of (later ++ PowerUp cold ∷ q)
same_counts cold p q [] same = ap (λ (k : Kept). counted (counts_kept k) (PowerUp cold)) same
same_counts cold p q (e ∷ later) same = ap (λ (n : Counts). counted n e) (same_counts cold p q later same)

same_life : (cold : Cold) (p q later : List Event) → kept_by p ≡ kept_by q →
    life_of (later ++ PowerUp cold ∷ p) ≡ life_of (later ++ PowerUp cold ∷ q)
same_life cold p q [] same = ap (λ (k : Kept). initial_life k cold) same
same_life cold p q (e ∷ later) same = λ i.
    life_after (kept_of (same_counts cold p q later same i) (same_life cold p q later same i)) (same_life cold p q later same i) e

pub returns : goal.returns
returns c cold p q later same = ap output_of (same_life cold p q later same)
