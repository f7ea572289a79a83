use Rattle.std.proofs.Common.{◌≡◌, drop}
use Rattle.balise_groups.specs.Closing.{telegrams_at}
use Rattle.balise_groups.proofs.closing.add_telegram.Given as goal

abbrev pub invariant-loop-reading : goal.invariant-loop-reading
invariant-loop-reading l = record {
  same : l.telegrams ≡ l.fn.telegrams;
  rest : telegrams_at l.place (drop l.reading-index l.readings) ≡ telegrams_at l.place l.readings;
}
