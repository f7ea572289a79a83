use Rattle.std.proofs.Common.{◌≡◌, ◌≤◌, length, map}
use Rattle.balise_groups.specs.Closing.{telegrams_below}
use Rattle.balise_groups.proofs.closing.gather.Given as goal

abbrev pub invariant-loop-place : goal.invariant-loop-place
invariant-loop-place l = record {
  reported : l.packets-inside.telegrams ≡ map (λ t. t.packets.items) (telegrams_below l.place l.readings);
  few : length l.packets-inside.telegrams ≤ l.place;
}
