-- A disk that lies (this project's profile).
use Rattle.std.specs.Prelude.{false, []}
use Rattle.disk.specs.State.{State}
use Rattle.disk.specs.declared.liar.Liar.{Liar}

-- What contracts see of it: it is not honest, so that nothing is said of what it holds.
abbrev pub liar_state : Liar → State
liar_state disk = record {
  sectors = disk.sectors;
  faults = disk.faults;
  honest = false;
  clock = 0;
  at = λ _. record { contents = λ _. []; is_open = λ _. false };
}
