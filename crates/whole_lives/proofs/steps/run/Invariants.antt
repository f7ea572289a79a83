use Rattle.std.proofs.Common.{◌≡◌, ℕ, List, ◌++◌, IsTrue, take}
use Rattle.std.specs.Prelude.{fold}
use Rattle.disk.specs.State.{contents_of}
use Rattle.events.specs.declared.input.Event.{Event}
use Rattle.journal.specs.Journals.{IsOpen}
use Rattle.unit_start.specs.Events.{account_of, IsAhead}
use Rattle.whole_lives.specs.Runs.{durable_by, Going}
use Rattle.whole_lives.specs.Written.{earlier_by, IsLastWritten}
use Rattle.onboard.specs.Progress.{progress_of, go_on}
use Rattle.whole_lives.specs.Stops.{AllStand}
use Rattle.onboard.specs.declared.released.Released.{Released}
use Rattle.whole_lives.proofs.steps.run.Given as goal

abbrev pub invariant-loop-k : goal.invariant-loop-k
invariant-loop-k g l = record {
  sectors : (g.D.WriteDisk.state l.unit.disk).sectors ≡ (g.D.WriteDisk.state l.fn.unit.disk).sectors;
  honest : (g.D.WriteDisk.state l.unit.disk).honest ≡ (g.D.WriteDisk.state l.fn.unit.disk).honest;
  faults : (g.D.WriteDisk.state l.unit.disk).faults ≡ (g.D.WriteDisk.state l.fn.unit.disk).faults;
  stood : AllStand (progress_of l.fn.unit.journal l.fn.unit.life) (take l.k l.steps)
      × (progress_of l.unit.journal l.unit.life ≡ fold go_on (progress_of l.fn.unit.journal l.fn.unit.life) (take l.k l.steps));
  going : (whole_from : ℕ) (s : List Event) → IsTrue (g.D.WriteDisk.state l.fn.unit.disk).honest → IsOpen l.fn.unit.journal (account_of whole_from s) (g.D.WriteDisk.state l.fn.unit.disk) →
      IsAhead s s l.fn.unit.life → (given : List Released) × (l.out.items ≡ l.fn.out.items ++ given)
      × Going whole_from s l.steps l.k (g.D.WriteDisk.state l.fn.unit.disk) (g.D.WriteDisk.state l.unit.disk) l.unit.journal l.unit.life given;
  last : (whole_from : ℕ) (earlier s : List Event) → IsTrue (g.D.WriteDisk.state l.fn.unit.disk).honest → IsOpen l.fn.unit.journal (account_of whole_from s) (g.D.WriteDisk.state l.fn.unit.disk) →
      IsAhead s s l.fn.unit.life → IsLastWritten (g.D.WriteDisk.state l.fn.unit.disk).sectors earlier s (contents_of (g.D.WriteDisk.state l.fn.unit.disk)) →
      IsLastWritten (g.D.WriteDisk.state l.unit.disk).sectors (earlier_by earlier s s (take l.k l.steps)) (durable_by s (take l.k l.steps)) (contents_of (g.D.WriteDisk.state l.unit.disk));
}
