use Rattle.mode_control.specs.Entry.{initial}
use Rattle.mode_control.specs.Life.{grown}
use Rattle.mode_control.specs.Sentences.{reported, deed_of}
use Rattle.kernel.proofs.Still.{moved}
use Rattle.kernel.proofs.carried.Carried.move_on.Goals as goal

pub returns-in-Odometer-clause-train : goal.returns-in-Odometer-clause-train
returns-in-Odometer-clause-train g c life s at =
    moved c.train_where-self.result c.args.self.now.steady (c.stretch.ensures (grown life (initial (reported life c.args.input.now) (deed_of life c.args.input.now))) s)
    c.train_where-self.ensures
