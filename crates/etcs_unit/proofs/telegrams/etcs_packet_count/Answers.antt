use Rattle.std.proofs.Common.{◌∙◌, refl}
use Rattle.etcs_unit.proofs.Description.{walk_length, walk_of}
use Rattle.etcs_unit.proofs.telegrams.etcs_packet_count.Goals as goal

pub returns-in-Ok-clause-carried : goal.returns-in-Ok-clause-carried
returns-in-Ok-clause-carried c = λ t r. c.len.ensures ∙ walk_length c.args.bytes.now _ t c.in-Ok.ensures.found r

pub returns-in-Ok-clause-refused : goal.returns-in-Ok-clause-refused
returns-in-Ok-clause-refused c = λ e r. absurd (let p = (c.in-Ok.ensures.fault e).1 r in cc)

pub returns-in-Err-clause-carried : goal.returns-in-Err-clause-carried
returns-in-Err-clause-carried c = λ t r. absurd (let p = (c.in-Err.ensures.found (walk_of c.args.bytes.now t)).1 (t, r, refl) in cc)
