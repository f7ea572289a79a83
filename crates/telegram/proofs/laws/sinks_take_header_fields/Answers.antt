use Rattle.bits.proofs.ListedField.{taken-field_list}
use Rattle.telegram.specs.Telegrams.{header}
use Rattle.telegram.proofs.laws.sinks_take_header_fields.Goals as goal

pub returns : goal.returns
returns g c = λ h s. taken-field_list g.S.FieldSink.took header h s
