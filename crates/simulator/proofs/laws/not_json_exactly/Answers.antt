use Rattle.std.proofs.Common.{refl, inl}
use Rattle.simulator.proofs.TextAnswers.{no_value}
use Rattle.simulator.proofs.laws.not_json_exactly.Goals as goal

pub returns : goal.returns
returns c = λ bytes. (no_value bytes, λ none. inl (refl, none))
