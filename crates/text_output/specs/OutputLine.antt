-- The line of an output (this project's profile): the limit in metres per hour.
use Rattle.std.specs.Prelude.{ℕ, List, ◌++◌, codes, decimal}
use Rattle.events.specs.Indications.{number_of}
use Rattle.events.specs.declared.output.Output.{Output}
use Rattle.text_output.specs.OutputNames.{mode_text, level_text, brake_text}

-- what comes after the event's number
unfoldable pub after_number : Output → List ℕ
after_number output =
    codes " mode " ++ mode_text output.mode ++ codes " level " ++ level_text output.level
    ++ codes " brake " ++ brake_text output.brake ++ codes " limit " ++ decimal output.limit ++ codes " ind "
    ++ decimal (number_of output.indications) ++ codes "\n"

-- the line of the event with this number
unfoldable pub line_of : ℕ → Output → List ℕ
line_of number output = codes "event " ++ decimal number ++ after_number output
