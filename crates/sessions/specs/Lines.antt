-- The lines of what is released (this project's profile).
use Rattle.std.specs.Prelude.{ℕ, List, flat_map}
use Rattle.onboard.specs.declared.released.Released.{Released}
use Rattle.text_output.specs.OutputLine as one

abbrev pub line_of : Released → List ℕ
line_of pair = one.line_of pair.number pair.output

-- a line a release, in their order
abbrev pub lines_of : List Released → List ℕ
lines_of pairs = flat_map line_of pairs
