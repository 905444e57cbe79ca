use Rattle.std.proofs.Common.{rules}
use Rattle.trace_lines.specs.Lines.{line_of, line_of_words}
use Rattle.trace_lines.proofs.lines.read.Goals as goal

pub returns-in-None : goal.returns-in-None
unfolding line_of_words line_of
returns-in-None c = search rules
