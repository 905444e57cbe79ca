use Rattle.std.proofs.Common.{rules}
use Rattle.trace_lines.proofs.text.word_of_applied.Goals as goal

pub returns-in-Gone-Freed : goal.returns-in-Gone-Freed
returns-in-Gone-Freed c = search rules
