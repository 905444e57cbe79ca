use Rattle.std.proofs.Common.{rules}
use Rattle.trace_lines.proofs.text.flags.Goals as goal

pub returns-then-head-2 : goal.returns-then-head-2
returns-then-head-2 c = search rules
