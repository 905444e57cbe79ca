use Rattle.std.proofs.Common.{rules}
use Rattle.trace_lines.proofs.lines.is_long.Goals as goal

pub returns : goal.returns
returns c = search rules
