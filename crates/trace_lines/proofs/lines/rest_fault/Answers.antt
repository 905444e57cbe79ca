use Rattle.std.proofs.Common.{rules}
use Rattle.trace_lines.proofs.lines.rest_fault.Goals as goal

pub returns-else-is_empty : goal.returns-else-is_empty
returns-else-is_empty c = search rules
