use Rattle.std.proofs.Common.{rules}
use Rattle.trace_lines.proofs.counted.Counted.read.Goals as goal

pub returns-then-is_failed_read-clause-called : goal.returns-then-is_failed_read-clause-called
returns-then-is_failed_read-clause-called g c = search rules

pub returns-then-is_failed_read-clause-bytes : goal.returns-then-is_failed_read-clause-bytes
returns-then-is_failed_read-clause-bytes g c = search rules

pub returns-then-is_failed_read-clause-failed : goal.returns-then-is_failed_read-clause-failed
returns-then-is_failed_read-clause-failed g c = search rules

pub returns-else-is_failed_read-clause-called : goal.returns-else-is_failed_read-clause-called
returns-else-is_failed_read-clause-called g c = search rules

pub returns-else-is_failed_read-clause-bytes : goal.returns-else-is_failed_read-clause-bytes
returns-else-is_failed_read-clause-bytes g c = search rules

pub returns-else-is_failed_read-clause-failed : goal.returns-else-is_failed_read-clause-failed
returns-else-is_failed_read-clause-failed g c = search rules
