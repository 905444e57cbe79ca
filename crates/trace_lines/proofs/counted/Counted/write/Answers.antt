use Rattle.std.proofs.Common.{rules}
use Rattle.trace_lines.proofs.counted.Counted.write.Goals as goal

pub returns-then-is_failed_write-clause-called : goal.returns-then-is_failed_write-clause-called
returns-then-is_failed_write-clause-called g c = search rules

pub returns-then-is_failed_write-clause-bytes : goal.returns-then-is_failed_write-clause-bytes
returns-then-is_failed_write-clause-bytes g c = search rules

pub returns-then-is_failed_write-clause-failed : goal.returns-then-is_failed_write-clause-failed
returns-then-is_failed_write-clause-failed g c = search rules

pub returns-else-is_failed_write-clause-called : goal.returns-else-is_failed_write-clause-called
returns-else-is_failed_write-clause-called g c = search rules

pub returns-else-is_failed_write-clause-bytes : goal.returns-else-is_failed_write-clause-bytes
returns-else-is_failed_write-clause-bytes g c = search rules

pub returns-else-is_failed_write-clause-failed : goal.returns-else-is_failed_write-clause-failed
returns-else-is_failed_write-clause-failed g c = search rules
