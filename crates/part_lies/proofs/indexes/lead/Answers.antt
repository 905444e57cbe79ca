use Rattle.std.proofs.Common.{rules}
use Rattle.part_lies.proofs.indexes.lead.Goals as goal

pub returns-clause-table : goal.returns-clause-table
returns-clause-table c = search rules

pub lead-requires-clause-first : goal.lead-requires-clause-first
lead-requires-clause-first c = search rules

pub lead-requires-clause-chunk : goal.lead-requires-clause-chunk
lead-requires-clause-chunk c = search rules
