use Rattle.std.proofs.Common.{rules}
use Rattle.access_logs.proofs.RecordLemmas.{row-reads, none-reads}
use Rattle.access_logs.proofs.records.read_row.Goals as goal

pub returns-in-Ok-true-clause-reads : goal.returns-in-Ok-true-clause-reads
returns-in-Ok-true-clause-reads g c =
    let plain = c.requires.plain in
    row-reads g.R.Read.remaining c.args.rows.now c.read_byte_record.new.self _ _ plain.2 (c.in-Ok-true.ensures.reads plain.0 plain.1) (search rules)

pub returns-in-Ok-false-clause-reads : goal.returns-in-Ok-false-clause-reads
returns-in-Ok-false-clause-reads g c =
    let plain = c.requires.plain in
    none-reads g.R.Read.remaining c.args.rows.now c.read_byte_record.new.self _ _ plain.2 (c.in-Ok-false.ensures.reads plain.0 plain.1) _ (search rules)
