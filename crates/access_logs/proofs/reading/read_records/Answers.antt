use Rattle.std.proofs.Common.{subst}
use Rattle.access_logs.specs.Drafts.{IsLogOf}
use Rattle.access_logs.specs.Records.{entries_from}
use Rattle.access_logs.proofs.HeaderLemmas.{log-of, columns-read, refusal-of}
use Rattle.access_logs.proofs.LogLemmas.{if_read}
use Rattle.access_logs.proofs.RecordLemmas.{first_record-some}
use Rattle.access_logs.proofs.reading.read_records.Goals as goal

pub read_rows-requires-clause-first : goal.read_rows-requires-clause-first
read_rows-requires-clause-first g c = first_record-some c.args.header c.args.asked c.first_record.result c.first_record.ensures

pub returns-clause-any : goal.returns-clause-any
returns-clause-any g c =
    if_read c.read_rows.result _ _
    (λ log is. (is.0, is.1, is.2, subst (λ number. IsLogOf c.args.strict number (entries_from number is.1 is.0) log) c.first_record.ensures is.3))
    c.read_rows.ensures.log

pub returns-clause-records : goal.returns-clause-records
returns-clause-records g c = log-of c.args.strict c.args.asked c.args.header _ c.first_record.ensures (g.R.Read.remaining c.args.source) _ c.open_rows-rows.ensures.rows c.read_rows.result c.read_rows.ensures.log

pub returns-clause-columns : goal.returns-clause-columns
returns-clause-columns g c = columns-read c.args.strict c.args.asked c.args.header _ c.first_record.ensures (g.R.Read.remaining c.args.source) _ c.open_rows-rows.ensures.rows c.read_rows.result c.read_rows.ensures.log

pub returns-clause-refusal : goal.returns-clause-refusal
returns-clause-refusal g c = refusal-of c.args.strict c.args.asked c.args.header _ c.first_record.ensures (g.R.Read.remaining c.args.source) _ c.open_rows-rows.ensures.rows c.read_rows.result c.read_rows.ensures.refusal
