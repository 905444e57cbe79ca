use Rattle.std.proofs.Common.{◌≡◌, ◌<◌, [], All, length, sym, ap, ◌∙◌}
use Rattle.std.specs.Prelude.{None}
use Rattle.access_logs.specs.Entries.{keys_in, sizes_in, times_in, operations_in, ttls_in, unreadable_in, first_unreadable_in}
use Rattle.access_logs.specs.Formats.{entries_of, first_number, has_sizes, has_times, has_operations, has_ttls}
use Rattle.access_logs.specs.Keys.{distinct, numbers_of}
use Rattle.access_logs.specs.Records.{header_of}
use Rattle.access_logs.proofs.ColumnLemmas.{size-asked, time-asked, operation-asked, ttl-asked}
use Rattle.access_logs.proofs.LogLemmas.{below, strictly, if_read, if_known_read}
use Rattle.access_logs.proofs.AskedLogs.{no_sizes-from, no_times-from, no_operations-from, no_ttls-from, sized-from, timed-from, operated-from, lasting-from, sized-log, timed-log, operated-log, lasting-log}
use Rattle.access_logs.proofs.reading.read_log.Goals as goal

pub returns-in-Lines-clause-below : goal.returns-in-Lines-clause-below
returns-in-Lines-clause-below g c = if_read c.read_lines.result _ (λ log. All (λ number. number < log.keys) log.accesses.items) (λ log is. below _ _ _ log is.1) c.read_lines.ensures.any

pub returns-in-Lines-clause-strict : goal.returns-in-Lines-clause-strict
returns-in-Lines-clause-strict g c on = if_read c.read_lines.result _ (λ log. (log.unreadable ≡ 0) × (log.first_unreadable ≡ None)) (λ log is. strictly _ _ _ log is.1 on) c.read_lines.ensures.any

pub returns-in-Lines-clause-no_sizes : goal.returns-in-Lines-clause-no_sizes
returns-in-Lines-clause-no_sizes g c none = if_read c.read_lines.result _ (λ log. log.sizes.items ≡ []) (λ log is. is.1.sizes ∙ is.2) c.read_lines.ensures.any

pub returns-in-Lines-clause-no_times : goal.returns-in-Lines-clause-no_times
returns-in-Lines-clause-no_times g c none = if_read c.read_lines.result _ (λ log. log.times.items ≡ []) (λ log is. is.1.times ∙ is.3) c.read_lines.ensures.any

pub returns-in-Lines-clause-no_operations : goal.returns-in-Lines-clause-no_operations
returns-in-Lines-clause-no_operations g c none = if_read c.read_lines.result _ (λ log. log.operations.items ≡ []) (λ log is. is.1.operations ∙ is.4) c.read_lines.ensures.any

pub returns-in-Lines-clause-no_ttls : goal.returns-in-Lines-clause-no_ttls
returns-in-Lines-clause-no_ttls g c none = if_read c.read_lines.result _ (λ log. log.ttls.items ≡ []) (λ log is. is.1.ttls ∙ is.5) c.read_lines.ensures.any

pub returns-in-Csv-clause-below : goal.returns-in-Csv-clause-below
returns-in-Csv-clause-below g c = if_read c.read_records.result _ (λ log. All (λ number. number < log.keys) log.accesses.items) (λ log is. below _ _ _ log is.3) c.read_records.ensures.any

pub returns-in-Csv-clause-strict : goal.returns-in-Csv-clause-strict
returns-in-Csv-clause-strict g c on = if_read c.read_records.result _ (λ log. (log.unreadable ≡ 0) × (log.first_unreadable ≡ None)) (λ log is. strictly _ _ _ log is.3 on) c.read_records.ensures.any

pub returns-in-Csv-clause-sized : goal.returns-in-Csv-clause-sized
returns-in-Csv-clause-sized g c some =
    if_read c.read_records.result _ (λ log. length log.sizes.items ≡ length log.accesses.items)
    (λ log is. sized-log _ _ _ log is.3 (sized-from _ is.1 is.0 (size-asked (header_of is.0) _ is.1 is.2 ∙ sym (ap has_sizes c.in-Csv.is) ∙ some))) c.read_records.ensures.any

pub returns-in-Csv-clause-no_sizes : goal.returns-in-Csv-clause-no_sizes
returns-in-Csv-clause-no_sizes g c none =
    if_read c.read_records.result _ (λ log. log.sizes.items ≡ [])
    (λ log is. is.3.sizes ∙ no_sizes-from _ is.1 is.0 (size-asked (header_of is.0) _ is.1 is.2 ∙ sym (ap has_sizes c.in-Csv.is) ∙ none)) c.read_records.ensures.any

pub returns-in-Csv-clause-timed : goal.returns-in-Csv-clause-timed
returns-in-Csv-clause-timed g c some =
    if_read c.read_records.result _ (λ log. length log.times.items ≡ length log.accesses.items)
    (λ log is. timed-log _ _ _ log is.3 (timed-from _ is.1 is.0 (time-asked (header_of is.0) _ is.1 is.2 ∙ sym (ap has_times c.in-Csv.is) ∙ some))) c.read_records.ensures.any

pub returns-in-Csv-clause-no_times : goal.returns-in-Csv-clause-no_times
returns-in-Csv-clause-no_times g c none =
    if_read c.read_records.result _ (λ log. log.times.items ≡ [])
    (λ log is. is.3.times ∙ no_times-from _ is.1 is.0 (time-asked (header_of is.0) _ is.1 is.2 ∙ sym (ap has_times c.in-Csv.is) ∙ none)) c.read_records.ensures.any

pub returns-in-Csv-clause-operated : goal.returns-in-Csv-clause-operated
returns-in-Csv-clause-operated g c some =
    if_read c.read_records.result _ (λ log. length log.operations.items ≡ length log.accesses.items)
    (λ log is. operated-log _ _ _ log is.3 (operated-from _ is.1 is.0 (operation-asked (header_of is.0) _ is.1 is.2 ∙ sym (ap has_operations c.in-Csv.is) ∙ some))) c.read_records.ensures.any

pub returns-in-Csv-clause-no_operations : goal.returns-in-Csv-clause-no_operations
returns-in-Csv-clause-no_operations g c none =
    if_read c.read_records.result _ (λ log. log.operations.items ≡ [])
    (λ log is. is.3.operations ∙ no_operations-from _ is.1 is.0 (operation-asked (header_of is.0) _ is.1 is.2 ∙ sym (ap has_operations c.in-Csv.is) ∙ none)) c.read_records.ensures.any

pub returns-in-Csv-clause-lasting : goal.returns-in-Csv-clause-lasting
returns-in-Csv-clause-lasting g c some =
    if_read c.read_records.result _ (λ log. length log.ttls.items ≡ length log.accesses.items)
    (λ log is. lasting-log _ _ _ log is.3 (lasting-from _ is.1 is.0 (ttl-asked (header_of is.0) _ is.1 is.2 ∙ sym (ap has_ttls c.in-Csv.is) ∙ some))) c.read_records.ensures.any

pub returns-in-Csv-clause-no_ttls : goal.returns-in-Csv-clause-no_ttls
returns-in-Csv-clause-no_ttls g c none =
    if_read c.read_records.result _ (λ log. log.ttls.items ≡ [])
    (λ log is. is.3.ttls ∙ no_ttls-from _ is.1 is.0 (ttl-asked (header_of is.0) _ is.1 is.2 ∙ sym (ap has_ttls c.in-Csv.is) ∙ none)) c.read_records.ensures.any

pub returns-in-Csv-clause-accesses : goal.returns-in-Csv-clause-accesses
returns-in-Csv-clause-accesses g c =
    if_known_read (g.R.Read.remaining c.args.source) c.read_records.result _ (λ bytes log. log.accesses.items ≡ numbers_of (keys_in (entries_of c.args.format bytes)))
    (λ bytes log is. is.accesses ∙ sym (ap (λ format. numbers_of (keys_in (entries_of format bytes))) c.in-Csv.is)) c.read_records.ensures.records

pub returns-in-Csv-clause-sizes : goal.returns-in-Csv-clause-sizes
returns-in-Csv-clause-sizes g c =
    if_known_read (g.R.Read.remaining c.args.source) c.read_records.result _ (λ bytes log. log.sizes.items ≡ sizes_in (entries_of c.args.format bytes))
    (λ bytes log is. is.sizes ∙ sym (ap (λ format. sizes_in (entries_of format bytes)) c.in-Csv.is)) c.read_records.ensures.records

pub returns-in-Csv-clause-times : goal.returns-in-Csv-clause-times
returns-in-Csv-clause-times g c =
    if_known_read (g.R.Read.remaining c.args.source) c.read_records.result _ (λ bytes log. log.times.items ≡ times_in (entries_of c.args.format bytes))
    (λ bytes log is. is.times ∙ sym (ap (λ format. times_in (entries_of format bytes)) c.in-Csv.is)) c.read_records.ensures.records

pub returns-in-Csv-clause-operations : goal.returns-in-Csv-clause-operations
returns-in-Csv-clause-operations g c =
    if_known_read (g.R.Read.remaining c.args.source) c.read_records.result _ (λ bytes log. log.operations.items ≡ operations_in (entries_of c.args.format bytes))
    (λ bytes log is. is.operations ∙ sym (ap (λ format. operations_in (entries_of format bytes)) c.in-Csv.is)) c.read_records.ensures.records

pub returns-in-Csv-clause-ttls : goal.returns-in-Csv-clause-ttls
returns-in-Csv-clause-ttls g c =
    if_known_read (g.R.Read.remaining c.args.source) c.read_records.result _ (λ bytes log. log.ttls.items ≡ ttls_in (entries_of c.args.format bytes))
    (λ bytes log is. is.ttls ∙ sym (ap (λ format. ttls_in (entries_of format bytes)) c.in-Csv.is)) c.read_records.ensures.records

pub returns-in-Csv-clause-keys : goal.returns-in-Csv-clause-keys
returns-in-Csv-clause-keys g c =
    if_known_read (g.R.Read.remaining c.args.source) c.read_records.result _ (λ bytes log. log.keys ≡ length (distinct (keys_in (entries_of c.args.format bytes))))
    (λ bytes log is. is.keys ∙ sym (ap (λ format. length (distinct (keys_in (entries_of format bytes)))) c.in-Csv.is)) c.read_records.ensures.records

pub returns-in-Csv-clause-unreadable : goal.returns-in-Csv-clause-unreadable
returns-in-Csv-clause-unreadable g c =
    if_known_read (g.R.Read.remaining c.args.source) c.read_records.result _ (λ bytes log. log.unreadable ≡ unreadable_in (entries_of c.args.format bytes))
    (λ bytes log is. is.unreadable ∙ sym (ap (λ format. unreadable_in (entries_of format bytes)) c.in-Csv.is)) c.read_records.ensures.records

pub returns-in-Csv-clause-first_unreadable : goal.returns-in-Csv-clause-first_unreadable
returns-in-Csv-clause-first_unreadable g c =
    if_known_read (g.R.Read.remaining c.args.source) c.read_records.result _ (λ bytes log. log.first_unreadable ≡ first_unreadable_in (first_number c.args.format) (entries_of c.args.format bytes))
    (λ bytes log is. is.first_unreadable ∙ sym (ap (λ format. first_unreadable_in (first_number format) (entries_of format bytes)) c.in-Csv.is)) c.read_records.ensures.records
