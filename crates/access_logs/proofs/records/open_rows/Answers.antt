use Rattle.std.proofs.Common.{ℕ, ◌+◌, length, replicate, option_map, ap, ◌∙◌}
use Rattle.std.specs.Io.KnownBytes.{append_known}
use Rattle.csv.specs.Reading.{default_config, records, records_from, source_of, strip_bom}
use Rattle.access_logs.specs.Records.{line_feeds, padded_of}
use Rattle.access_logs.proofs.RecordLemmas.{rows-opened}
use Rattle.access_logs.proofs.records.open_rows.Goals as goal

pub returns-clause-rows : goal.returns-clause-rows
returns-clause-rows g c =
    let source = c.from_reader.ensures.source
    ∙ ap (λ inner. option_map strip_bom (append_known (g.R.Read.remaining inner.inner) (replicate {A = ℕ} c.new-padded.result.left 10))) c.new-padded.ensures.inner
    ∙ ap (λ left. option_map strip_bom (append_known (g.R.Read.remaining c.new.result.inner) (replicate {A = ℕ} left 10))) c.new-padded.ensures.left
    ∙ ap (λ inner. option_map strip_bom (append_known (g.R.Read.remaining inner) line_feeds)) c.new.ensures in
    ap (λ state. option_map (λ bytes. records_from default_config (length bytes + 1) state bytes) (source_of (padded_of g.R.Read.remaining) c.from_reader.result)) c.from_reader.ensures.state
    ∙ ap (option_map (records default_config)) source ∙ rows-opened (g.R.Read.remaining c.args.source)
