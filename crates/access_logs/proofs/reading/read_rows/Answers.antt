use Rattle.std.proofs.Common.{◌≡◌, [], ◌∷◌, false, sym, ap, subst, ◌∙◌, rules}
use Rattle.std.specs.Prelude.{IfSome}
use Rattle.csv.specs.Records.{fields_of}
use Rattle.access_logs.specs.Columns.{columns_in}
use Rattle.access_logs.specs.Records.{header_of, rows_left, RefusesBy}
use Rattle.access_logs.proofs.HeaderLemmas.{refused-first, refused-header, rows-front, first-draft}
use Rattle.access_logs.proofs.KnownBytes.{if_known, if_any}
use Rattle.access_logs.proofs.LogLemmas.{if_read, if_refused}
use Rattle.access_logs.proofs.RecordLemmas.{none-read, all-read}
use Rattle.access_logs.proofs.reading.read_rows.Goals as goal

pub returns-in_err-found-clause-refusal : goal.returns-in_err-found-clause-refusal
returns-in_err-found-clause-refusal g c =
    let all = if_any (rows_left g.R.Read.remaining c.args.rows.now) (λ rows. RefusesBy c.args.strict c.args.first (columns_in (header_of rows) c.args.asked) rows c.in_err-found.field-0.0)
    (λ rows. refused-first c.args.strict c.args.first (columns_in (header_of rows) c.args.asked) rows c.in_err-found.field-0.0 c.in_err-found.ensures.refusal c.requires.first) in
    search (rules, all)

pub returns-in-Err-clause-refusal : goal.returns-in-Err-clause-refusal
returns-in-Err-clause-refusal g c =
    refused-header c.args.strict c.args.first c.args.asked _ _ _ _ c.in-Err.lacking c.in_ok-found.ensures.reads c.in_ok-found.ensures.none (sym c.columns_in.ensures ∙ c.in-Err.is)

pub returns-then-not-found-clause-log : goal.returns-then-not-found-clause-log
returns-then-not-found-clause-log g c =
    let none : c.in_ok-found.found ≡ false = search rules in
    let are = ap (λ row. columns_in row c.args.asked) (sym (c.in_ok-found.ensures.none none)) ∙ sym c.columns_in.ensures ∙ c.in-Ok.is in
    let log = c.finish.ensures.log c.args.strict c.args.first _ (first-draft c.args.strict c.args.first c.in-Ok.columns _ c.new.ensures) in
    ([], c.in-Ok.columns, are, log, all-read _ _ _ [] _ _ (none-read (rows_left g.R.Read.remaining c.args.rows.now)) c.in_ok-found.ensures.reads none)

pub returns-clause-log : goal.returns-clause-log
returns-clause-log g c =
    let row = fields_of c.read_row.new.row in
    if_read c.read_behind.result _ _
    (λ log is.
    let rest = if_known (rows_left g.R.Read.remaining c.read_row.new.rows) (λ rows. rows ≡ is.0) (λ rows. row ∷ rows ≡ row ∷ is.0) (λ rows same. ap (λ rs. row ∷ rs) same) is.2 in
    (row ∷ is.0, c.in-Ok.columns, sym c.columns_in.ensures ∙ c.in-Ok.is, is.1, rows-front (λ rows. rows ≡ row ∷ is.0) _ _ row _ c.in_ok-found.ensures.reads (search rules) rest))
    c.read_behind.ensures.log

pub returns-clause-refusal : goal.returns-clause-refusal
returns-clause-refusal g c =
    let row = fields_of c.read_row.new.row in
    let left = rows_left g.R.Read.remaining c.read_row.new.rows in
    if_refused c.read_behind.result _ _
    (λ why due. rows-front (λ rows. RefusesBy c.args.strict c.args.first (columns_in (header_of rows) c.args.asked) rows why) _ left row _ c.in_ok-found.ensures.reads (search rules)
    (subst (λ columns. IfSome left (λ rest. RefusesBy c.args.strict c.args.first columns (row ∷ rest) why)) (sym (sym c.columns_in.ensures ∙ c.in-Ok.is)) due))
    c.read_behind.ensures.refusal
