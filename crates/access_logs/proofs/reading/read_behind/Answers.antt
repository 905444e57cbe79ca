use Rattle.std.proofs.Common.{[], ◌∷◌, ◌++◌, refl, rules, arith, length-append}
use Rattle.csv.specs.Records.{fields_of}
use Rattle.access_logs.specs.Records.{rows_left}
use Rattle.access_logs.specs.declared.log.LogFault.TheVariants as fault
use Rattle.access_logs.proofs.HeaderLemmas.{first-draft}
use Rattle.access_logs.proofs.RecordLemmas.{none-read, row-read, all-read, refused-next, refused-rest, entries_from-reach}
use Rattle.access_logs.proofs.reading.read_behind.Goals as goal

pub take_record-requires-clause-few : goal.take_record-requires-clause-few
take_record-requires-clause-few g c = let none = (c.new-draft.ensures 1).unreadable in omega (arith, none)

pub returns-in_err-take_record-clause-refusal : goal.returns-in_err-take_record-clause-refusal
returns-in_err-take_record-clause-refusal g c =
    let due = c.in_err-take_record.ensures.refusal c.args.strict [] (first-draft c.args.strict c.args.first c.args.columns _ c.new-draft.ensures) refl in
    let all = refused-rest c.args.strict c.args.first c.args.columns (fields_of c.args.row.now) _ _ [] c.in_err-take_record.field-0.0 (none-read (rows_left g.R.Read.remaining c.args.rows.now)) due in
    search (rules, all)

pub loop-number-init : goal.loop-number-init
loop-number-init g c =
    let taken = c.in_ok-take_record.ensures.taken c.args.strict [] (first-draft c.args.strict c.args.first c.args.columns _ c.new-draft.ensures) refl in
    ([], taken, refl, none-read _, c.requires.plain)

pub returns-in_err-read_row-clause-refusal : goal.returns-in_err-read_row-clause-refusal
returns-in_err-read_row-clause-refusal g c =
    let inv = c.loop-number.invariant in
    let header = fields_of c.args.row.now in
    let due = refused-next c.args.strict c.args.first c.args.columns (header ∷ inv.0) _ _ c.requires.first (omega (arith, inv.2)) c.in_err-read_row.ensures.refusal in
    let all = refused-rest c.args.strict c.args.first c.args.columns header _ _ inv.0 c.in_err-read_row.field-0.0 inv.3 due in
    search (rules, all)

pub returns-then-not-branch-clause-log : goal.returns-then-not-branch-clause-log
returns-then-not-branch-clause-log g c =
    let inv = c.loop-number.invariant in
    (inv.0, c.finish.ensures.log c.args.strict c.args.first _ inv.1, all-read _ _ _ inv.0 _ _ inv.3 c.in_ok-read_row.ensures.reads (search rules))

pub returns-in_err-take_record-2-clause-refusal : goal.returns-in_err-take_record-2-clause-refusal
returns-in_err-take_record-2-clause-refusal g c =
    let inv = c.loop-number.invariant in
    let header = fields_of c.args.row.now in
    let due = c.in_err-take_record-2.ensures.refusal c.args.strict (header ∷ inv.0) inv.1 (omega (arith, inv.2)) in
    let all = refused-rest c.args.strict c.args.first c.args.columns header _ _ _ c.in_err-take_record-2.field-0.0 (row-read _ _ _ inv.0 _ _ inv.3 c.in_ok-read_row.ensures.reads (search rules)) due in
    search (rules, all)

pub loop-number-preserved : goal.loop-number-preserved
loop-number-preserved g c =
    let inv = c.loop-number.invariant in
    let row = fields_of c.read_row.new.row in
    let longer = length-append inv.0 (row ∷ []) in (
      inv.0 ++ row ∷ [],
      c.in_ok-take_record-2.ensures.taken c.args.strict (fields_of c.args.row.now ∷ inv.0) inv.1 (omega (arith, inv.2)),
      omega (arith, longer, inv.2),
      row-read _ _ _ inv.0 row _ inv.3 c.in_ok-read_row.ensures.reads (search rules),
      c.in_ok-read_row.ensures.plain (search rules),
    )

pub returns-clause-refusal : goal.returns-clause-refusal
returns-clause-refusal g c =
    let inv = c.loop-number.invariant in
    let header = fields_of c.args.row.now in
    let reach = entries_from-reach c.args.first c.args.columns (header ∷ inv.0) c.loop-number.number c.requires.first (omega (arith, inv.2)) in
    refused-rest c.args.strict c.args.first c.args.columns header _ _ inv.0 fault.TooManyLines inv.3 (omega (arith, reach, c.loop-number-test.false))
