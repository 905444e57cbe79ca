use Rattle.std.proofs.Common.{◌≡◌, ◌+◌, ◌-◌, ◌≤◌, ◌++◌, ◌∷◌, [], length, arith, sym, subst, ap, ◌∙◌}
use Rattle.std.specs.Prelude.{IfErr, OnOk}
use Rattle.csv.specs.Records.{fields_of}
use Rattle.access_logs.specs.Drafts.{IsDraftOf}
use Rattle.access_logs.specs.Entries.{RefusesLog}
use Rattle.access_logs.specs.Records.{entries_from}
use Rattle.access_logs.proofs.RecordLemmas.{entries_from-more, entries_from-before, length-entries_from}
use Rattle.access_logs.proofs.records.take_record.Goals as goal

pub returns-then-number-first-clause-taken : goal.returns-then-number-first-clause-taken
returns-then-number-first-clause-taken c strict seen draft at =
    subst (λ entries. IsDraftOf strict c.args.first entries c.args.draft.now)
    (sym (entries_from-before c.args.first c.args.columns seen (fields_of c.args.row.now) (omega (arith, at, c.if-number-first.true, c.requires.first)))) draft

pub returns-clause-taken : goal.returns-clause-taken
returns-clause-taken c strict seen draft at =
    let far : c.args.first - 1 ≤ length seen = omega (arith, at, c.if-number-first.false) in
    let long = length-entries_from c.args.first c.args.columns seen in
    let entries = entries_from c.args.first c.args.columns seen in
    let place : c.args.number ≡ c.args.first + length entries = omega (arith, at, far, long, c.requires.first) in
    let more = ap (λ entry. entries ++ entry ∷ []) c.entry_of_record.ensures ∙ sym (entries_from-more c.args.first c.args.columns seen (fields_of c.args.row.now) far) in
    subst (λ all. OnOk c.take.result (IsDraftOf strict c.args.first all c.take.new.self)) more (c.take.ensures.taken strict c.args.first entries draft place)

pub returns-clause-refusal : goal.returns-clause-refusal
returns-clause-refusal c strict seen draft at =
    let far : c.args.first - 1 ≤ length seen = omega (arith, at, c.if-number-first.false) in
    let long = length-entries_from c.args.first c.args.columns seen in
    let entries = entries_from c.args.first c.args.columns seen in
    let place : c.args.number ≡ c.args.first + length entries = omega (arith, at, far, long, c.requires.first) in
    let more = ap (λ entry. entries ++ entry ∷ []) c.entry_of_record.ensures ∙ sym (entries_from-more c.args.first c.args.columns seen (fields_of c.args.row.now) far) in
    subst (λ all. IfErr c.take.result (RefusesLog strict c.args.first all)) more (c.take.ensures.refusal strict c.args.first entries draft place)
