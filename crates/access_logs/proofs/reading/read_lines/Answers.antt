use Rattle.std.proofs.Common.{◌≡◌, List, [], ◌∷◌, ◌++◌, length, refl, sym, ap, subst, ◌∙◌, rules, arith, length-append, vec_items}
use Rattle.access_logs.specs.Drafts.{IsDraftOf, IsLogOf}
use Rattle.access_logs.specs.Entries.{Said, RefusesLog, said_by}
use Rattle.access_logs.specs.Lines.{entries_of_lines, entry_of_line}
use Rattle.access_logs.specs.declared.log.LogFault.TheVariants as fault
use Rattle.access_logs.proofs.EntryLemmas.{refused-more, refused-read}
use Rattle.access_logs.proofs.KnownBytes.{fresh, if_known}
use Rattle.access_logs.proofs.LineKeys.{IsReadSoFar, none-read, line-read, all-read, front-read}
use Rattle.access_logs.proofs.AskedLogs.{no_sizes-line, no_times-line, no_operations-line, no_ttls-line}
use Rattle.access_logs.proofs.reading.read_lines.Goals as goal

pub loop-number-init : goal.loop-number-init
loop-number-init g c =
    let open_ = c.in-Ok.ensures in
    ([], c.new-draft.ensures 1, refl, subst (λ o. IsReadSoFar (g.R.Read.remaining c.args.source) o []) (sym (fresh g.R.Read.remaining c.in-Ok.lines c.args.source open_.inner open_.empty open_.capacity)) (none-read _), refl, refl, refl, refl)

pub returns-then-is_empty-clause-any : goal.returns-then-is_empty-clause-any
returns-then-is_empty-clause-any g c =
    let inv = c.loop-number.invariant in
    (inv.0, c.finish.ensures.log c.args.strict 1 inv.0 inv.1, inv.4, inv.5, inv.6, inv.7)

pub returns-then-is_empty-clause-lines : goal.returns-then-is_empty-clause-lines
returns-then-is_empty-clause-lines g c =
    let inv = c.loop-number.invariant in
    let none : length (vec_items c.read_line.new.line) ≡ 0 = search rules in
    let all = all-read (g.R.Read.remaining c.args.source) _ inv.0 (vec_items c.read_line.new.line) inv.3 c.in_ok-read_line.ensures.line none in
    if_known (g.R.Read.remaining c.args.source) (λ bytes. inv.0 ≡ entries_of_lines bytes) _
    (λ bytes is. subst (λ entries. IsLogOf c.args.strict 1 entries c.finish.result) is (c.finish.ensures.log c.args.strict 1 inv.0 inv.1)) all

pub returns-in_err-take-clause-refusal : goal.returns-in_err-take-clause-refusal
returns-in_err-take-clause-refusal g c =
    let inv = c.loop-number.invariant in
    let known = g.R.Read.remaining c.args.source in
    let kept = vec_items c.read_line.new.line in
    let some : length kept ≡ 0 → ⊥ = search rules in
    let more = line-read known _ _ inv.0 kept inv.3 c.in_ok-read_line.ensures.line c.in_ok-read_line.ensures.rest some in
    let is : said_by c.entry_of_line.result ≡ entry_of_line kept = c.entry_of_line.ensures ∙ ap entry_of_line c.deref.ensures.value in
    let due = subst (λ entry. RefusesLog c.args.strict 1 (inv.0 ++ entry ∷ []) c.in_err-take.field-0.0) is (c.in_err-take.ensures.refusal c.args.strict 1 inv.0 inv.1 inv.2) in
    if_known known (λ bytes. (rest : List Said) × (entries_of_lines bytes ≡ (inv.0 ++ entry_of_line kept ∷ []) ++ rest)) _
    (λ bytes front.
    let all = subst (λ entries. RefusesLog c.args.strict 1 entries c.in_err-take.field-0.0) (sym front.1) (refused-more c.args.strict 1 (inv.0 ++ entry_of_line kept ∷ []) front.0 c.in_err-take.field-0.0 due) in
    search (rules, all))
    (front-read known _ (inv.0 ++ entry_of_line kept ∷ []) more)

pub loop-number-preserved : goal.loop-number-preserved
loop-number-preserved g c =
    let inv = c.loop-number.invariant in
    let kept = vec_items c.read_line.new.line in
    let some : length kept ≡ 0 → ⊥ = search rules in
    let is : said_by c.entry_of_line.result ≡ entry_of_line kept = c.entry_of_line.ensures ∙ ap entry_of_line c.deref.ensures.value in
    let longer = length-append inv.0 (entry_of_line kept ∷ []) in (
      inv.0 ++ entry_of_line kept ∷ [],
      subst (λ entry. IsDraftOf c.args.strict 1 (inv.0 ++ entry ∷ []) c.take.new.self) is (c.in_ok-take.ensures.taken c.args.strict 1 inv.0 inv.1 inv.2),
      omega (arith, longer, inv.2),
      line-read (g.R.Read.remaining c.args.source) _ _ inv.0 kept inv.3 c.in_ok-read_line.ensures.line c.in_ok-read_line.ensures.rest some,
      no_sizes-line inv.0 kept inv.4,
      no_times-line inv.0 kept inv.5,
      no_operations-line inv.0 kept inv.6,
      no_ttls-line inv.0 kept inv.7,
    )

pub returns-in_err-read_line-clause-refusal : goal.returns-in_err-read_line-clause-refusal
returns-in_err-read_line-clause-refusal g c =
    let inv = c.loop-number.invariant in
    let known = g.R.Read.remaining c.args.source in
    let why = c.in_err-read_line.field-0.0 in
    let due = refused-read c.args.strict 1 inv.0 _ why c.in_err-read_line.ensures.refusal (omega (arith, inv.2)) (omega (arith, inv.2)) in
    if_known known (λ bytes. (rest : List Said) × (entries_of_lines bytes ≡ inv.0 ++ rest)) _
    (λ bytes front.
    let all = subst (λ entries. RefusesLog c.args.strict 1 entries why) (sym front.1) (refused-more c.args.strict 1 inv.0 front.0 why due) in
    search (rules, all))
    (front-read known _ inv.0 inv.3)

pub returns-clause-refusal : goal.returns-clause-refusal
returns-clause-refusal g c =
    let inv = c.loop-number.invariant in
    let known = g.R.Read.remaining c.args.source in
    let due : RefusesLog c.args.strict 1 inv.0 fault.TooManyLines = omega (arith, inv.2, c.loop-number-test.false) in
    if_known known (λ bytes. (rest : List Said) × (entries_of_lines bytes ≡ inv.0 ++ rest)) _
    (λ bytes front.
    let all = subst (λ entries. RefusesLog c.args.strict 1 entries fault.TooManyLines) (sym front.1) (refused-more c.args.strict 1 inv.0 front.0 fault.TooManyLines due) in
    search (rules, all))
    (front-read known _ inv.0 inv.3)
