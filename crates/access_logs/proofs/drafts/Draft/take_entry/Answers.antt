use Rattle.std.proofs.Common.{refl, sym, ◌∙◌, rules, ◌≡◌}
use Rattle.std.specs.Prelude.{is_ok, true}
use Rattle.access_logs.specs.Entries.{access_of}
use Rattle.access_logs.proofs.DraftLemmas.{draft-some, refused-key}
use Rattle.access_logs.proofs.KeyLemmas.{succeeded}
use Rattle.access_logs.proofs.drafts.Draft.take_entry.Goals as goal

pub returns-in_err-number-clause-refusal : goal.returns-in_err-number-clause-refusal
returns-in_err-number-clause-refusal c strict first entries draft =
    let due = refused-key strict first entries (access_of c.args.entry) c.in_err-number.field-0.0 _ draft.keys c.in_err-number.ensures.refusal in
    search (rules, due)

pub returns-clause-taken : goal.returns-clause-taken
returns-clause-taken c strict first entries draft =
    let pushed : is_ok c.push.result ≡ true = search rules in
    let sizes = succeeded c.push_some.result _ (sym c.is_err-2.ensures.value ∙ c.if-is_err-2.false) c.push_some.ensures in
    let times = succeeded c.push_some-2.result _ (sym c.is_err-3.ensures.value ∙ c.if-is_err-3.false) c.push_some-2.ensures in
    let operations = succeeded c.push_some-3.result _ (sym c.is_err-4.ensures.value ∙ c.if-is_err-4.false) c.push_some-3.ensures in
    let ttls = succeeded c.push_some-4.result _ (sym c.is_err-5.ensures.value ∙ c.if-is_err-5.false) c.push_some-4.ensures in
    draft-some strict first entries c.args.self.now _ (access_of c.args.entry) c.in_ok-number.number draft c.in_ok-number.ensures.keys c.in_ok-number.ensures.number
    (rw pushed at c.push.ensures.items) sizes times operations ttls refl refl refl
