use Rattle.std.proofs.Common.{refl, rules, sym, ap, ◌∙◌}
use Rattle.access_logs.proofs.DraftLemmas.{draft-none, default-none, default-some}
use Rattle.access_logs.proofs.EntryLemmas.{first_unreadable-none}
use Rattle.std.specs.Prelude.{[], Some}
use Rattle.access_logs.proofs.drafts.Draft.take_unreadable.Goals as goal

pub returns-then-self-clause-refusal : goal.returns-then-self-clause-refusal
returns-then-self-clause-refusal c strict first entries draft at =
    let strictly = sym draft.setting ∙ c.if-self.true in
    (strictly, first_unreadable-none first entries [] c.args.defect (draft.strictly strictly) ∙ ap (λ n. Some (record { number = n; defect = c.args.defect })) (sym at))

pub returns-then-is_none-clause-taken : goal.returns-then-is_none-clause-taken
returns-then-is_none-clause-taken c strict first entries draft at =
    draft-none strict first entries c.args.self.now _ c.args.number c.args.defect draft at c.if-self.false refl refl refl refl refl refl refl (default-none c.args.self.now.first_unreadable (record { number = c.args.number; defect = c.args.defect }) (search rules)) refl

pub returns-else-is_none-clause-taken : goal.returns-else-is_none-clause-taken
returns-else-is_none-clause-taken c strict first entries draft at =
    draft-none strict first entries c.args.self.now _ c.args.number c.args.defect draft at c.if-self.false refl refl refl refl refl refl refl (default-some c.args.self.now.first_unreadable (record { number = c.args.number; defect = c.args.defect }) (search rules)) refl
