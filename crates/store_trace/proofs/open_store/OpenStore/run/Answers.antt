use Rattle.std.proofs.Common.{sym, ap, subst, ◌∙◌}
use Rattle.bump_trace.specs.Meaning.{fault_in}
use Rattle.trace_lines.specs.Seen.{seen_instruction}
use Rattle.store_trace.specs.OpenStores.{seen, FailsAs}
use Rattle.store_trace.proofs.OpenStores.{out_of_order, in_order}
use Rattle.store_trace.proofs.open_store.OpenStore.run.Goals as goal

pub returns-then-is_misplaced-clause-fault : goal.returns-then-is_misplaced-clause-fault
returns-then-is_misplaced-clause-fault g c = out_of_order (seen c.args.self.now) c.args.now (seen_instruction c.args.instruction) (sym c.is_misplaced.ensures ∙ c.if-is_misplaced.true)

pub returns-clause-fault : goal.returns-clause-fault
returns-clause-fault g c =
    subst (FailsAs c.make.result)
    (sym (ap fault_in (in_order (seen c.args.self.now) c.args.now (seen_instruction c.args.instruction) (sym c.is_misplaced.ensures ∙ c.if-is_misplaced.false)))) c.make.ensures.fault
