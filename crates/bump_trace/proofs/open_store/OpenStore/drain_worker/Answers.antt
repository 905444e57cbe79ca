use Rattle.std.proofs.Common.{◌∙◌, ◌++◌, ap, sym, append_assoc, arith}
use Rattle.std.proofs.lemmas.Bool.{lt-ltb}
use Rattle.bump_trace.specs.declared.open_store.OpenStore.{OpenStore}
use Rattle.trace_lines.specs.Text.{bump_line}
use Rattle.bump_trace.proofs.SameButWorld.{same_rest, same_world}
use Rattle.bump_trace.proofs.Draining.{bump_more, bumps_over}
use Rattle.bump_trace.proofs.CommandsAtRest.{next_allowed}
use Rattle.bump_trace.proofs.open_store.OpenStore.drain_worker.Goals as goal

pub command-requires-clause-allowed : goal.command-requires-clause-allowed
command-requires-clause-allowed c =
    let (text, put, drained, same, ready, few) = c.loop.invariant in
    let count = ap (λ (b : OpenStore). b.workers) same in
    next_allowed c.loop.self.world c.args.worker c.args.now ready.rest (lt-ltb _ _ (omega (arith, ready.workers, count, c.requires.worker)))

pub returns-in_default : goal.returns-in_default
returns-in_default c =
    let (text, put, drained, same, ready, few) = c.loop.invariant in
    let next = c.in_ok-entry.ensures in
    let all = bumps_over c.args.now c.args.worker _ c.loop.count c.loop.self.world c.command.new.self.world text c.in_ok-entry.field-0 _ (omega (arith, c.loop-test.true)) next.answer
    (ap (λ (b : OpenStore). b.world) next.after) c.in_default.not-Bumped drained in
    record {
      drained = (
        same_world c.command.new.self c.args.self.now _ (same_rest c.command.new.self c.loop.self c.args.self.now _ next.after same) all.same_state,
        put ∙ ap (λ t. c.args.out.now.items ++ t) all.same_text,
        all.same_count,
      );
      few = omega (arith, few, c.loop-test.true);
      ready = next.ready;
    }

pub loop-preserved : goal.loop-preserved
loop-preserved c =
    let (text, put, drained, same, ready, few) = c.loop.invariant in
    let next = c.in_ok-entry.ensures in
    let e = c.in-Bumped.entry in
    let w = c.args.worker in (
      text ++ bump_line w e,
      c.in_ok-put_bump-in-Bumped.ensures ∙ ap (λ t. t ++ bump_line w e) put ∙ append_assoc c.args.out.now.items text (bump_line w e),
      bump_more c.args.now w _ _ c.loop.count c.loop.self.world c.command.new.self.world text e _ (omega (arith, c.loop-test.true)) (sym c.in-Bumped.is ∙ next.answer) (ap (λ (b : OpenStore). b.world) next.after) drained,
      same_rest c.command.new.self c.loop.self c.args.self.now _ next.after same,
      next.ready,
      omega (arith, few),
    )
