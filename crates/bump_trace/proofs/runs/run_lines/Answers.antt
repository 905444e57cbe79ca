use Rattle.std.proofs.Common.{[], ◌++◌, arith, ap₂, Some}
use Rattle.std.proofs.lemmas.Result.{err_from_is_err_and}
use Rattle.trace_lines.specs.Counted.{inner_of}
use Rattle.bump_trace.specs.Meaning.{prepend, run, parts_of, verdict_of}
use Rattle.bump_trace.specs.Views.{seen_stage}
use Rattle.bump_trace.proofs.KnownBytes.{appends_start}
use Rattle.bump_trace.proofs.GatheredText.{gathered_more, line_run, input_ended, runs_failed, runs_stopped}
use Rattle.bump_trace.proofs.FrontsOfText.{stops_at_line, stops_at_fault, stops_unrun}
use Rattle.bump_trace.proofs.runs.run_lines.Goals as goal

pub loop-line-init : goal.loop-line-init
unfolding verdict_of
loop-line-init g c =
    ([], appends_start _, ap₂ (λ l s. prepend l (run 1 (parts_of c.args.input.now) s)) c.requires.empty c.new-session.ensures.stage, omega arith, c.new-session.ensures.settled, c.new-text.ensures.items)

pub returns-in-Err-clause-text : goal.returns-in-Err-clause-text
returns-in-Err-clause-text g c =
    let (sent, wrote, same, room, settled, empty) = c.loop-line.invariant in
    runs_stopped _ _ _ sent c.loop-line.gathered.items _ c.args.input.now c.in-Some.line.now c.in-Some.after.now c.loop-line.number (seen_stage c.loop-line.session.stage) _ c.in-Err.error
    wrote c.in_ok-stop-in-Err.ensures.ok c.in-Some.ensures.0 c.in-Err.ensures.said same

pub loop-line-preserved : goal.loop-line-preserved
loop-line-preserved g c =
    let (sent, wrote, same, room, settled, empty) = c.loop-line.invariant in
    let text = c.step.new.out.items in
    let (all, now_wrote, gathered) = gathered_more _ _ _ sent c.loop-line.gathered.items c.gather.new.gathered.items text wrote (rw c.deref.ensures.value at c.in_ok-gather.ensures.ok) in (
      all,
      now_wrote,
      line_run c.loop-line.number c.in-Some.line.now c.in-Some.after.now (sent ++ c.loop-line.gathered.items) (all ++ c.gather.new.gathered.items) (seen_stage c.loop-line.session.stage) (seen_stage c.step.new.self.stage) _ text _
          c.in-Some.ensures.0 c.in-Ok.ensures.said gathered same,
      omega (arith, room, c.in-Some.ensures.1),
      c.in-Ok.ensures.settled,
      c.clear.ensures.items,
    )

pub returns-in-Some-fault_at_end-clause-text : goal.returns-in-Some-fault_at_end-clause-text
returns-in-Some-fault_at_end-clause-text g c =
    let (sent, wrote, same, room, settled, empty) = c.loop-line.invariant in
    runs_failed _ _ _ sent c.loop-line.gathered.items _ c.args.input.now c.loop-line.number c.in-Some-fault_at_end.fault wrote c.in_ok-gather_fault-in-Some-fault_at_end.ensures.ok
    (input_ended c.loop-line.number c.loop-line.rest.now (sent ++ c.loop-line.gathered.items) (seen_stage c.loop-line.session.stage) _ (Some c.in-Some-fault_at_end.fault) _ c.in_default.ensures c.in-Some-fault_at_end.ensures same)

pub returns-in_err-stop-in-Err-clause-front : goal.returns-in_err-stop-in-Err-clause-front
returns-in_err-stop-in-Err-clause-front g c =
    let p = err_from_is_err_and c.from_residual.result c.from_residual.ensures.1 in
    let (sent, wrote, same, room, settled, empty) = c.loop-line.invariant in
    rw (p.1, p.2)
    (stops_unrun (g.W.Sink.contents (inner_of c.args.writer.now)) (g.W.Sink.contents (inner_of c.loop-line.writer)) (g.W.Sink.contents (inner_of c.stop.new.writer))
    sent c.loop-line.gathered.items c.stop.new.gathered.items c.args.input.now c.in-Some.line.now c.in-Some.after.now c.loop-line.number (seen_stage c.loop-line.session.stage) _ c.in-Err.error c.in_err-stop-in-Err.field-0.0
    wrote c.in_err-stop-in-Err.ensures.front c.in-Some.ensures.0 c.in-Err.ensures.said same)

pub returns-in_err-gather-clause-front : goal.returns-in_err-gather-clause-front
returns-in_err-gather-clause-front g c =
    let p = err_from_is_err_and c.from_residual-in_err-gather.result c.from_residual-in_err-gather.ensures.1 in
    let (sent, wrote, same, room, settled, empty) = c.loop-line.invariant in
    rw (p.1, p.2)
    (stops_at_line (g.W.Sink.contents (inner_of c.args.writer.now)) (g.W.Sink.contents (inner_of c.loop-line.writer)) (g.W.Sink.contents (inner_of c.gather.new.writer))
    sent c.loop-line.gathered.items c.gather.new.gathered.items c.step.new.out.items c.args.input.now c.in-Some.line.now c.in-Some.after.now c.loop-line.number (seen_stage c.loop-line.session.stage) (seen_stage c.step.new.self.stage) _ c.in_err-gather.field-0.0
    wrote (rw c.deref.ensures.value at c.in_err-gather.ensures.front) c.in-Some.ensures.0 c.in-Ok.ensures.said same)

pub returns-in_err-gather_fault-in-Some-fault_at_end-clause-front : goal.returns-in_err-gather_fault-in-Some-fault_at_end-clause-front
returns-in_err-gather_fault-in-Some-fault_at_end-clause-front g c =
    let residual = c.from_residual-in_err-gather_fault-in-Some-fault_at_end in
    let p = err_from_is_err_and residual.result residual.ensures.1 in
    let (sent, wrote, same, room, settled, empty) = c.loop-line.invariant in
    rw (p.1, p.2)
    (stops_at_fault (g.W.Sink.contents (inner_of c.args.writer.now)) (g.W.Sink.contents (inner_of c.loop-line.writer)) (g.W.Sink.contents (inner_of c.gather_fault.new.writer))
    sent c.loop-line.gathered.items c.gather_fault.new.gathered.items c.args.input.now c.loop-line.number c.in-Some-fault_at_end.fault c.in_err-gather_fault-in-Some-fault_at_end.field-0.0
    wrote c.in_err-gather_fault-in-Some-fault_at_end.ensures.front
    (input_ended c.loop-line.number c.loop-line.rest.now (sent ++ c.loop-line.gathered.items) (seen_stage c.loop-line.session.stage) _ (Some c.in-Some-fault_at_end.fault) _ c.in_default.ensures c.in-Some-fault_at_end.ensures same))
