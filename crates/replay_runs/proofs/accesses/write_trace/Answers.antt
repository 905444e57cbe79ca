use Rattle.std.proofs.Common.{◌≡◌, ◌+◌, ◌∙◌, ℕ, take, length, get_or, ap, subst, sym, arith, vec_items}
use Rattle.replay_runs.specs.Tends.{is_tended}
use Rattle.replay_runs.specs.Writing.{header, AddsRun}
use Rattle.replay_runs.proofs.WritingLemmas.{place_is_told, run_and_next, too_long, due_is_tended, last_if_tended, last_if_not_tended}
use Rattle.replay_runs.proofs.accesses.write_trace.Goals as goal
use Rattle.replay_runs.proofs.accesses.write_trace.Goals.{then-is_due, else-is_due}

pub loop-place-preserved : goal.loop-place-preserved
loop-place-preserved c =
    let plan = c.args.plan.now in
    let times = c.args.times.now in
    let place = c.loop-place.place in
    let key = get_or c.args.accesses.now place 0 in
    let due : c.is_due-is_due.result ≡ is_tended plan.tending times place =
    c.is_due-is_due.ensures ∙ due_is_tended plan.tending times place _ _ c.time_at-time.ensures c.loop-place.invariant.1 in
    let access = place_is_told plan times place key _ _ _ _ due (ap vec_items c.set_time.ensures) c.in_ok-write_access.ensures.text in (
      run_and_next plan times place c.args.accesses.now (header plan) _ _ (omega arith) c.loop-place.invariant.0 access,
      elim c.if-is_due.branch [
        | then-is_due w ↦ w.tended-is ∙ c.time_at-time.ensures ∙ sym (last_if_tended plan.tending times place (sym due ∙ w.if-is_due.true))
        | else-is_due w ↦ w.tended-is ∙ c.loop-place.invariant.1 ∙ sym (last_if_not_tended plan.tending times place (sym due ∙ w.if-is_due.false))
      ],
    )

pub returns-then-is_long-clause-fault : goal.returns-then-is_long-clause-fault
returns-then-is_long-clause-fault c =
    let plan = c.args.plan.now in
    let times = c.args.times.now in
    let place = c.loop-place.place in
    let key = get_or c.args.accesses.now place 0 in
    let due = c.is_due-is_due.ensures ∙ due_is_tended plan.tending times place _ _ c.time_at-time.ensures c.loop-place.invariant.1 in
    let access = place_is_told plan times place key _ _ _ _ due (ap vec_items c.set_time.ensures) c.in_ok-write_access.ensures.text in
    let run = run_and_next plan times place c.args.accesses.now (header plan) _ _ (omega arith) c.loop-place.invariant.0 access in
    too_long plan (place + 1) c.args.accesses.now times _ run (c.is_long.ensures c.if-is_long.true)

pub returns-clause-text : goal.returns-clause-text
returns-clause-text c =
    let all : c.loop-place.place ≡ length c.args.accesses.now = omega arith in
    let run = subst (λ (n : ℕ). AddsRun c.args.plan.now c.args.times.now 0 (take n c.args.accesses.now) (header c.args.plan.now) c.loop-place.scribe.text.items) all c.loop-place.invariant.0 in
    (c.loop-place.scribe.text.items, run, ap vec_items c.into_text.ensures ∙ c.in_ok-show.ensures.text)
