use Rattle.std.proofs.Common.{◌≡◌, ◌⊎◌, ℕ, ◌+◌, ◌<◌, ◌≤◌, Bool, true, inl, inr, subst, arith}
use Rattle.std.proofs.lemmas.Bool.{cases_lt}
use Rattle.std.proofs.lemmas.Grind.{common_steps}
use Rattle.std.proofs.lemmas.List.{take_more}
use Rattle.store_trace.specs.Gates.{PassedFirst}
use Rattle.store_trace.proofs.MadeLines.{made_next}
use Rattle.store_trace.proofs.threads.make_gets.Goals as goal

-- one more passed
passed_next : (lets : ℕ → Bool → Type 0) (sees : ℕ → Type 0) (n m : ℕ) → m ≡ n + 1 → PassedFirst lets sees n → lets n true → sees n
    → PassedFirst lets sees m
passed_next lets sees n m more first passed seen call low = by (cases_lt call n)
  where
    by : (call < n) ⊎ (n ≤ call) → lets call true × sees call
    by (inl below) = first call below
    by (inr above) = let same : n ≡ call = omega (arith, low, more, above) in subst (λ (k : ℕ). lets k true × sees k) same (passed, seen)

pub loop-task-preserved : goal.loop-task-preserved
loop-task-preserved g c =
    let count : c.saturating_add-call.result ≡ c.loop-task.call + 1 = grind (arith, common_steps) in
    let entered : g.G.Gate.lets c.args.gate.now c.args.number c.loop-task.call true = c.if-not-enter.ensures in
    let i = c.loop-task.invariant in record {
      count = omega (arith, count, i.count);
      passed = passed_next (g.G.Gate.lets c.args.gate.now c.args.number) (g.G.Gate.sees c.args.gate.now c.args.number) c.loop-task.call
          c.saturating_add-call.result count i.passed entered c.leave.ensures;
      made = made_next g.M.MakesGets.gets c.args.tasks.now c.loop-task.task-index _ c.args.maker.now c.loop-task.maker c.get.new.self
          (take_more c.args.tasks.now c.loop-task.task-index _ c.loop-task-test.true) i.made c.get.ensures;
    }
