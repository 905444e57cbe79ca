use Rattle.std.proofs.Common.{◌≡◌, length, ℕ, inr, subst, sym, ap, ◌∙◌, arith}
use Rattle.std.proofs.lemmas.Result.{on_ok_weaker}
use Rattle.bump_rules.proofs.Bounds.{bounds}
use Rattle.bump_store.specs.declared.settling.Settled.{Settled}
use Rattle.store_trace.specs.Reports.{worker_line}
use Rattle.store_trace.specs.WholeLines.{IsLines}
use Rattle.store_trace.proofs.EndedLines.{lines_behind, numbered_lines, accounts_ends}
use Rattle.store_trace.proofs.open_store.OpenStore.show.Goals as goal

pub put_workers-requires : goal.put_workers-requires
put_workers-requires g c =
    let config = c.args.self.now.store in
    let b = bounds config.workers config.capacity config.refs_limit config.first_generation config.classes config.valid in
    let count : length c.deref.result.now ≡ config.workers = ap length c.deref.ensures.value ∙ c.requires.shape.workers in
    omega (arith, count, b.workers_most)

pub returns-clause-lines : goal.returns-clause-lines
returns-clause-lines g c =
    λ whole. on_ok_weaker c.put_workers.result (λ is. subst IsLines (sym is)
    (lines_behind _ _ (c.in_ok-put_classes.ensures.lines whole)
    (numbered_lines worker_line (λ (n : ℕ) (told : Settled). inr (accounts_ends n told.counts told.applied)) 0 _))) c.put_workers.ensures
