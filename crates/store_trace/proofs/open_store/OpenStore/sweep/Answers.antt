use Rattle.std.proofs.Common.{Some, sym, ap, ◌∙◌}
use Rattle.std.proofs.lemmas.Result.{err_from_is_err_and}
use Rattle.store_trace.specs.OpenStores.{seen}
use Rattle.store_trace.proofs.EndedLines.{line_behind, sweep_ends}
use Rattle.store_trace.proofs.OpenStores.{sweep_found, sweep_missing, class_there, class_missing}
use Rattle.store_trace.proofs.open_store.OpenStore.sweep.Goals as goal

pub returns-in_err-sweep-clause-fault : goal.returns-in_err-sweep-clause-fault
returns-in_err-sweep-clause-fault g c =
    let p = err_from_is_err_and c.from_residual.result c.from_residual.ensures.1 in
    rw (p.1, p.2) (sweep_missing (seen c.args.self.now) c.args.class (class_missing c.args.self.now.store c.args.class c.in_err-sweep.ensures.none.1) ∙ ap Some (sym c.in_err-sweep.ensures.none.0))

pub returns-clause-fault : goal.returns-clause-fault
returns-clause-fault g c = sweep_found (seen c.args.self.now) c.args.class (class_there c.args.self.now.store c.args.class c.in_ok-sweep.ensures.found)

pub returns-clause-lines : goal.returns-clause-lines
returns-clause-lines g c = λ before. line_behind c.args.out.now.items _ c.put_sweep.new.out.items (sweep_ends c.args.class c.in_ok-sweep.field-0) c.in_ok-put_sweep.ensures
