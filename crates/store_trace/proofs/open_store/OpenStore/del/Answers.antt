use Rattle.std.proofs.Common.{Some, sym, ap, ◌∙◌}
use Rattle.std.proofs.lemmas.Result.{err_from_is_err_and}
use Rattle.store_trace.specs.OpenStores.{seen}
use Rattle.store_trace.proofs.EndedLines.{line_behind, del_ends}
use Rattle.store_trace.proofs.OpenStores.{del_found, del_unbound}
use Rattle.store_trace.proofs.open_store.OpenStore.del.Goals as goal

pub returns-in_err-id-clause-fault : goal.returns-in_err-id-clause-fault
returns-in_err-id-clause-fault g c =
    let p = err_from_is_err_and c.from_residual.result c.from_residual.ensures.1 in
    rw (p.1, p.2) (del_unbound (seen c.args.self.now) c.args.name.now c.in_err-id.ensures.none.1 ∙ ap Some (sym c.in_err-id.ensures.none.0))

pub returns-clause-fault : goal.returns-clause-fault
returns-clause-fault g c = del_found (seen c.args.self.now) c.args.name.now c.in_ok-id.id c.in_ok-id.ensures.found

pub returns-clause-lines : goal.returns-clause-lines
returns-clause-lines g c = λ before. line_behind c.args.out.now.items _ c.put_del.new.out.items (del_ends c.args.name.now c.unlink.result) c.in_ok-put_del.ensures
