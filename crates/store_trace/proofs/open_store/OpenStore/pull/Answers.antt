use Rattle.std.proofs.Common.{Some, sym, ap, ◌∙◌}
use Rattle.std.proofs.lemmas.Result.{err_from_is_err_and}
use Rattle.store_trace.specs.OpenStores.{seen}
use Rattle.store_trace.proofs.EndedLines.{line_behind, pull_ends}
use Rattle.store_trace.proofs.OpenStores.{pull_found, pull_missing, class_there, class_missing}
use Rattle.store_trace.proofs.open_store.OpenStore.pull.Goals as goal

pub returns-in_err-pull-clause-fault : goal.returns-in_err-pull-clause-fault
returns-in_err-pull-clause-fault g c =
    let p = err_from_is_err_and c.from_residual.result c.from_residual.ensures.1 in
    rw (p.1, p.2) (pull_missing (seen c.args.self.now) c.args.class c.args.tail (class_missing c.args.self.now.store c.args.class c.in_err-pull.ensures.none.1) ∙ ap Some (sym c.in_err-pull.ensures.none.0))

pub returns-clause-fault : goal.returns-clause-fault
returns-clause-fault g c = pull_found (seen c.args.self.now) c.args.class c.args.tail (class_there c.args.self.now.store c.args.class c.in_ok-pull.ensures.found)

pub returns-clause-lines : goal.returns-clause-lines
returns-clause-lines g c = λ before. line_behind c.args.out.now.items _ c.put_pull.new.out.items (pull_ends c.args.class c.args.tail c.in_ok-pull.field-0) c.in_ok-put_pull.ensures
