use Rattle.std.proofs.Common.{Some, sym, ap, ◌∙◌}
use Rattle.std.proofs.lemmas.Result.{err_from_is_err_and}
use Rattle.store_trace.specs.OpenStores.{seen}
use Rattle.store_trace.proofs.EndedLines.{line_behind, set_ends}
use Rattle.store_trace.proofs.OpenStores.{set_found, set_missing, class_there, class_missing}
use Rattle.store_trace.proofs.open_store.OpenStore.set.Goals as goal

pub returns-in_err-answer-clause-fault : goal.returns-in_err-answer-clause-fault
returns-in_err-answer-clause-fault g c =
    let p = err_from_is_err_and c.from_residual.result c.from_residual.ensures.1 in
    rw (p.1, p.2) (set_missing (seen c.args.self.now) c.args.class c.args.now c.args.start c.args.name.now c.args.label (class_missing c.args.self.now.store c.args.class c.in_err-answer.ensures.none.1) ∙ ap Some (sym c.in_err-answer.ensures.none.0))

pub returns-clause-fault : goal.returns-clause-fault
returns-clause-fault g c = set_found (seen c.args.self.now) c.args.class c.args.now c.args.start c.args.name.now c.args.label (class_there c.args.self.now.store c.args.class c.in_ok-answer.ensures.found)

pub returns-clause-lines : goal.returns-clause-lines
returns-clause-lines g c = λ before. line_behind c.args.out.now.items _ c.put_set.new.out.items (set_ends c.args.start c.args.name.now c.match-answer.answer) c.in_ok-put_set.ensures
