use Rattle.std.proofs.Common.{length}
use Rattle.cache_lists.proofs.FreeingLemmas.{up_to_within}
use Rattle.cache_lists.proofs.Segments.{sweeps_segments}
use Rattle.cache_lists.proofs.Standings.{sweeps_keep}
use Rattle.cache_lists.proofs.Ways.{sweeps_flow}
use Rattle.bump_class.specs.Sweeps.{up_to}
use Rattle.cache_lists.proofs.items.free_some.Goals as goal

pub returns-clause-frees : goal.returns-clause-frees
returns-clause-frees g c = (c.sweep_into.ensures.swept.0, c.sweep_into.ensures.swept.1.sweeps)

pub returns-clause-kept : goal.returns-clause-kept
returns-clause-kept g c =
    let heads = c.sweep_into.ensures.swept.0 in let dying = c.args.book.now.lists.dying in
    sweeps_keep c.args.book.now c.sweep_into.new.self c.sweep_into.result heads (up_to (length c.args.freed.now) heads dying)
    c.promise.ensures.stands (up_to_within (length c.args.freed.now) heads dying) c.sweep_into.ensures.swept.1.sweeps

pub returns-clause-flows : goal.returns-clause-flows
returns-clause-flows g c =
    let heads = c.sweep_into.ensures.swept.0 in let dying = c.args.book.now.lists.dying in
    sweeps_flow c.args.book.now c.sweep_into.new.self c.sweep_into.result heads (up_to (length c.args.freed.now) heads dying)
    c.promise.ensures.stands (up_to_within (length c.args.freed.now) heads dying) c.sweep_into.ensures.swept.1.sweeps

pub returns-clause-segments : goal.returns-clause-segments
returns-clause-segments g c =
    let heads = c.sweep_into.ensures.swept.0 in let dying = c.args.book.now.lists.dying in
    sweeps_segments c.args.book.now c.sweep_into.new.self c.sweep_into.result heads (up_to (length c.args.freed.now) heads dying)
    c.promise.ensures.stands (up_to_within (length c.args.freed.now) heads dying) c.sweep_into.ensures.swept.1.sweeps
