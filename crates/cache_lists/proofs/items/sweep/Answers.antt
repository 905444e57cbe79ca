use Rattle.cache_lists.proofs.Standings.{sweeps_keep}
use Rattle.cache_lists.proofs.Ways.{sweeps_flow}
use Rattle.cache_lists.proofs.items.sweep.Goals as goal
use Rattle.cache_lists.proofs.Segments.{sweeps_segments}

pub returns-clause-kept : goal.returns-clause-kept
returns-clause-kept g c = sweeps_keep c.args.book.now c.sweep.new.self c.sweep.result c.sweep.ensures.0 c.args.book.now.lists.dying
    c.promise.ensures.stands (λ d some. some) c.sweep.ensures.1

pub returns-clause-flows : goal.returns-clause-flows
returns-clause-flows g c = sweeps_flow c.args.book.now c.sweep.new.self c.sweep.result c.sweep.ensures.0 c.args.book.now.lists.dying
    c.promise.ensures.stands (λ d some. some) c.sweep.ensures.1

pub returns-clause-segments : goal.returns-clause-segments
returns-clause-segments g c = sweeps_segments c.args.book.now c.sweep.new.self c.sweep.result c.sweep.ensures.0 c.args.book.now.lists.dying
    c.promise.ensures.stands (λ d some. some) c.sweep.ensures.1
