use Rattle.std.proofs.Common.{refl}
use Rattle.bump_class.specs.Pulls.{limits_of_call}
use Rattle.cache_lists.proofs.Standings.{pulls_keep}
use Rattle.cache_lists.proofs.Ways.{pulls_flow, pulls_told}
use Rattle.cache_lists.proofs.items.pull_past.Goals as goal

pub returns-clause-kept : goal.returns-clause-kept
returns-clause-kept g c = pulls_keep (limits_of_call c.args.limit) c.args.book.now c.pull_past.new.self c.args.from
    c.pull_past.result c.promise.ensures.stands c.requires _ refl c.pull_past.ensures

pub returns-clause-told : goal.returns-clause-told
returns-clause-told g c = pulls_told (limits_of_call c.args.limit) c.args.book.now c.pull_past.new.self c.args.from
    c.pull_past.result _ c.pull_past.ensures

pub returns-clause-flows : goal.returns-clause-flows
returns-clause-flows g c = pulls_flow (limits_of_call c.args.limit) c.args.book.now c.pull_past.new.self c.args.from
    c.pull_past.result c.promise.ensures.stands _ refl c.pull_past.ensures
