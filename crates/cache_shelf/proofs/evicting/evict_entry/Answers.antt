use Rattle.cache_shelf.proofs.Keeping.{alike_put}
use Rattle.cache_shelf.proofs.EvictingLemmas.{evicted_kept, evicted_lawful, evicted_told}
use Rattle.cache_shelf.proofs.evicting.evict_entry.Goals as goal

pub returns-clause-lawful : goal.returns-clause-lawful
returns-clause-lawful g c =
    let before = c.args.part.now in let after = c.evict.new.self in let e = c.evict.ensures in
    evicted_lawful c.args.most c.args.now before after c.args.lanes.now c.evict.new.lanes (alike_put before after e.rest)
    c.evict.result e.evicts e.ends g.L.RowLaw.law c.requires.lawful

pub returns-clause-told : goal.returns-clause-told
returns-clause-told g c =
    let before = c.args.part.now in let after = c.evict.new.self in let e = c.evict.ensures in
    evicted_told c.args.most c.args.now before after c.args.lanes.now c.evict.new.lanes (alike_put before after e.rest)
    c.evict.result e.evicts e.ends g.L.RowLaw.law _ _ c.requires.lawful c.promise.ensures.part e.told

pub returns-clause-kept : goal.returns-clause-kept
returns-clause-kept g c =
    let before = c.args.part.now in let after = c.evict.new.self in let e = c.evict.ensures in
    evicted_kept c.args.most c.args.now before after c.args.lanes.now c.evict.new.lanes (alike_put before after e.rest)
    c.evict.result e.evicts e.ends
