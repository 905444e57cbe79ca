use Rattle.std.proofs.Common.{◌≡◌, false, is_some, sym, ◌∙◌, arith}
use Rattle.cache_part.proofs.Agreements.{nothing_where}
use Rattle.cache_part.proofs.RoomLemmas.{evicts_where_full}
use Rattle.cache_part.proofs.room.evict_where_full.Goals as goal

pub returns-clause-evicts : goal.returns-clause-evicts
returns-clause-evicts g c =
    let none : is_some c.args.old ≡ false = sym c.is_some.ensures ∙ c.if-is_some.false in
    evicts_where_full c.args.settings.items c.args.most c.args.now c.args.old c.evict.result c.args.lists.now
    c.args.lanes.now c.evict.new.lists c.evict.new.lanes (nothing_where c.args.old none)
    (omega (arith, c.if-count-from.false, c.count.ensures, c.from.ensures)) c.evict.ensures.evicts
    c.evict.ensures.drains c.evict.ensures.none
