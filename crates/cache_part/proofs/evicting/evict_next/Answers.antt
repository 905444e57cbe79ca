use Rattle.std.proofs.Common.{◌∙◌}
use Rattle.cache_part.proofs.EvictingLemmas.{empty_where_none, same_where_none}
use Rattle.cache_part.proofs.PartLemmas.{first_kept}
use Rattle.cache_part.proofs.RoomLemmas.{evicted_class, part_evicted}
use Rattle.cache_part.proofs.evicting.evict_next.Goals as goal

pub evict-evicted-requires : goal.evict-evicted-requires
evict-evicted-requires g c = record {
  leads = c.requires.part.agrees.leads;
  told = c.requires.told;
  few = c.requires.few;
}

pub returns : goal.returns
returns g c =
    let seed = c.args.settings.seed in let kw = c.args.settings.key_words in let before = c.args.lists.now in
    let left = c.evict-evicted.new.lists in let did = c.evict-evicted.ensures in let evicted = c.evict-evicted.result in
    let is = part_evicted seed kw evicted before.book left.book c.args.index.now c.evict-evicted.new.index did.ends
    did.table did.index c.requires.part in
    record {
      part = is;
      first = did.first ∙ first_kept c.args.index.now.first before.book left.book
          (evicted_class evicted before.book left.book did.ends) c.requires.first;
      evicts = did.evicts;
      ends = did.ends;
      none = empty_where_none evicted c.args.most c.args.now before c.args.lanes.now left c.evict-evicted.new.lanes
          c.promise.ensures.book c.promise-2.ensures.book is.own did.drains did.none did.ends;
      still = same_where_none evicted c.args.most c.args.now before c.args.lanes.now left c.evict-evicted.new.lanes
          c.promise.ensures.book c.promise-2.ensures.book is.own did.drains did.none did.ends;
      index = did.index;
      told = did.told;
    }
