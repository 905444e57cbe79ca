use Rattle.std.proofs.Common.{ap, ◌∙◌, arith, take}
use Rattle.cache_part.proofs.LookLemmas.{looks_keep}
use Rattle.cache_part.proofs.PartLemmas.{part_looked, part_kept}
use Rattle.cache_part.proofs.RoomLemmas.{new_evicts, part_evicted, room_class, room_stays, room_another, room_gone, item_stays, told_same}
use Rattle.cache_part.proofs.putting.make_room.Goals as goal

pub find_key_of-found-requires : goal.find_key_of-found-requires
find_key_of-found-requires g c = record {
  part = c.requires.part;
  words = omega (arith, c.requires.words);
  few = omega (arith, c.requires.words, c.requires.few);
}

pub evict_where_full-evicted-requires : goal.evict_where_full-evicted-requires
evict_where_full-evicted-requires g c =
    let one = part_looked c.args.settings.seed c.args.settings.key_words c.args.lists.now.book
    c.find_key_of-found.new.lists.book c.args.index.now c.find_key_of-found.new.index c.requires.part
    c.find_key_of-found.ensures.looks c.find_key_of-found.ensures.index in
    record {
      leads = one.agrees.leads;
      told = c.requires.told;
      few = omega (arith, c.requires.words, c.requires.few);
    }

pub returns : goal.returns
returns g c =
    let seed = c.args.settings.seed in let kw = c.args.settings.key_words in
    let before = c.args.lists.now in let seen = c.find_key_of-found.new.lists in
    let left = c.evict_where_full-evicted.new.lists in let between = c.free_where_none.new.lists in
    let found = c.find_key_of-found.ensures in let evicts = c.evict_where_full-evicted.ensures in
    let frees = c.free_where_none.ensures in let index = c.evict_where_full-evicted.new.index in
    let at = c.find_key_of-found.result.chunk in let evicted = c.evict_where_full-evicted.result in
    let one = part_looked seed kw before.book seen.book c.args.index.now c.find_key_of-found.new.index c.requires.part
    found.looks found.index in
    let two = part_evicted seed kw evicted seen.book left.book c.find_key_of-found.new.index index evicts.ends
    evicts.table evicts.index one in
    let new = new_evicts c.args.settings.items c.args.most c.args.now at evicted seen c.args.lanes.now left
    c.evict_where_full-evicted.new.lanes evicts.evicts in
    record {
      part = part_kept seed kw left.book between.book index.table two frees.kept;
      class = room_class at evicted before.book between.book seen.book left.book found.looks evicts.ends new frees.kept;
      hash = found.hash;
      was = found.item;
      item = item_stays at evicted before.book between.book seen.book left.book found.looks evicts.ends new frees.kept kw
          (take kw c.args.row.now) found.item;
      room = record {
        seen = seen;
        looks = found.looks;
        same = found.rest;
        left = left;
        between = c.evict_where_full-evicted.new.lanes;
        evicts = evicts.evicts;
        frees = frees.frees;
        evictions = frees.evictions;
      };
      stay = room_stays at evicted before.book between.book seen.book left.book found.looks evicts.ends new frees.kept;
      told = told_same c.args.tells _ evicted c.args.told.now c.evict_where_full-evicted.new.told before.book.sheet seen.book.sheet
          (looks_keep before.book seen.book found.looks).words evicts.told;
      another = room_another at evicted before.book between.book seen.book left.book found.looks evicts.ends new frees.kept;
      first = evicts.first ∙ ap (λ i. i.first) found.index;
      gone = room_gone at evicted before.book between.book seen.book left.book found.looks evicts.ends new frees.kept;
    }
