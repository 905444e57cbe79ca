use Rattle.std.proofs.Common.{◌≡◌}
use Rattle.bump_cache.specs.Caches.{part_in}
use Rattle.entry_cache.specs.Looking.{one_word}
use Rattle.entry_cache.specs.Weighing.{EvictsRows}
use Rattle.entry_cache.proofs.weighed_caches.WeighedCache.make_room.Given as goal

-- the rows that are noted were evicted so far
abbrev pub invariant-loop : goal.invariant-loop
invariant-loop g l = record {
  evicts : EvictsRows (part_in l.self.entries (one_word l.hash)) l.now l.evicted.items l.fn.me l.me;
  parts : l.me.parts ≡ l.fn.me.parts;
}
