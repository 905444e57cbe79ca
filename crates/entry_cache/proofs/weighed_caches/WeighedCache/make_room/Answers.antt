use Rattle.std.proofs.Common.{rules, ◌≡◌, ◌++◌, List, ◌∷◌, [], Some, sym, subst, ◌∙◌}
use Rattle.bump_cache.specs.Caches.{part_in}
use Rattle.bump_cache.specs.declared.answers.Evicted.{Evicted}
use Rattle.entry_cache.specs.Looking.{one_word}
use Rattle.entry_cache.specs.Weighing.{EvictsRow, EvictsRows}
use Rattle.entry_cache.proofs.WeighLemmas.{evicts_more}
use Rattle.entry_cache.proofs.weighed_caches.WeighedCache.make_room.Goals as goal

pub loop-preserved : goal.loop-preserved
loop-preserved g c =
    let so_far = c.loop.invariant in
    let part = part_in c.args.self.now.entries (one_word c.args.hash) in
    let row = c.in-Some-evict.row in
    let same : c.part_of_hash-part.result ≡ part = search rules in
    let did : EvictsRow c.part_of_hash-part.result c.args.now (Some row) c.loop.me c.evict.new.me =
    c.in-Some-evict.ensures.evicts c.part_of_hash-part.ensures.within in
    let more : c.note.new.evicted.items ≡ c.loop.evicted.items ++ row ∷ [] = search rules in
    record {
      evicts = subst (λ (rows : List (Evicted _ _)). EvictsRows part c.args.now rows c.args.me.now c.evict.new.me) (sym more)
          (evicts_more part c.args.now c.loop.evicted.items row c.args.me.now c.loop.me c.evict.new.me so_far.evicts
          (subst (λ number. EvictsRow number c.args.now (Some row) c.loop.me c.evict.new.me) same did));
      parts = did.call.parts ∙ so_far.parts;
    }
