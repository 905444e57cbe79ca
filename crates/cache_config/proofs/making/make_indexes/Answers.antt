use Rattle.std.proofs.Common.{rules, ◌≡◌, ◌+◌, [], None, refl, sym, ap, ap₂, ◌∙◌, subst, replicate, arith}
use Rattle.bump_rules.specs.declared.configs.ClassConfig.{ClassConfig}
use Rattle.cache_config.specs.Configs.{class_of}
use Rattle.cache_config.specs.Making.{AreNewIndexes}
use Rattle.cache_config.proofs.Openings.{before_next, room_behind}
use Rattle.cache_config.proofs.ShelfLemmas.{indexes_next, indexes_none}
use Rattle.cache_config.proofs.making.make_indexes.Goals as goal

pub loop-part-init : goal.loop-part-init
loop-part-init c =
    let none : c.in_ok-indexes.indexes.items ≡ [] = search rules in record {
      first = refl;
      indexes = subst (AreNewIndexes c.args.config.now 0) (sym none) (indexes_none c.args.config.now);
    }

pub new-requires : goal.new-requires
new-requires c =
    let room = room_behind c.args.config.now c.loop-part.part c.requires c.loop-part-test.true in
    let chunks : c.class-chunks.result.chunks ≡ (class_of c.args.config.now c.loop-part.part).chunks =
    ap (λ (k : ClassConfig). k.chunks) c.class-chunks.ensures in
    omega (arith, room, chunks, c.loop-part.invariant.first)

pub loop-part-preserved : goal.loop-part-preserved
loop-part-preserved c =
    let so_far = c.loop-part.invariant in
    let config = c.args.config.now in
    let part = c.loop-part.part in
    let chunks : c.class-chunks.result.chunks ≡ (class_of config part).chunks =
    ap (λ (k : ClassConfig). k.chunks) c.class-chunks.ensures in
    record {
      first = ap₂ (λ a b. a + b) so_far.first chunks ∙ before_next config part;
      indexes = indexes_next config part c.loop-part.indexes.items c.push.new.self.items c.in_ok-index.index
          so_far.indexes c.in_ok-push.ensures.items (record {
            first = c.in_ok-index.ensures.first ∙ so_far.first;
            table = c.in_ok-index.ensures.table
                ∙ ap₂ (λ a b. replicate (a + b) None) so_far.first chunks;
          });
    }

pub overflow_add-first : goal.overflow_add-first
overflow_add-first c =
    let room = room_behind c.args.config.now c.loop-part.part c.requires c.loop-part-test.true in
    let chunks : c.class-chunks.result.chunks ≡ (class_of c.args.config.now c.loop-part.part).chunks =
    ap (λ (k : ClassConfig). k.chunks) c.class-chunks.ensures in
    omega (arith, room, chunks, c.loop-part.invariant.first)
