use Rattle.std.proofs.Common.{rules, ◌≡◌, ◌++◌, ◌<◌, List, [], ◌∷◌, sym, ap, ◌∙◌, arith}
use Rattle.std.proofs.lemmas.List.{append_assoc}
use Rattle.std.specs.Vec.Iter.{into_iter_items}
use Rattle.bump_class.specs.Lanes.{LaneView}
use Rattle.cache_config.proofs.Places.{behind_some, length_pushed}
use Rattle.cache_config.proofs.making.take_lanes.Goals as goal

pub unreachable-requires : goal.unreachable-requires
unreachable-requires g c =
    let low : c.loop.counter < c.args.count = c.loop-test.true in
    let next = behind_some (into_iter_items c.args.left.now) c.loop.lanes.items (into_iter_items c.loop.left)
    c.loop.invariant.taken (omega (arith, low, c.loop.invariant.count, c.requires)) in
    let some : into_iter_items c.loop.left ≡ next.0 ∷ next.1 = next.2 in
    search (rules, some)

pub loop-preserved : goal.loop-preserved
loop-preserved g c =
    let so_far = c.loop.invariant in
    let items : c.push.new.self.items ≡ c.loop.lanes.items ++ c.in-Some.lane ∷ [] = search rules in
    let next : into_iter_items c.loop.left ≡ c.in-Some.lane ∷ into_iter_items c.next.new.self =
    c.in-Some.ensures.items in record {
      count = length_pushed c.loop.lanes.items c.push.new.self.items c.loop.counter c.in-Some.lane so_far.count items;
      taken = so_far.taken ∙ (ap (λ (ls : List LaneView). c.loop.lanes.items ++ ls) next
          ∙ (sym (append_assoc c.loop.lanes.items (c.in-Some.lane ∷ []) (into_iter_items c.next.new.self)) ∙ ap (λ (ls
          : List LaneView). ls ++ into_iter_items c.next.new.self) (sym items)));
    }
