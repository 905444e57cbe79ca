use Rattle.std.proofs.Common.{suc, All, List, ◌++◌, sym, ap, ◌∙◌, subst, arith, append_assoc}
use Rattle.std.specs.Vec.Iter.{into_iter_items}
use Rattle.bump_class.specs.Lanes.{LaneView}
use Rattle.bump_store.specs.Lanes.{LaneState, NothingAboard, lanes_of}
use Rattle.bump_store.proofs.opening.make_lanes.Goals as goal

-- one more lane is made, of the first of those that are still to come
pub loop-raw-preserved : goal.loop-raw-preserved
loop-raw-preserved g c = let raws = c.loop-raw.invariant in let room = c.args.capacity in record {
  made = ap (λ (ls : List LaneState). ls ++ lanes_of room (into_iter_items c.next.new.self)) c.in_ok-push.ensures.items
      ∙ append_assoc c.loop-raw.lanes.items _ _
      ∙ ap (λ (ls : List LaneView). c.loop-raw.lanes.items ++ lanes_of room ls) (sym c.in-Some.ensures.steps.0) ∙ raws.made;
  idle = λ k d low. subst (All NothingAboard) c.in-Some.ensures.steps.0 raws.idle (suc k) d (omega (arith, low));
}
