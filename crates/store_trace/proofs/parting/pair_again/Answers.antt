use Rattle.std.proofs.Common.{rules, List, ◌++◌, sym, ap, ◌∙◌}
use Rattle.std.specs.Vec.Iter.{into_iter_items}
use Rattle.bump_store.specs.Lanes.{lane_rings}
use Rattle.store_trace.specs.Pairs.{lanes_of}
use Rattle.store_trace.specs.Slots.{slot_rings}
use Rattle.store_trace.specs.declared.pairs.Pair.{Pair}
use Rattle.store_trace.proofs.parting.pair_again.Goals as goal

pub loop-slot-init : goal.loop-slot-init
loop-slot-init g c = record {
  count = search rules;
  rings = ap slot_rings c.into_iter-slot-iterator.ensures.into_iter_gives.0 ∙ c.requires.rings
      ∙ sym (ap lane_rings c.into_iter-left.ensures.rest);
  lanes = ap (λ (ps : List (Pair g.row.N.Denot)). lanes_of ps ++ into_iter_items c.into_iter-left.result) c.in_ok-pairs.ensures.items
      ∙ c.into_iter-left.ensures.rest;
}
