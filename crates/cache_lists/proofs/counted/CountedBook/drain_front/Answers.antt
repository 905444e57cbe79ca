use Rattle.std.proofs.Common.{length, refl, ap, ◌∙◌, arith, inl, inr}
use Rattle.cache_lists.proofs.DrainingLemmas.{applies_more, each_keeps}
use Rattle.cache_lists.proofs.Standings.{keeps_then}
use Rattle.cache_lists.proofs.counted.CountedBook.drain_front.Goals as goal

pub loop-applied-preserved : goal.loop-applied-preserved
loop-applied-preserved g c =
    let so_far = c.loop-applied.invariant in let did = c.apply_next.ensures in let once = c.in-Some.ensures.applies in record {
      applies = applies_more _ _ _ _ _ _ _ _ so_far.applies (record {
        answer = c.in-Some.field-0;
        applies = once.applies;
        grown = once.grown;
        items = once.items;
      });
      grown = omega (arith, so_far.grown, once.grown);
      ring = once.ring ∙ so_far.ring;
      evictions = did.evictions ∙ so_far.evictions;
    }

pub returns-clause-drains : goal.returns-clause-drains
returns-clause-drains g c = let did = c.loop-applied.invariant in record {
  count = c.loop-applied.applied;
  few = c.loop-applied.auto.applied-end;
  between = c.loop-applied.self.book;
  half = c.loop-applied.lane;
  applies = did.applies;
  ends = inl (omega (arith, c.loop-applied-test.false, c.loop-applied.auto.applied-end), refl, refl);
  grown = did.grown;
  ring = did.ring;
}

pub returns-clause-count : goal.returns-clause-count
returns-clause-count g c =
    omega (arith, c.loop-applied-test.false, c.loop-applied.auto.applied-end, c.loop-applied.invariant.grown)

pub returns-clause-kept : goal.returns-clause-kept
returns-clause-kept g c = each_keeps _ _ _ _ _ _ c.loop-applied.invariant.applies

pub returns-in_default-clause-drains : goal.returns-in_default-clause-drains
returns-in_default-clause-drains g c =
    let did = c.loop-applied.invariant in let none = c.in_default.ensures.applies in record {
      count = c.loop-applied.applied;
      few = c.loop-applied.auto.applied-end;
      between = c.loop-applied.self.book;
      half = c.loop-applied.lane;
      applies = did.applies;
      ends = inr (record { none = none.none; kept = none.kept; items = none.items; looks = none.looks });
      grown = ap length none.kept ∙ did.grown;
      ring = none.ring ∙ did.ring;
    }

pub returns-in_default-clause-count : goal.returns-in_default-clause-count
returns-in_default-clause-count g c = ap length c.in_default.ensures.applies.kept ∙ c.loop-applied.invariant.grown

pub returns-in_default-clause-kept : goal.returns-in_default-clause-kept
returns-in_default-clause-kept g c =
    keeps_then _ _ _ (each_keeps _ _ _ _ _ _ c.loop-applied.invariant.applies) c.in_default.ensures.applies.items
