use Rattle.std.proofs.Common.{sym, subst}
use Rattle.cache_lists.specs.Counts.{IsFlow}
use Rattle.cache_lists.specs.Draining.{AppliesNext}
use Rattle.cache_lists.specs.Flows.{way_of_applied}
use Rattle.cache_lists.proofs.Counting.{flow_goes_on, bump_is_ours}
use Rattle.cache_lists.proofs.counted.CountedBook.apply_next.Goals as goal

pub invariant_of-self : goal.invariant_of-self
invariant_of-self g c = subst (λ f. IsFlow f c.apply_next-applied.new.book.sheet) (sym c.note_bump.ensures)
    (flow_goes_on (way_of_applied c.apply_next-applied.result) c.self.inside.book c.apply_next-applied.new.book c.self.inside.flow
    (bump_is_ours c.apply_next-applied.result) c.apply_next-applied.ensures.flows c.self.invariant)

pub returns-clause-applies : goal.returns-clause-applies
returns-clause-applies g c =
    let did = c.apply_next-applied.ensures in
    subst (λ v. AppliesNext c.args.now v.book c.args.lane.now c.apply_next-applied.result c.apply_next-applied.new.book
    c.apply_next-applied.new.lane) c.self.view_is (record {
      items = did.items;
      ring = did.ring;
      applies = did.applies;
      grown = did.applied;
      none = did.none;
      kept = did.kept;
      looks = did.looks;
    })
