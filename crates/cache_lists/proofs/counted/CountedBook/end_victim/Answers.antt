use Rattle.std.proofs.Common.{None, Some, sym, ap, ◌∙◌, subst}
use Rattle.bump_rules.specs.Places.{place_of}
use Rattle.bump_rules.specs.declared.places.Place.TheVariants.{Dying}
use Rattle.cache_lists.specs.Counts.{IsFlow, noted, with_eviction}
use Rattle.cache_lists.specs.Ends.{EndsInTurn, EndsNext}
use Rattle.cache_lists.specs.Flows.{way_to}
use Rattle.cache_lists.proofs.Counting.{counts, flow_goes_twice, end_is_ours}
use Rattle.cache_lists.proofs.counted.CountedBook.end_victim.Goals as goal

pub invariant_of-self : goal.invariant_of-self
invariant_of-self g c = subst (λ f. IsFlow f c.end_next.new.book.sheet)
    (sym (c.note_end.ensures ∙ ap (noted (Some (place_of c.in-Some.ended.from, Dying))) c.note_move.ensures))
    (flow_goes_twice (way_to c.in-Some.ended.last_of c.in-Some.ended.moved) (Some (place_of c.in-Some.ended.from, Dying))
    c.self.inside.book c.end_next.new.book c.self.inside.flow c.in-Some.ensures.ends.ways (end_is_ours c.in-Some.ended.from)
    c.in-Some.ensures.ends.flows c.self.invariant)

pub returns-in-Some : goal.returns-in-Some
returns-in-Some g c =
    let it = c.in-Some.ended in record {
      ends = subst (λ v. EndsInTurn c.args.now it v (counts c.end_next.new.book c.note_end.new.self c.note.new.self))
          c.self.view_is (record {
            next = c.in-Some.ensures.next;
            told = c.in-Some.ensures.ends;
            flow = c.note_end.ensures ∙ ap (noted (Some (place_of it.from, Dying))) c.note_move.ensures;
            evictions = c.note.ensures
                ∙ ap (λ b. with_eviction b it.fetched it.active c.self.inside.evictions) c.has_expired-expired.ensures;
          });
    }

pub returns-in-None : goal.returns-in-None
returns-in-None g c =
    let flow = c.self.inside.flow in let evictions = c.self.inside.evictions in record {
      ends = subst (λ v. EndsNext c.args.now None v (counts c.end_next.new.book flow evictions)) c.self.view_is
          (c.in-None.ensures.next, ap (λ b. counts b flow evictions) c.in-None.ensures.ends);
    }
