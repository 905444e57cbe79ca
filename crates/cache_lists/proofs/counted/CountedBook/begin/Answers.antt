use Rattle.std.proofs.Common.{Some, sym, ap, ◌∙◌, subst}
use Rattle.bump_rules.specs.declared.places.Place.TheVariants.{Unused}
use Rattle.bump_rules.specs.Places.{first_segment, place_of}
use Rattle.cache_lists.specs.Counts.{IsFlow, noted}
use Rattle.cache_lists.proofs.Counting.{flow_goes_on, link_is_ours}
use Rattle.cache_lists.proofs.counted.CountedBook.begin.Goals as goal

pub invariant_of-self : goal.invariant_of-self
invariant_of-self g c = subst (λ f. IsFlow f c.begin.new.book.sheet) (sym c.note_link.ensures)
    (flow_goes_on (Some (Unused, place_of (first_segment c.args.start))) c.self.inside.book c.begin.new.book
    c.self.inside.flow (link_is_ours c.args.start) c.in-Some.ensures.flows c.self.invariant)

pub returns-in-Some-clause-flow : goal.returns-in-Some-clause-flow
returns-in-Some-clause-flow g c = c.note_link.ensures
    ∙ ap (λ v. noted (Some (Unused, place_of (first_segment c.args.start))) v.flow) c.self.view_is
