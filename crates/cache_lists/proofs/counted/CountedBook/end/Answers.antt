use Rattle.std.proofs.Common.{Some, None, sym, ap, ◌∙◌, subst}
use Rattle.bump_rules.specs.Places.{place_of}
use Rattle.bump_rules.specs.declared.places.Place.TheVariants.{Dying}
use Rattle.cache_lists.specs.Counts.{IsFlow, noted}
use Rattle.cache_lists.specs.Ends.{EndsLinked}
use Rattle.cache_lists.proofs.Counting.{flow_goes_on, end_is_ours}
use Rattle.cache_lists.proofs.counted.CountedBook.end.Goals as goal

pub invariant_of-self : goal.invariant_of-self
invariant_of-self g c = subst (λ f. IsFlow f c.end.new.book.sheet) (sym c.note_end.ensures)
    (flow_goes_on (Some (place_of c.in-Some.from, Dying)) c.self.inside.book c.end.new.book c.self.inside.flow
    (end_is_ours c.in-Some.from) c.in-Some.ensures.flows c.self.invariant)

pub returns-in-Some-clause-ends : goal.returns-in-Some-clause-ends
returns-in-Some-clause-ends g c =
    subst (λ v. EndsLinked c.args.chunk (Some c.in-Some.from) v.book c.end.new.book) c.self.view_is c.in-Some.ensures.ends

pub returns-in-None-clause-ends : goal.returns-in-None-clause-ends
returns-in-None-clause-ends g c =
    subst (λ v. EndsLinked c.args.chunk None v.book c.end.new.book) c.self.view_is c.in-None.ensures.ends

pub returns-in-Some-clause-flow : goal.returns-in-Some-clause-flow
returns-in-Some-clause-flow g c = c.note_end.ensures
    ∙ ap (λ v. noted (Some (place_of c.in-Some.from, Dying)) v.flow) c.self.view_is
