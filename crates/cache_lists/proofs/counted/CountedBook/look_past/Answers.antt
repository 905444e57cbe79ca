use Rattle.std.proofs.Common.{sym, ap₂, ◌∙◌, subst}
use Rattle.bump_rules.specs.Tables.{segment_of, pulled_to}
use Rattle.cache_lists.specs.Counts.{IsFlow, noted}
use Rattle.cache_lists.specs.Flows.{Flows, way_to}
use Rattle.cache_lists.proofs.Counting.{flow_goes_on, told_ours}
use Rattle.cache_lists.proofs.Ways.{told_way}
use Rattle.cache_lists.proofs.counted.CountedBook.look_past.Goals as goal

pub invariant_of-self : goal.invariant_of-self
invariant_of-self g c =
    let looked = c.look_past-pulled in let before = c.self.inside in
    subst (λ f. IsFlow f looked.new.book.sheet)
    (sym (c.note_move.ensures ∙ ap₂ (λ f t. noted (way_to f t) before.flow) c.segment.ensures c.to.ensures))
    (flow_goes_on (way_to (segment_of c.args.from) (pulled_to looked.result)) before.book looked.new.book before.flow
    (told_ours c.args.from looked.result c.requires looked.ensures.told)
    (subst (λ way. Flows way before.book looked.new.book)
    (told_way c.args.from looked.result c.requires looked.ensures.told) looked.ensures.flows) c.self.invariant)
