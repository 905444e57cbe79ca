use Rattle.std.proofs.Common.{◌≡◌, sym, ap, ap₂, ◌∙◌, subst, IfNone, refl}
use Rattle.bump_rules.specs.Commands.{item_told}
use Rattle.bump_rules.specs.Tables.{segment_of, pulled_to}
use Rattle.cache_lists.specs.Counts.{IsFlow, noted}
use Rattle.cache_lists.specs.Flows.{Flows, way_to, way_of_pull}
use Rattle.cache_lists.proofs.Counting.{flow_goes_on, told_ours, nothing_told}
use Rattle.cache_lists.proofs.Ways.{told_way}
use Rattle.cache_lists.proofs.counted.CountedBook.look_at.Goals as goal

pub invariant_of-self : goal.invariant_of-self
invariant_of-self g c = subst (λ f. IsFlow f c.look_at-pulled.new.book.sheet)
    (sym (c.note_move.ensures ∙ ap₂ (λ f t. noted (way_to f t) c.self.inside.flow) c.segment.ensures c.to.ensures))
    (flow_goes_on (way_to (segment_of c.args.from) (pulled_to c.look_at-pulled.result)) c.self.inside.book c.look_at-pulled.new.book c.self.inside.flow
    (told_ours c.args.from c.look_at-pulled.result c.requires c.look_at-pulled.ensures.told)
    (subst (λ way. Flows way c.self.inside.book c.look_at-pulled.new.book)
    (told_way c.args.from c.look_at-pulled.result c.requires c.look_at-pulled.ensures.told) c.look_at-pulled.ensures.flows) c.self.invariant)

pub returns-clause-none : goal.returns-clause-none
returns-clause-none g c = subst
    (λ v. IfNone (item_told c.look_at-pulled.result)
    (record { book = c.look_at-pulled.new.book; flow = c.note_move.new.self; evictions = c.self.inside.evictions } ≡ v))
    c.self.view_is
    (nothing_told c.look_at-pulled.result c.segment.result c.self.inside.flow c.note_move.new.self c.self.inside.book
    c.look_at-pulled.new.book c.self.inside.evictions
    (c.note_move.ensures ∙ ap₂ (λ f t. noted (way_to f t) c.self.inside.flow) refl c.to.ensures) c.look_at-pulled.ensures.none)

pub returns-clause-flow : goal.returns-clause-flow
returns-clause-flow g c =
    let answer = c.look_at-pulled.result in
    c.note_move.ensures ∙ (ap₂ (λ f t. noted (way_to f t) c.self.inside.flow) c.segment.ensures c.to.ensures
    ∙ (ap (λ way. noted way c.self.inside.flow) (sym (told_way c.args.from answer c.requires c.look_at-pulled.ensures.told))
    ∙ ap (λ v. noted (way_of_pull c.args.from answer) v.flow) c.self.view_is))
