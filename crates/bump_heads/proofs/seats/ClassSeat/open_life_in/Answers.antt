use Rattle.std.proofs.Common.{◌≡◌, Some, ℕ, suc, ◌+◌, ◌/◌, ◌^◌, refl, ap, ◌∙◌, sym, subst, arith}
use Rattle.bump_steps.specs.Places.{rows}
use Rattle.bump_rules.specs.declared.places.Place.{Place}
use Rattle.bump_rules.specs.Heads.{linked_head}
use Rattle.bump_rules.specs.Labels.{label_of_life}
use Rattle.bump_rules.specs.Lawful.{Shows}
use Rattle.bump_rules.specs.Lives.{life}
use Rattle.bump_word.specs.Layout.{generation_first}
use Rattle.bump_word.specs.Words.{word_of}
use Rattle.bump_word.proofs.Words.{fields}
use Rattle.bump_steps.specs.declared.views.ClassSheet.{ClassSheet}
use Rattle.bump_steps.specs.Lives.{class_after_see_generation, class_after_link}
use Rattle.bump_steps.specs.Views.{last_label, last_word, of_word}
use Rattle.bump_heads.specs.declared.views.ClassView.{ClassView}
use Rattle.bump_heads.specs.Seats.{class_me, IsClassSheet}
use Rattle.bump_heads.proofs.ClassLives.{keeps_link, link_label, link_word}
use Rattle.bump_heads.proofs.ClassSheets.{noted_sheet}
use Rattle.bump_heads.proofs.Joining.{alone_joined}
use Rattle.bump_heads.proofs.ClassSeats.{seat_kept, finds, alone_is, me_after, after_two, view_after}
use Rattle.bump_heads.proofs.seats.ClassSeat.open_life_in.Goals as goal

pub overflow_add-generation : goal.overflow_add-generation
overflow_add-generation g c = let shows = subst (λ (p : Place). Shows c.head_of-found.result p) c.requires.unused
    (finds c.args.chunk c.see_generation.result c.self.inside.seat.me c.args.self.now c.head_of-found.result
    c.self.view_is c.self.invariant.0 c.requires.own c.head_of-found.ensures c.see_generation.ensures.told.1).0 in
    omega (arith, shows.1)

pub open_life-requires-clause-may : goal.open_life-requires-clause-may
open_life-requires-clause-may g c =
    let y : ℕ = c.see_generation.result / 2 ^ generation_first in
    let now = c.args.self.now in
    let gen = (finds c.args.chunk c.see_generation.result c.self.inside.seat.me now c.head_of-found.result
    c.self.view_is c.self.invariant.0 c.requires.own c.head_of-found.ensures c.see_generation.ensures.told.1).1 in (
      class_after_see_generation c.args.chunk y now.sheet,
      record {
        view = alone_is c.see_generation.new.seat.me
            (record now { sheet = class_after_see_generation c.args.chunk y now.sheet })
            (me_after c.self.inside.seat.me c.see_generation.new.seat.me now
            (class_after_see_generation c.args.chunk y)
            (c.self.invariant.0 ∙ ap class_me c.self.view_is) c.see_generation.ensures.told.0) c.requires.alone;
        own = c.requires.own;
        at = c.requires.unused;
      },
      omega (arith, gen),
      c.requires.law,
    )

pub invariant_of-self : goal.invariant_of-self
invariant_of-self g c =
    let y : ℕ = c.see_generation.result / 2 ^ generation_first in
    let n : ℕ = c.head_of-found.result.generation + 1 in
    let word : ℕ = word_of (linked_head c.args.start n) in
    let now = c.args.self.now in
    let words = (rows g.N.Name.table) in
    let gen = (finds c.args.chunk c.see_generation.result c.self.inside.seat.me now c.head_of-found.result
    c.self.view_is c.self.invariant.0 c.requires.own c.head_of-found.ensures c.see_generation.ensures.told.1).1 in
    let seen : ClassSheet = class_after_see_generation c.args.chunk y now.sheet in
    seat_kept c.self.inside.seat.me c.open_life.new.seat.me now
    (λ k. class_after_link c.args.start c.args.chunk n word (class_after_see_generation c.args.chunk y k))
    g.N.Name.table c.open_life.new.seat.table_id c.self.inside.class c.self.view_is
    c.self.invariant.0 (after_two c.self.inside.seat.me c.see_generation.new.seat.me c.open_life.new.seat.me
    (class_after_see_generation c.args.chunk y) (class_after_link c.args.start c.args.chunk n word)
    c.see_generation.ensures.told.0 c.open_life.ensures.told)
    (c.open_life.ensures.same.0 ∙ c.see_generation.ensures.same.0 ∙ c.self.invariant.1) c.self.invariant.2
    c.self.invariant.3 c.self.invariant.4 c.self.invariant.5 refl
    (λ o. subst (λ (j : ℕ). IsClassSheet words (class_after_link c.args.start c.args.chunk (j + 1) word seen)) (sym gen)
    (keeps_link words seen (noted_sheet words now.sheet seen.steps o) c.args.start c.args.chunk word c.requires.own))
    (λ j o. alone_joined now.sheet (class_after_link c.args.start c.args.chunk n word seen)
    now.lane j c.requires.alone refl o)

pub returns-clause-next : goal.returns-clause-next
returns-clause-next g c = ap (λ (j : ℕ). life c.args.chunk (j + 1))
    (finds c.args.chunk c.see_generation.result c.self.inside.seat.me c.args.self.now c.head_of-found.result
    c.self.view_is c.self.invariant.0 c.requires.own c.head_of-found.ensures c.see_generation.ensures.told.1).1

pub returns-clause-label : goal.returns-clause-label
returns-clause-label g c =
    let y : ℕ = c.see_generation.result / 2 ^ generation_first in
    let n : ℕ = c.head_of-found.result.generation + 1 in
    let word : ℕ = word_of (linked_head c.args.start n) in
    let now = c.args.self.now in
    let gen = (finds c.args.chunk c.see_generation.result c.self.inside.seat.me now c.head_of-found.result
    c.self.view_is c.self.invariant.0 c.requires.own c.head_of-found.ensures c.see_generation.ensures.told.1).1 in
    let sheet = subst (λ (v : ClassView). IsClassSheet (rows g.N.Name.table) v.sheet) c.self.view_is c.self.invariant.4 in
    let after = after_two c.self.inside.seat.me c.see_generation.new.seat.me c.open_life.new.seat.me
    (class_after_see_generation c.args.chunk y) (class_after_link c.args.start c.args.chunk n word)
    c.see_generation.ensures.told.0 c.open_life.ensures.told in
    let seen = view_after c.self.inside.seat.me c.open_life.new.seat.me now
    (λ k. class_after_link c.args.start c.args.chunk n word (class_after_see_generation c.args.chunk y k))
    (c.self.invariant.0 ∙ ap class_me c.self.view_is) after in
    ap (λ (v : ClassView). label_of_life (life c.args.chunk n) 0 v.sheet.labels) seen
    ∙ subst (λ (j : ℕ). label_of_life (life c.args.chunk (j + 1)) 0
    (class_after_link c.args.start c.args.chunk (j + 1) word now.sheet).labels ≡ Some
    (last_label now.sheet c.args.chunk)) (sym gen)
    (link_label (rows g.N.Name.table) now.sheet sheet c.args.chunk)

pub returns-clause-words : goal.returns-clause-words
returns-clause-words g c x =
    let y : ℕ = c.see_generation.result / 2 ^ generation_first in
    let n : ℕ = c.head_of-found.result.generation + 1 in
    let word : ℕ = word_of (linked_head c.args.start n) in
    let now = c.args.self.now in
    let gen = (finds c.args.chunk c.see_generation.result c.self.inside.seat.me now c.head_of-found.result
    c.self.view_is c.self.invariant.0 c.requires.own c.head_of-found.ensures c.see_generation.ensures.told.1).1 in
    let sheet = subst (λ (v : ClassView). IsClassSheet (rows g.N.Name.table) v.sheet) c.self.view_is c.self.invariant.4 in
    let after = after_two c.self.inside.seat.me c.see_generation.new.seat.me c.open_life.new.seat.me
    (class_after_see_generation c.args.chunk y) (class_after_link c.args.start c.args.chunk n word)
    c.see_generation.ensures.told.0 c.open_life.ensures.told in
    let seen = view_after c.self.inside.seat.me c.open_life.new.seat.me now
    (λ k. class_after_link c.args.start c.args.chunk n word (class_after_see_generation c.args.chunk y k))
    (c.self.invariant.0 ∙ ap class_me c.self.view_is) after in
    ap (λ (v : ClassView). label_of_life (life c.args.chunk n) 0 (of_word x v.sheet.words)) seen
    ∙ subst (λ (j : ℕ). label_of_life (life c.args.chunk (j + 1)) 0
    (of_word x (class_after_link c.args.start c.args.chunk (j + 1) word now.sheet).words) ≡ Some
    (last_word (suc x) now.sheet c.args.chunk)) (sym gen)
    (link_word (rows g.N.Name.table) now.sheet sheet (suc x) c.args.chunk)

pub returns-clause-opened : goal.returns-clause-opened
returns-clause-opened g c =
    let y : ℕ = c.see_generation.result / 2 ^ generation_first in
    let n : ℕ = c.head_of-found.result.generation + 1 in
    let word : ℕ = word_of (linked_head c.args.start n) in
    let now = c.args.self.now in
    let gen = (finds c.args.chunk c.see_generation.result c.self.inside.seat.me now c.head_of-found.result
    c.self.view_is c.self.invariant.0 c.requires.own c.head_of-found.ensures c.see_generation.ensures.told.1).1 in
    let after = after_two c.self.inside.seat.me c.see_generation.new.seat.me c.open_life.new.seat.me
    (class_after_see_generation c.args.chunk y) (class_after_link c.args.start c.args.chunk n word)
    c.see_generation.ensures.told.0 c.open_life.ensures.told in
    view_after c.self.inside.seat.me c.open_life.new.seat.me now
    (λ k. class_after_link c.args.start c.args.chunk n word (class_after_see_generation c.args.chunk y k))
    (c.self.invariant.0 ∙ ap class_me c.self.view_is) after
    ∙ ap (λ (j : ℕ). record now {
      sheet = class_after_link c.args.start c.args.chunk n word (class_after_see_generation c.args.chunk j now.sheet);
    }) ((fields c.see_generation.result c.head_of-found.result c.head_of-found.ensures).generation ∙ gen)
