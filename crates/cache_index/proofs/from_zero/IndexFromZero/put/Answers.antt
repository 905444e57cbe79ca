use Rattle.std.proofs.Common.{ℕ, List, slice_set, refl, sym, ap, ◌∙◌, subst}
use Rattle.std.specs.Arc.{arc_value}
use Rattle.cache_index.specs.declared.led.Way.{Way}
use Rattle.cache_index.specs.Places.{home_of, nest_of, steps_to}
use Rattle.cache_index.specs.Views.{NestsView}
use Rattle.cache_index.proofs.LedLemmas.{laid_is_led}
use Rattle.cache_index.proofs.WriterLemmas.{none_way, chunk_within, place_like, roomy_set, put_laid, table_put}
use Rattle.cache_index.specs.History.{IsReached}
use Rattle.cache_index.proofs.HistoryLemmas.{led_reached, put_life}
use Rattle.cache_index.proofs.KeepLemmas.{keep_laid, keep_led, keep_noted}
use Rattle.cache_index.proofs.AnswerLemmas.{is_off}
use Rattle.cache_index.proofs.from_zero.IndexFromZero.put.Goals as goal

pub take_place-requires-clause-reached : goal.take_place-requires-clause-reached
take_place-requires-clause-reached c =
    let nests_is = ap (λ (v : NestsView). v.nests) c.deref.ensures in
    subst (λ (n : ℕ). IsReached n c.self.inside.pen.words c.self.inside.ways.items) (sym nests_is)
    (led_reached (arc_value c.self.inside.nests).nests c.self.inside.pen.words c.self.inside.ways.items c.self.invariant.1)

pub unreachable-requires : goal.unreachable-requires
unreachable-requires c =
    let nests_is = ap (λ (v : NestsView). v.nests) c.deref.ensures in
    is_off (arc_value c.self.inside.nests).nests c.deref.result.now.nests c.self.inside.pen.words
    c.self.inside.ways.items nests_is
    c.self.invariant.1 c.self.invariant.2 c.in_default.ensures.full

pub invariant_of-self : goal.invariant_of-self
invariant_of-self c =
    let nests = (arc_value c.self.inside.nests).nests in
    let words = c.self.inside.pen.words in
    let ways = c.self.inside.ways.items in
    let chunk = c.args.life.chunk in
    let way : Way = record { hash = c.args.hash; place = c.in-Some.place } in
    let n0 = c.deref.result.now.nests in
    let n1 = c.deref-3.result.now.nests in
    let place = place_like nests n0 c.in-Some.place c.in-Some.place
    (sym (ap (λ (v : NestsView). v.nests) c.deref.ensures)) refl c.in-Some.ensures.place in
    let laid = put_laid nests n0 n1 c.tag_of.result c.number_of.result words c.take_place.new.pen.words
    c.set_life.new.pen.words c.set_tag.new.pen.words chunk c.args.life.generation way
    (ap (λ (v : NestsView). v.nests) c.deref.ensures) (ap (λ (v : NestsView). v.nests) c.deref-3.ensures)
    c.self.invariant.1.size place c.in-Some.ensures.words c.set_life.ensures.words c.number_of.ensures c.tag_of.ensures.tag c.set_tag.ensures.words in (
      c.set_tag.ensures.table ∙ (c.set_life.ensures.table ∙ (c.in-Some.ensures.table ∙ c.self.invariant.0)),
      laid_is_led nests words c.set_tag.new.pen.words ways chunk c.args.life.generation way c.self.invariant.1
          c.self.invariant.2
          (chunk_within c.args.self.now nests words ways chunk (sym c.self.view_is) c.requires.chunk)
          (none_way c.args.self.now nests words ways chunk (sym c.self.view_is) c.requires.anew)
          place c.in-Some.ensures.off laid,
      roomy_set nests ways chunk way c.self.invariant.2,
      c.set_tag.ensures.noted,
    )

pub returns-clause-table : goal.returns-clause-table
returns-clause-table c =
    let nests = (arc_value c.self.inside.nests).nests in
    let words = c.self.inside.pen.words in
    let ways = c.self.inside.ways.items in
    let chunk = c.args.life.chunk in
    let way : Way = record { hash = c.args.hash; place = c.in-Some.place } in
    let n0 = c.deref.result.now.nests in
    let n1 = c.deref-3.result.now.nests in
    let place = place_like nests n0 c.in-Some.place c.in-Some.place
    (sym (ap (λ (v : NestsView). v.nests) c.deref.ensures)) refl c.in-Some.ensures.place in
    let laid = put_laid nests n0 n1 c.tag_of.result c.number_of.result words c.take_place.new.pen.words
    c.set_life.new.pen.words c.set_tag.new.pen.words chunk c.args.life.generation way
    (ap (λ (v : NestsView). v.nests) c.deref.ensures) (ap (λ (v : NestsView). v.nests) c.deref-3.ensures)
    c.self.invariant.1.size place c.in-Some.ensures.words c.set_life.ensures.words c.number_of.ensures c.tag_of.ensures.tag c.set_tag.ensures.words in
    table_put c.args.self.now nests words c.set_tag.new.pen.words ways chunk c.args.life.generation way
    (sym c.self.view_is) c.self.invariant.1 c.self.invariant.2
    (chunk_within c.args.self.now nests words ways chunk (sym c.self.view_is) c.requires.chunk)
    place c.in-Some.ensures.off laid

pub set_life-requires-clause-reached : goal.set_life-requires-clause-reached
set_life-requires-clause-reached c =
    let nests = (arc_value c.self.inside.nests).nests in
    let n0 = c.deref.result.now.nests in
    let n0_is = ap (λ (v : NestsView). v.nests) c.deref.ensures in
    let home = home_of n0 c.args.hash in
    let place = place_like nests n0 c.in-Some.place c.in-Some.place (sym n0_is) refl c.in-Some.ensures.place in
    put_life nests n0 c.deref-2.result.now.nests home (steps_to n0 home (nest_of c.in-Some.place)) c.in-Some.place
    c.number_of.result c.self.inside.pen.words c.take_place.new.pen.words c.self.inside.ways.items n0_is
    (ap (λ (v : NestsView). v.nests) c.deref-2.ensures) c.self.invariant.1 place c.in-Some.ensures.off
    c.in-Some.ensures.words

pub set_tag-requires-clause-reached : goal.set_tag-requires-clause-reached
set_tag-requires-clause-reached c = λ (tagged : List ℕ) tag_is.
    let nests = (arc_value c.self.inside.nests).nests in
    let words = c.self.inside.pen.words in
    let ways = c.self.inside.ways.items in
    let chunk = c.args.life.chunk in
    let way : Way = record { hash = c.args.hash; place = c.in-Some.place } in
    let n0 = c.deref.result.now.nests in
    let n1 = c.deref-3.result.now.nests in
    let n1_is = ap (λ (v : NestsView). v.nests) c.deref-3.ensures in
    let place = place_like nests n0 c.in-Some.place c.in-Some.place
    (sym (ap (λ (v : NestsView). v.nests) c.deref.ensures)) refl c.in-Some.ensures.place in
    let laid = put_laid nests n0 n1 c.tag_of.result c.number_of.result words c.take_place.new.pen.words
    c.set_life.new.pen.words tagged chunk c.args.life.generation way
    (ap (λ (v : NestsView). v.nests) c.deref.ensures) n1_is
    c.self.invariant.1.size place c.in-Some.ensures.words c.set_life.ensures.words c.number_of.ensures
    c.tag_of.ensures.tag tag_is in
    subst (λ (n : ℕ). IsReached n tagged (slice_set ways chunk way)) (sym n1_is)
    (led_reached nests tagged (slice_set ways chunk way)
    (laid_is_led nests words tagged ways chunk c.args.life.generation way c.self.invariant.1 c.self.invariant.2
    (chunk_within c.args.self.now nests words ways chunk (sym c.self.view_is) c.requires.chunk)
    (none_way c.args.self.now nests words ways chunk (sym c.self.view_is) c.requires.anew)
    place c.in-Some.ensures.off laid))

pub set_life-requires-clause-keeps : goal.set_life-requires-clause-keeps
set_life-requires-clause-keeps c =
    let ways = c.self.inside.ways.items in
    keep_noted _ ways ways c.take_place.ensures.noted
    (keep_led (arc_value c.self.inside.nests).nests c.self.inside.pen.words ways c.self.invariant.1)

pub set_tag-requires-clause-keeps : goal.set_tag-requires-clause-keeps
set_tag-requires-clause-keeps c =
    let nests = (arc_value c.self.inside.nests).nests in
    let words = c.self.inside.pen.words in
    let ways = c.self.inside.ways.items in
    let chunk = c.args.life.chunk in
    let way : Way = record { hash = c.args.hash; place = c.in-Some.place } in
    keep_noted _ ways (slice_set ways chunk way) c.set_life.ensures.noted
    (keep_laid nests words ways chunk way c.self.invariant.1
    (chunk_within c.args.self.now nests words ways chunk (sym c.self.view_is) c.requires.chunk) c.in-Some.ensures.off)
