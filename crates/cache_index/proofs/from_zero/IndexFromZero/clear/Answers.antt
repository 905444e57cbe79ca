use Rattle.std.proofs.Common.{◌≡◌, ℕ, List, slice_set, sym, ap, ◌∙◌}
use Rattle.std.specs.Arc.{arc_value}
use Rattle.std.proofs.lemmas.List.{get_or_read}
use Rattle.cache_index.specs.declared.led.Way.{Way}
use Rattle.cache_index.specs.Leads.{no_way, way_to}
use Rattle.cache_index.proofs.LedLemmas.{chunk_of_way, lifted_is_led}
use Rattle.cache_index.proofs.WriterLemmas.{some_way, place_like, roomy_set, clear_passed}
use Rattle.cache_index.proofs.WriterLemmas.{clear_lifted, table_clear}
use Rattle.cache_index.proofs.HistoryLemmas.{clear_off, clear_unpass}
use Rattle.cache_index.proofs.KeepLemmas.{keep_led, keep_noted, keep_without}
use Rattle.cache_index.proofs.from_zero.IndexFromZero.clear.Goals as goal

pub set_tag-requires-clause-place : goal.set_tag-requires-clause-place
set_tag-requires-clause-place c =
    let nests = (arc_value c.self.inside.nests).nests in
    let ways = c.self.inside.ways.items in
    let some = some_way c.args.self.now nests c.self.inside.pen.words ways c.args.chunk (sym c.self.view_is) c.requires in
    let way_is = get_or_read ways c.args.chunk c.index-way.result.now (chunk_of_way ways c.args.chunk some)
    c.index-way.ensures no_way in
    let nests_is : c.deref.result.now.nests ≡ nests = cc in
    let place_is : c.index-way.result.now.place ≡ (way_to ways c.args.chunk).place = ap (λ (w : Way). w.place) way_is in
    place_like c.deref.result.now.nests nests c.index-way.result.now.place (way_to ways c.args.chunk).place nests_is
    place_is
    (c.self.invariant.1.leads c.args.chunk some).place

pub pass_no_more-requires-clause-place : goal.pass_no_more-requires-clause-place
pass_no_more-requires-clause-place c =
    let nests = (arc_value c.self.inside.nests).nests in
    let ways = c.self.inside.ways.items in
    let some = some_way c.args.self.now nests c.self.inside.pen.words ways c.args.chunk (sym c.self.view_is) c.requires in
    let way_is = get_or_read ways c.args.chunk c.index-way.result.now (chunk_of_way ways c.args.chunk some)
    c.index-way.ensures no_way in
    let nests_is : c.deref-2.result.now.nests ≡ nests = cc in
    let place_is : c.index-way.result.now.place ≡ (way_to ways c.args.chunk).place = ap (λ (w : Way). w.place) way_is in
    (place_like c.deref-2.result.now.nests nests c.index-way.result.now.place (way_to ways c.args.chunk).place
    nests_is place_is
    (c.self.invariant.1.leads c.args.chunk some).place).nest

pub pass_no_more-requires-clause-passed : goal.pass_no_more-requires-clause-passed
pass_no_more-requires-clause-passed c =
    let nests = (arc_value c.self.inside.nests).nests in
    let ways = c.self.inside.ways.items in
    let some = some_way c.args.self.now nests c.self.inside.pen.words ways c.args.chunk (sym c.self.view_is) c.requires in
    let way_is = get_or_read ways c.args.chunk c.index-way.result.now (chunk_of_way ways c.args.chunk some)
    c.index-way.ensures no_way in
    let nests_is : c.deref.result.now.nests ≡ nests = cc in
    let nests_is_2 : c.deref-2.result.now.nests ≡ nests = cc in
    clear_passed nests c.deref.result.now.nests c.deref-2.result.now.nests c.self.inside.pen.words
    c.set_tag.new.pen.words ways
    c.args.chunk c.index-way.result.now nests_is nests_is_2 c.self.invariant.1 some way_is c.set_tag.ensures.words

pub invariant_of-self : goal.invariant_of-self
invariant_of-self c =
    let nests = (arc_value c.self.inside.nests).nests in
    let words = c.self.inside.pen.words in
    let ways = c.self.inside.ways.items in
    let some = some_way c.args.self.now nests words ways c.args.chunk (sym c.self.view_is) c.requires in
    let way_is = get_or_read ways c.args.chunk c.index-way.result.now (chunk_of_way ways c.args.chunk some)
    c.index-way.ensures no_way in
    let nests_is : c.deref.result.now.nests ≡ nests = cc in
    let nests_is_2 : c.deref-2.result.now.nests ≡ nests = cc in
    let lifted = clear_lifted nests c.deref.result.now.nests c.deref-2.result.now.nests words c.set_tag.new.pen.words
    c.pass_no_more.new.pen.words ways c.args.chunk c.index-way.result.now nests_is nests_is_2 c.self.invariant.1
    some way_is c.set_tag.ensures.words c.pass_no_more.ensures.words in (
      c.pass_no_more.ensures.table ∙ (c.set_tag.ensures.table ∙ c.self.invariant.0),
      lifted_is_led nests words c.pass_no_more.new.pen.words ways c.args.chunk c.self.invariant.1 some lifted,
      roomy_set nests ways c.args.chunk no_way c.self.invariant.2,
      c.pass_no_more.ensures.noted,
    )

pub returns-clause-table : goal.returns-clause-table
returns-clause-table c =
    let nests = (arc_value c.self.inside.nests).nests in
    let words = c.self.inside.pen.words in
    let ways = c.self.inside.ways.items in
    let some = some_way c.args.self.now nests words ways c.args.chunk (sym c.self.view_is) c.requires in
    let way_is = get_or_read ways c.args.chunk c.index-way.result.now (chunk_of_way ways c.args.chunk some)
    c.index-way.ensures no_way in
    let nests_is : c.deref.result.now.nests ≡ nests = cc in
    let nests_is_2 : c.deref-2.result.now.nests ≡ nests = cc in
    let lifted = clear_lifted nests c.deref.result.now.nests c.deref-2.result.now.nests words c.set_tag.new.pen.words
    c.pass_no_more.new.pen.words ways c.args.chunk c.index-way.result.now nests_is nests_is_2 c.self.invariant.1
    some way_is c.set_tag.ensures.words c.pass_no_more.ensures.words in
    table_clear c.args.self.now nests words c.pass_no_more.new.pen.words ways c.args.chunk (sym c.self.view_is)
    c.self.invariant.1 lifted

pub set_tag-requires-clause-reached : goal.set_tag-requires-clause-reached
set_tag-requires-clause-reached c = λ (off : List ℕ) tag.
    let nests = (arc_value c.self.inside.nests).nests in
    let words = c.self.inside.pen.words in
    let ways = c.self.inside.ways.items in
    let some = some_way c.args.self.now nests words ways c.args.chunk (sym c.self.view_is) c.requires in
    let way_is = get_or_read ways c.args.chunk c.index-way.result.now (chunk_of_way ways c.args.chunk some)
    c.index-way.ensures no_way in
    let nests_is : c.deref.result.now.nests ≡ nests = cc in
    clear_off nests c.deref.result.now.nests words off ways c.args.chunk c.index-way.result.now nests_is
    c.self.invariant.1 some way_is tag

pub pass_no_more-requires-clause-reached : goal.pass_no_more-requires-clause-reached
pass_no_more-requires-clause-reached c = λ (steps : ℕ) (after : List ℕ) near passed.
    let nests = (arc_value c.self.inside.nests).nests in
    let words = c.self.inside.pen.words in
    let ways = c.self.inside.ways.items in
    let some = some_way c.args.self.now nests words ways c.args.chunk (sym c.self.view_is) c.requires in
    let way_is = get_or_read ways c.args.chunk c.index-way.result.now (chunk_of_way ways c.args.chunk some)
    c.index-way.ensures no_way in
    let nests_is : c.deref.result.now.nests ≡ nests = cc in
    let nests_is_2 : c.deref-2.result.now.nests ≡ nests = cc in
    clear_unpass nests c.deref.result.now.nests c.deref-2.result.now.nests steps words c.set_tag.new.pen.words after ways
    c.args.chunk c.index-way.result.now nests_is nests_is_2 c.self.invariant.1 some way_is c.set_tag.ensures.words near
    passed

pub set_tag-requires-clause-keeps : goal.set_tag-requires-clause-keeps
set_tag-requires-clause-keeps c =
    let nests = (arc_value c.self.inside.nests).nests in
    let words = c.self.inside.pen.words in
    let ways = c.self.inside.ways.items in
    let some = some_way c.args.self.now nests words ways c.args.chunk (sym c.self.view_is) c.requires in
    keep_noted _ ways (slice_set ways c.args.chunk no_way) c.self.invariant.3
    (keep_without ways c.args.chunk (chunk_of_way ways c.args.chunk some)
    (keep_led nests words ways c.self.invariant.1))
