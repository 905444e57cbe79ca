use Rattle.std.proofs.Common.{◌≡◌, ℕ, ◌⊎◌, inl, inr, List, sym, ap, ◌∙◌}
use Rattle.std.proofs.Common.{subst, map, ⊎_elim, slice_set}
use Rattle.std.specs.Arc.{arc_value}
use Rattle.std.proofs.lemmas.List.{get_or_read}
use Rattle.cache_index.specs.declared.led.Way.{Way}
use Rattle.cache_index.specs.Leads.{no_way, way_to, life_number, AreLed}
use Rattle.cache_index.specs.Views.{led_by}
use Rattle.cache_index.proofs.LedLemmas.{chunk_of_way, led_anew}
use Rattle.cache_index.proofs.WriterLemmas.{some_way, none_way, chunk_within, place_like, roomy_set}
use Rattle.cache_index.proofs.WriterLemmas.{table_lead}
use Rattle.cache_index.specs.History.{IsReached}
use Rattle.cache_index.proofs.HistoryLemmas.{led_reached}
use Rattle.cache_index.proofs.KeepLemmas.{keep_noted, keep_relaid}
use Rattle.cache_index.proofs.from_zero.IndexFromZero.lead.Goals as goal

pub set_life-requires-clause-place : goal.set_life-requires-clause-place
set_life-requires-clause-place c =
    let nests = (arc_value c.self.inside.nests).nests in
    let ways = c.self.inside.ways.items in
    let some = some_way c.args.self.now nests c.self.inside.pen.words ways c.args.old (sym c.self.view_is) c.requires.old in
    let way_is = get_or_read ways c.args.old c.index-way.result.now (chunk_of_way ways c.args.old some)
    c.index-way.ensures no_way in
    let nests_is : c.deref.result.now.nests ≡ nests = cc in
    let place_is : c.index-way.result.now.place ≡ (way_to ways c.args.old).place = ap (λ (w : Way). w.place) way_is in
    (place_like c.deref.result.now.nests nests c.index-way.result.now.place (way_to ways c.args.old).place nests_is
    place_is
    (c.self.invariant.1.leads c.args.old some).place).nest

pub invariant_of-self : goal.invariant_of-self
invariant_of-self c =
    let nests = (arc_value c.self.inside.nests).nests in
    let words = c.self.inside.pen.words in
    let ways = c.self.inside.ways.items in
    let some = some_way c.args.self.now nests words ways c.args.old (sym c.self.view_is) c.requires.old in
    let way = c.index-way.result.now in
    let way_is = get_or_read ways c.args.old way (chunk_of_way ways c.args.old some) c.index-way.ensures no_way in
    let chunk = c.args.life.chunk in
    let within = chunk_within c.args.self.now nests words ways chunk (sym c.self.view_is) c.requires.chunk in
    let anew : ((way_to ways chunk).place ≡ 0) ⊎ (chunk ≡ c.args.old) =
    ⊎_elim (λ none. inl (none_way c.args.self.now nests words ways chunk (sym c.self.view_is) none)) (λ same. inr same)
    c.requires.anew in
    let number : c.set_life.new.pen.words ≡ slice_set words way.place (life_number chunk c.args.life.generation) =
    c.set_life.ensures.words ∙ ap (λ (n : ℕ). slice_set words way.place n) c.number_of.ensures in
    let P : List ℕ → Type 0 = λ ws. AreLed nests ws (slice_set (slice_set ways c.args.old no_way) chunk way) in (
      c.set_life.ensures.table ∙ c.self.invariant.0,
      subst P (sym number)
          (led_anew nests words ways c.args.old chunk c.args.life.generation way c.self.invariant.1 c.self.invariant.2
          some within anew way_is),
      roomy_set nests (slice_set ways c.args.old no_way) chunk way (roomy_set nests ways c.args.old no_way
          c.self.invariant.2),
      c.set_life.ensures.noted,
    )

pub returns-clause-table : goal.returns-clause-table
returns-clause-table c =
    let nests = (arc_value c.self.inside.nests).nests in
    let words = c.self.inside.pen.words in
    let ways = c.self.inside.ways.items in
    let chunk = c.args.life.chunk in
    let some = some_way c.args.self.now nests words ways c.args.old (sym c.self.view_is) c.requires.old in
    let way = c.index-way.result.now in
    let way_is = get_or_read ways c.args.old way (chunk_of_way ways c.args.old some) c.index-way.ensures no_way in
    let number : c.set_life.new.pen.words ≡ slice_set words way.place (life_number chunk c.args.life.generation) =
    c.set_life.ensures.words ∙ ap (λ (n : ℕ). slice_set words way.place n) c.number_of.ensures in
    ap (λ (ws : List ℕ). map (led_by ws) (slice_set (slice_set ways c.args.old no_way) chunk way)) number
    ∙ (ap (λ (w : Way). map (led_by (slice_set words w.place (life_number chunk c.args.life.generation)))
    (slice_set (slice_set ways c.args.old no_way) chunk w)) way_is
    ∙ table_lead c.args.self.now nests words ways c.args.old chunk c.args.life.generation (sym c.self.view_is)
    c.self.invariant.1 c.self.invariant.2 some
    (chunk_within c.args.self.now nests words ways chunk (sym c.self.view_is) c.requires.chunk))

pub set_life-requires-clause-reached : goal.set_life-requires-clause-reached
set_life-requires-clause-reached c =
    let nests = (arc_value c.self.inside.nests).nests in
    let words = c.self.inside.pen.words in
    let ways = c.self.inside.ways.items in
    let some = some_way c.args.self.now nests words ways c.args.old (sym c.self.view_is) c.requires.old in
    let way = c.index-way.result.now in
    let way_is = get_or_read ways c.args.old way (chunk_of_way ways c.args.old some) c.index-way.ensures no_way in
    let chunk = c.args.life.chunk in
    let within = chunk_within c.args.self.now nests words ways chunk (sym c.self.view_is) c.requires.chunk in
    let anew : ((way_to ways chunk).place ≡ 0) ⊎ (chunk ≡ c.args.old) =
    ⊎_elim (λ none. inl (none_way c.args.self.now nests words ways chunk (sym c.self.view_is) none)) (λ same. inr same)
    c.requires.anew in
    let next : List Way = slice_set (slice_set ways c.args.old no_way) chunk way in
    let nests_is : c.deref.result.now.nests ≡ nests = cc in
    subst (λ (n : ℕ). IsReached n (slice_set words way.place c.number_of.result) next) (sym nests_is)
    (subst (λ (k : ℕ). IsReached nests (slice_set words way.place k) next) (sym c.number_of.ensures)
    (led_reached nests (slice_set words way.place (life_number chunk c.args.life.generation)) next
    (led_anew nests words ways c.args.old chunk c.args.life.generation way c.self.invariant.1 c.self.invariant.2
    some within anew way_is)))

pub set_life-requires-clause-keeps : goal.set_life-requires-clause-keeps
set_life-requires-clause-keeps c =
    let nests = (arc_value c.self.inside.nests).nests in
    let words = c.self.inside.pen.words in
    let ways = c.self.inside.ways.items in
    let some = some_way c.args.self.now nests words ways c.args.old (sym c.self.view_is) c.requires.old in
    let way = c.index-way.result.now in
    let way_is = get_or_read ways c.args.old way (chunk_of_way ways c.args.old some) c.index-way.ensures no_way in
    let chunk = c.args.life.chunk in
    keep_noted _ ways (slice_set (slice_set ways c.args.old no_way) chunk way) c.self.invariant.3
    (keep_relaid nests words ways c.args.old chunk way c.self.invariant.1 some
    (chunk_within c.args.self.now nests words ways chunk (sym c.self.view_is) c.requires.chunk) way_is)
