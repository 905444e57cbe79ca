use Rattle.std.proofs.Common.{◌+◌, ◌≡◌, ◌<◌, length, refl, sym, ◌∙◌, subst, arith, is_some, true}
use Rattle.cache_lists.specs.Counts.{CountedView}
use Rattle.cache_index.specs.Views.{led_at, IndexView}
use Rattle.cache_part.proofs.ClearLemmas.{ClearedTo, cleared_more, cleared_still, empty_all}
use Rattle.cache_part.proofs.FindLemmas.{led_linked}
use Rattle.cache_part.proofs.PartLemmas.{linked_from, within_owned}
use Rattle.cache_part.proofs.clearing.clear.Goals as goal
use Rattle.cache_part.proofs.clearing.clear.Goals.{then-leads, else-leads}

pub leads-requires : goal.leads-requires
leads-requires g c =
    let so_far = c.loop-chunk.invariant in record {
      first = omega (arith, so_far.first, so_far.from);
      chunk = omega (
        arith,
        c.loop-chunk-test.true,
        c.range-chunks.ensures.end,
        so_far.part.count,
        so_far.class.first,
        so_far.class.count,
        c.requires.part.count,
      );
    }

pub end_led-requires : goal.end_led-requires
end_led-requires g c =
    let so_far = c.loop-chunk.invariant in let chunk = c.loop-chunk.chunk in let book = c.loop-chunk.lists.book in
    let table = c.loop-chunk.index.table in
    let within : chunk < length table = omega (
      arith,
      c.loop-chunk-test.true,
      c.range-chunks.ensures.end,
      so_far.part.count,
      so_far.class.first,
      so_far.class.count,
      c.requires.part.count,
    ) in
    let some : is_some (led_at table chunk) ≡ true =
    sym c.leads.ensures ∙ c.if-leads.true in
    record {
      within = within;
      own = within_owned book.sheet table so_far.part.count chunk so_far.from within;
      linked = led_linked c.args._settings.seed c.args._settings.key_words book.sheet table so_far.part chunk some;
      led = so_far.part.agrees.leads chunk;
    }

pub loop-chunk-init : goal.loop-chunk-init
loop-chunk-init g c = record {
  part = c.requires.part;
  first = c.requires.first;
  from = omega (arith, c.range-chunks.ensures.start, c.requires.first);
  empty = λ chunk low. linked_from c.args._settings.seed c.args._settings.key_words c.args.lists.now.book
      c.args.lists.now.book c.args.index.now.table c.requires.part chunk
      (omega (arith, low, c.range-chunks.ensures.start, c.requires.first));
  words = λ i c. refl;
  class = record { first = refl; count = refl };
  evictions = refl;
}

pub loop-chunk-preserved : goal.loop-chunk-preserved
loop-chunk-preserved g c =
    let so_far = c.loop-chunk.invariant in let chunk = c.loop-chunk.chunk in let now = c.loop-chunk.lists in
    let index = c.loop-chunk.index in let seed = c.args._settings.seed in let kw = c.args._settings.key_words in
    let P : CountedView → IndexView → Type 0 = ClearedTo seed kw (chunk + 1) c.args.lists.now in
    elim c.if-leads.branch [
      | then-leads w ↦ subst (λ v. P v c.if-leads.index) (sym w.lists-is)
          (subst (P w.end_led.new.lists) (sym w.index-is)
          (cleared_more seed kw chunk c.args.lists.now now index so_far w.end_led.new.lists w.end_led.new.index
          w.end_led.ensures.ends w.end_led.ensures.table w.end_led.ensures.first w.end_led.ensures.evictions))
      | else-leads w ↦ subst (λ v. P v c.if-leads.index) (sym w.lists-is)
          (subst (P now) (sym w.index-is) (cleared_still seed kw chunk c.args.lists.now now index so_far
          (sym c.leads.ensures ∙ w.if-leads.false)))
    ]

pub returns-clause-empty : goal.returns-clause-empty
returns-clause-empty g c =
    let loop = c.loop-chunk in
    empty_all c.args._settings.seed c.args._settings.key_words loop.lists.book loop.index.table loop.invariant.part
    (λ c' low. loop.invariant.empty c' (omega (
      arith,
      low,
      c.loop-chunk-test.false,
      c.range-chunks.ensures.end,
      loop.invariant.part.count,
      loop.invariant.class.first,
      loop.invariant.class.count,
      c.requires.part.count,
    )))

pub returns-clause-first : goal.returns-clause-first
returns-clause-first g c =
    let so_far = c.loop-chunk.invariant in so_far.first ∙ (so_far.class.first ∙ sym c.requires.first)
