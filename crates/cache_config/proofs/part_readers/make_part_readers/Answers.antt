use Rattle.std.proofs.Common.{◌≡◌, ℕ, ◌+◌, ◌*◌, ◌<◌, List, length, drop, get_or, set, refl, sym, ap, ◌∙◌, subst, arith}
use Rattle.std.specs.Arc.{arc_value}
use Rattle.std.specs.Vec.Iter.{into_iter_items}
use Rattle.bump_unlocked.specs.Workers.{WorkerState}
use Rattle.cache_readers.specs.Readers.{ReaderView}
use Rattle.std.proofs.lemmas.List.{with_items_is}
use Rattle.std.proofs.lemmas.Option.{get_or_from_slice_get}
use Rattle.cache_index.specs.Views.{IndexView}
use Rattle.cache_config.specs.Making.{AddsPart, AreRows, chunks_before}
use Rattle.cache_config.proofs.Places.{set_back}
use Rattle.cache_config.proofs.RowLemmas.{rows_next, rows_none}
use Rattle.cache_config.proofs.ShelfLemmas.{room_for, rest_next}
use Rattle.cache_config.proofs.part_readers.make_part_readers.Goals as goal

pub loop-part-init : goal.loop-part-init
loop-part-init g c =
    let zero : 0 ≡ 0 * c.args.config.now.readers = omega arith in record {
      rows = rows_none (arc_value c.args.heads.now) (chunks_before c.args.config.now) c.args.config.now.readers c.args.workers.items _
          c.in_ok-rows.ensures.count c.in_ok-rows.ensures.rows;
      rest = c.into_iter-workers.ensures.rest ∙ ap (λ n. drop n c.args.workers.items) zero;
      indexes = refl;
    }

pub add_part-requires : goal.add_part-requires
add_part-requires g c =
    let so_far = c.loop-part.invariant in
    let low : c.loop-part.part < c.args.config.now.parts =
    omega (arith, c.loop-part-test.true, c.requires.indexes.count_is) in
    let room = room_for c.args.config.now.parts c.args.config.now.readers c.loop-part.part
    c.args.workers.items _
    c.requires.workers low so_far.rest in
    omega (arith, room, so_far.rows.count)

pub loop-part-preserved : goal.loop-part-preserved
loop-part-preserved g c =
    let so_far = c.loop-part.invariant in
    let store = arc_value c.args.heads.now in
    let readers = c.args.config.now.readers in
    let chunks = chunks_before c.args.config.now in
    let did = c.in_ok-add_part.ensures in
    let before = c.deref_mut.ensures.value in
    let low : c.loop-part.part < c.args.config.now.parts =
    omega (arith, c.loop-part-test.true, c.requires.indexes.count_is) in
    let one = c.requires.indexes.each c.loop-part.part low in
    let item = get_or c.loop-part.indexes c.loop-part.part c.index-indexes-part.result in
    let same : item ≡ one.0 =
    ap (λ (xs : List IndexView). get_or xs c.loop-part.part c.index-indexes-part.result) so_far.indexes
    ∙ get_or_from_slice_get c.args.indexes.now c.loop-part.part one.0 c.index-indexes-part.result one.1 in
    let chunk : item.first ≡ chunks c.loop-part.part = ap (λ (index : IndexView). index.first) same ∙ one.2.first in
    let place = c.loop-part.part * readers in
    let adds = subst (λ (rows : List (List ReaderView)).
    AddsPart store (chunks c.loop-part.part) (drop place c.args.workers.items) rows c.add_part.new.rows) before
    (subst (λ (ws : List WorkerState). AddsPart store (chunks c.loop-part.part) ws c.deref_mut.result.now
    c.add_part.new.rows) so_far.rest (subst (λ (first : ℕ). AddsPart store first (into_iter_items
    c.loop-part.workers) c.deref_mut.result.now c.add_part.new.rows) chunk did.rows)) in
    let long : length c.add_part.new.rows ≡ c.loop-part.rows.len =
    omega (arith, c.add_part.auto.rows, c.deref_mut.ensures.len) in
    let after = sym (with_items_is c.loop-part.rows c.add_part.new.rows long) in
    record {
      rows = subst (λ (rows : List (List ReaderView)).
          AreRows store chunks readers (c.loop-part.part + 1) c.args.workers.items rows) after
          (rows_next store chunks readers c.loop-part.part c.args.workers.items c.loop-part.rows.items
          c.add_part.new.rows so_far.rows adds);
      rest = rest_next readers c.loop-part.part c.args.workers.items (into_iter_items c.loop-part.workers) _
          so_far.rest (did.rest ∙ ap (λ n. drop n (into_iter_items c.loop-part.workers))
          (ap length before ∙ so_far.rows.count));
      indexes = ap (λ (index : IndexView). set c.loop-part.indexes c.loop-part.part index) did.index
          ∙ (set_back c.loop-part.indexes c.loop-part.part c.index-indexes-part.result ∙ so_far.indexes);
    }

pub returns-clause-rows : goal.returns-clause-rows
returns-clause-rows g c =
    let so_far = c.loop-part.invariant in
    let all : c.loop-part.part ≡ c.args.config.now.parts =
    omega (arith, c.loop-part-test.false, c.loop-part.auto.part-end, c.requires.indexes.count_is) in
    subst (λ (parts : ℕ). AreRows (arc_value c.args.heads.now) (chunks_before c.args.config.now) c.args.config.now.readers
    parts c.args.workers.items c.loop-part.rows.items) all so_far.rows
