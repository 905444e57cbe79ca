use Rattle.std.proofs.Common.{rules, ◌≡◌, ℕ, ◌++◌, ◌<◌, ◌+◌, List, [], ◌∷◌, length, drop, get_or, refl, sym, ap, ◌∙◌, subst, arith}
use Rattle.std.specs.Arc.{arc_value}
use Rattle.std.specs.Prelude.{slice_set}
use Rattle.std.specs.Vec.Iter.{into_iter_items}
use Rattle.std.proofs.lemmas.Option.{slice_get-get_or}
use Rattle.bump_rules.specs.declared.configs.Config.{Config}
use Rattle.cache_index.specs.Views.{IndexView}
use Rattle.cache_readers.specs.Readers.{ReaderView, counts_of, no_counts}
use Rattle.cache_config.proofs.Places.{drop_first, drop_some}
use Rattle.cache_config.proofs.RowLemmas.{AddsFirst, adds_all, adds_next, adds_none}
use Rattle.cache_config.proofs.part_readers.add_part.Goals as goal

pub loop-number-init : goal.loop-number-init
loop-number-init g c = record { rows = adds_none _ _ _ _; rest = refl; index = refl }

pub unreachable-requires : goal.unreachable-requires
unreachable-requires g c =
    let next = drop_some (into_iter_items c.args.workers.now) c.loop-number.number
    (omega (arith, c.loop-number-test.true, c.loop-number.invariant.rows.count, c.requires)) in
    let some : into_iter_items c.loop-number.workers
    ≡ next.0 ∷ drop (c.loop-number.number + 1) (into_iter_items c.args.workers.now) =
    c.loop-number.invariant.rest ∙ next.2 in
    search (rules, some)

pub loop-number-preserved : goal.loop-number-preserved
loop-number-preserved g c =
    let so_far = c.loop-number.invariant in
    let number = c.loop-number.number in
    let store = arc_value c.args.heads.now in
    let chunk = c.args.index.now.first in
    let workers = into_iter_items c.args.workers.now in
    let row = get_or c.loop-number.rows number c.index-rows-number.result in
    let low : number < length c.args.rows.now = omega (arith, c.loop-number-test.true) in
    let room : number < length c.loop-number.rows = omega (arith, low, so_far.rows.count) in
    let next = drop_first workers number c.in-Some.worker _ (sym so_far.rest ∙ c.in-Some.ensures.items) in
    let at = slice_get-get_or c.loop-number.rows number c.index-rows-number.result room in
    let heads : arc_value c.in_ok-heads.heads ≡ store = search rules in
    let first : c.in_ok-nests.nests.first ≡ chunk =
    c.in_ok-nests.ensures.first ∙ ap (λ (index : IndexView). index.first) so_far.index in
    let made : counts_of c.new-reader.result ≡ no_counts store chunk c.in-Some.worker =
    ap counts_of c.new-reader.ensures
    ∙ (ap (λ (config : Config). no_counts config c.in_ok-nests.nests.first c.in-Some.worker) heads
    ∙ ap (λ (first : ℕ). no_counts store first c.in-Some.worker) first) in
    let grown : c.push.new.self ≡ row ++ c.new-reader.result ∷ [] = c.in_ok-push.ensures in
    record {
      rows = subst (λ (r : List ReaderView). AddsFirst store chunk workers (number + 1) c.args.rows.now
          (slice_set c.loop-number.rows number r)) (sym grown)
          (adds_next store chunk workers number c.args.rows.now c.loop-number.rows row c.in-Some.worker c.new-reader.result
          made so_far.rows low at next.0);
      rest = sym next.1;
      index = c.in_ok-nests.ensures.same ∙ so_far.index;
    }

pub returns-clause-rows : goal.returns-clause-rows
returns-clause-rows g c =
    adds_all _ _ _ c.loop-number.number _ _ (omega (arith, c.loop-number-test.false, c.loop-number.auto.number-end))
    c.loop-number.invariant.rows
