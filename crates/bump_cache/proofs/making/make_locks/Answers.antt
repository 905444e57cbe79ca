use Rattle.std.proofs.Common.{rules, ◌≡◌, ◌+◌, ◌<◌, length, sym, ap, ◌∙◌, arith}
use Rattle.std.specs.Vec.Iter.{into_iter_items}
use Rattle.std.proofs.lemmas.Option.{slice_get_within}
use Rattle.call_log.specs.Blanks.{LogsView}
use Rattle.call_log.specs.Logs.{LogView}
use Rattle.bump_cache.specs.States.{PartState}
use Rattle.bump_cache.proofs.Beginning.{begins_more, begins_new}
use Rattle.cache_config.proofs.Places.{drop_first}
use Rattle.bump_cache.proofs.making.make_locks.Goals as goal

pub take-log-requires : goal.take-log-requires
take-log-requires g c =
    let so_far = c.loop-pairs.invariant in
    let long = ap length c.in-Some.ensures.steps.0 in
    omega (arith, so_far.left, so_far.within, long)

pub loop-pairs-preserved : goal.loop-pairs-preserved
loop-pairs-preserved g c =
    let so_far = c.loop-pairs.invariant in
    let long = ap length c.in-Some.ensures.steps.0 in
    let own = drop_first c.args.shelves.items c.loop-pairs.number c.in-Some.pairs _
    (sym so_far.rest ∙ c.in-Some.ensures.steps.0) in
    let log = c.take-log.ensures.log in
    let rest = c.take-log.ensures.rest in
    let did = c.new-logged.ensures in
    record {
      rest = sym own.1;
      within = omega (arith, so_far.within, long);
      next = ap (λ (ls : LogsView). ls.next) rest ∙ ap (λ n. n + 1) so_far.next;
      left = omega (arith, so_far.left, so_far.within, long, ap (λ (ls : LogsView). ls.left) rest);
      count = search rules;
      begins = begins_more c.args.shelves.items c.loop-pairs.number c.in-Some.pairs c.loop-pairs.me c.new-logged.new.me
          own.0 did.call (begins_new c.loop-pairs.number c.in-Some.pairs _ _ c.new-logged.new.me
          (ap (λ (l : LogView PartState). l.log) log)
          (ap (λ (l : LogView PartState). l.number) log ∙ so_far.next) did.log did.all.0 did.all.1) so_far.begins;
      calls = omega (arith, did.call.once, so_far.calls);
      parts = did.call.parts ∙ so_far.parts;
      whole = λ some one all.
          did.whole (ap (λ (l : LogView PartState). l.values) log
          ∙ (omega (arith, so_far.next, so_far.left, one))) (ap (λ n. n + 1) so_far.parts ∙ all);
    }

pub returns-clause-count : goal.returns-clause-count
returns-clause-count g c =
    let so_far = c.loop-pairs.invariant in
    let none : length (into_iter_items c.loop-pairs.pairs-iterator) ≡ 0 =
    sym c.loop-pairs.pairs-iterator.rest.ok.0 ∙ c.in-None.ensures.steps.0 in
    omega (arith, so_far.count, so_far.within, none)

pub returns-clause-begins : goal.returns-clause-begins
returns-clause-begins g c =
    let so_far = c.loop-pairs.invariant in
    let none : length (into_iter_items c.loop-pairs.pairs-iterator) ≡ 0 =
    sym c.loop-pairs.pairs-iterator.rest.ok.0 ∙ c.in-None.ensures.steps.0 in
    λ part shelf had.
    let low : part < length c.args.shelves.items = slice_get_within c.args.shelves.items part shelf had in
    so_far.begins part shelf (omega (arith, low, so_far.within, none)) had

pub returns-clause-calls : goal.returns-clause-calls
returns-clause-calls g c =
    let so_far = c.loop-pairs.invariant in
    let none : length (into_iter_items c.loop-pairs.pairs-iterator) ≡ 0 =
    sym c.loop-pairs.pairs-iterator.rest.ok.0 ∙ c.in-None.ensures.steps.0 in
    omega (arith, so_far.calls, so_far.within, none)

pub returns-clause-whole : goal.returns-clause-whole
returns-clause-whole g c =
    let so_far = c.loop-pairs.invariant in
    let none : length (into_iter_items c.loop-pairs.pairs-iterator) ≡ 0 =
    sym c.loop-pairs.pairs-iterator.rest.ok.0 ∙ c.in-None.ensures.steps.0 in
    λ one all. so_far.whole (omega (arith, so_far.within, none, one)) one all
