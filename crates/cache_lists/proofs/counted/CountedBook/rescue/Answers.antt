use Rattle.std.proofs.Common.{◌≡◌, Some, refl, ap, ◌∙◌, subst, arith, inl, inr}
use Rattle.bump_rules.specs.declared.places.Place.TheVariants.{Cold, Warm}
use Rattle.cache_lists.specs.Rescues.{Rescues, noted_times}
use Rattle.cache_lists.proofs.RescueLemmas.{rescues_more, noted_more}
use Rattle.cache_lists.proofs.Standings.{keeps_still, keeps_then}
use Rattle.cache_lists.proofs.counted.CountedBook.rescue.Goals as goal

pub loop-rescued-init : goal.loop-rescued-init
loop-rescued-init g c = record { rescues = refl; kept = keeps_still c.args.self.now.book; flow = refl; evictions = refl }

pub loop-rescued-preserved : goal.loop-rescued-preserved
loop-rescued-preserved g c =
    let so_far = c.loop-rescued.invariant in let did = c.in-true.ensures in record {
      rescues = rescues_more _ _ _ _ _ so_far.rescues did.looked;
      kept = keeps_then _ _ _ so_far.kept did.kept;
      flow = noted_more c.loop-rescued.rescued (Some (Cold, Warm)) c.args.self.now.flow c.loop-rescued.self.flow
          c.rescue_last.new.self.flow so_far.flow did.flow;
      evictions = did.evictions ∙ so_far.evictions;
    }

pub returns-clause-rescued : goal.returns-clause-rescued
returns-clause-rescued g c =
    let did = c.loop-rescued.invariant in
    let all : c.loop-rescued.rescued ≡ 8 = omega (arith, c.loop-rescued-test.false, c.loop-rescued.auto.rescued-end) in
    record {
      few = omega arith;
      between = c.loop-rescued.self.book;
      rescues = subst (λ n. Rescues c.args.now n c.args.self.now.book c.loop-rescued.self.book) all did.rescues;
      ends = inl (refl, refl);
    }

pub returns-clause-flow : goal.returns-clause-flow
returns-clause-flow g c =
    let all : c.loop-rescued.rescued ≡ 8 = omega (arith, c.loop-rescued-test.false, c.loop-rescued.auto.rescued-end) in
    c.loop-rescued.invariant.flow ∙ ap (λ n. noted_times n (Some (Cold, Warm)) c.args.self.now.flow) all

pub returns-in-false-clause-rescued : goal.returns-in-false-clause-rescued
returns-in-false-clause-rescued g c = let did = c.loop-rescued.invariant in record {
  few = c.loop-rescued.auto.rescued-end;
  between = c.loop-rescued.self.book;
  rescues = did.rescues;
  ends = inr c.in-false.ensures.looked;
}

pub returns-in-false-clause-kept : goal.returns-in-false-clause-kept
returns-in-false-clause-kept g c = keeps_then _ _ _ c.loop-rescued.invariant.kept c.in-false.ensures.kept

pub returns-in-false-clause-flow : goal.returns-in-false-clause-flow
returns-in-false-clause-flow g c = c.in-false.ensures.flow ∙ c.loop-rescued.invariant.flow
