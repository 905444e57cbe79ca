use Rattle.std.proofs.Common.{◌≡◌, ◌+◌, ◌-◌, subst, ap, arith}
use Rattle.std.specs.Fn.{CalledAt}
use Rattle.bump_cache.specs.Retaining.{AsksFrom}
use Rattle.bump_cache.proofs.RetainLemmas.{asks_more, asks_none, ended_few}
use Rattle.bump_cache.proofs.pairs.Pairs.ask_between.Goals as goal

pub loop-place-init : goal.loop-place-init
loop-place-init g c = record {
  callable = c.requires.callable;
  from = omega arith;
  within = c.requires.order;
  few = omega arith;
  asks = asks_none g.K.Packed.fits g.K.Packed.as_words g.V.Packed.fits g.V.Packed.as_words (CalledAt g.F.FnMut) c.args.from
      c.args.now c.args.keep.now c.args.self.now;
}

pub ask_at-requires : goal.ask_at-requires
ask_at-requires g c = record { callable = c.loop-place.invariant.callable }

pub overflow_add-ended : goal.overflow_add-ended
overflow_add-ended g c =
    let few = ended_few c.ask_at.result in
    omega (arith, few, c.count_of-ended.ensures, c.loop-place.invariant.few, c.loop-place.invariant.from, c.loop-place-test.true, c.ranges.end.fits)

pub loop-place-preserved : goal.loop-place-preserved
loop-place-preserved g c =
    let so_far = c.loop-place.invariant in let few = ended_few c.ask_at.result in record {
      callable = c.ask_at.ensures.callable;
      from = omega (arith, so_far.from);
      within = omega (arith, c.loop-place-test.true);
      few = omega (arith, few, c.count_of-ended.ensures, so_far.few, so_far.from);
      asks = asks_more g.K.Packed.fits g.K.Packed.as_words g.V.Packed.fits g.V.Packed.as_words (CalledAt g.F.FnMut)
          c.args.from c.args.now c.loop-place.place c.loop-place.ended (c.loop-place.ended + c.count_of-ended.result)
          so_far.from c.ask_at.result c.args.keep.now c.loop-place.keep c.ask_at.new.keep c.args.self.now
          c.loop-place.self c.ask_at.new.self so_far.asks c.ask_at.ensures.asks
          (ap (λ n. c.loop-place.ended + n) c.count_of-ended.ensures);
    }

pub returns-clause-asks : goal.returns-clause-asks
returns-clause-asks g c =
    let so_far = c.loop-place.invariant in
    let all : c.loop-place.place - c.args.from ≡ c.args.end - c.args.from =
    omega (arith, so_far.from, so_far.within, c.loop-place-test.false) in
    subst (λ n. AsksFrom g.K.Packed.fits g.K.Packed.as_words g.V.Packed.fits g.V.Packed.as_words (CalledAt g.F.FnMut)
    c.args.from n c.args.now c.loop-place.ended c.args.keep.now c.loop-place.keep c.args.self.now c.loop-place.self) all
    so_far.asks

pub returns-clause-callable : goal.returns-clause-callable
returns-clause-callable g c = c.loop-place.invariant.callable
