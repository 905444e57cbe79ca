use Rattle.std.proofs.Common.{◌-◌, ◌≤◌}
use Rattle.std.specs.Fn.{CalledAt}
use Rattle.bump_cache.specs.Retaining.{AsksFrom}
use Rattle.bump_cache.proofs.pairs.Pairs.ask_between.Given as goal

-- the places so far were asked of, and at most as many items ended
abbrev pub invariant-loop-place : goal.invariant-loop-place
invariant-loop-place g l = record {
  callable : goal.F-IsAlwaysCallable g l.keep;
  from : l.fn.from ≤ l.place;
  within : l.place ≤ l.fn.end;
  few : l.ended ≤ l.place - l.fn.from;
  asks : AsksFrom g.K.Packed.fits g.K.Packed.as_words g.V.Packed.fits g.V.Packed.as_words (CalledAt g.F.FnMut) l.fn.from
      (l.place - l.fn.from) l.now l.ended l.fn.keep l.keep l.fn.self l.self;
}
