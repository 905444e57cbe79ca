use Rattle.std.proofs.Common.{arith}
use Rattle.bump_store.proofs.classes.place_of.Goals as goal

pub returns-clause-some : goal.returns-clause-some
returns-clause-some c =
    let i = c.loop-place.invariant in record {
      in_range = omega (arith, i.0, i.1);
      behind = i.2;
      before = omega (arith, c.loop-place-test.false);
    }
