use Rattle.std.proofs.Common.{arith}
use Rattle.bump_cache.proofs.caches.Cache.part_of.Goals as goal

pub part_of_key-requires : goal.part_of_key-requires
part_of_key-requires g c = record {
  parts = (
    omega (arith, c.self.invariant.0.0, c.len.ensures),
    omega (arith, c.self.invariant.0.1, c.len.ensures),
  );
  few = omega (arith, c.self.invariant.1);
}
