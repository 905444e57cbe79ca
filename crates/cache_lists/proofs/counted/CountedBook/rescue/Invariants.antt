use Rattle.std.proofs.Common.{◌≡◌, Some}
use Rattle.bump_rules.specs.declared.places.Place.TheVariants.{Cold, Warm}
use Rattle.cache_lists.specs.Items.{KeepsItems}
use Rattle.cache_lists.specs.Rescues.{Rescues, noted_times}
use Rattle.cache_lists.proofs.counted.CountedBook.rescue.Given as goal

-- so many were rescued and counted
abbrev pub invariant-loop-rescued : goal.invariant-loop-rescued
invariant-loop-rescued g l = record {
  rescues : Rescues l.now l.rescued l.fn.self.book l.self.book;
  kept : KeepsItems l.fn.self.book l.self.book;
  flow : l.self.flow ≡ noted_times l.rescued (Some (Cold, Warm)) l.fn.self.flow;
  evictions : l.self.evictions ≡ l.fn.self.evictions;
}
