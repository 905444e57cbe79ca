use Rattle.std.proofs.Common.{◌≡◌}
use Rattle.store_trace.specs.OpenStores.{seen, IsShaped}
use Rattle.store_trace.specs.WholeLines.{IsLines}
use Rattle.store_trace.proofs.open_store.OpenStore.drain.Given as goal

-- it is the same store with the same names, and what was told is whole lines
abbrev pub invariant-loop-number : goal.invariant-loop-number
invariant-loop-number g l = record {
  shape : IsShaped l.self;
  store : l.self.store ≡ l.initial.self.store;
  same : seen l.self ≡ seen l.initial.self;
  lines : IsLines l.initial.out.items → IsLines l.out.items;
}
