use Rattle.std.proofs.Common.{◌≡◌, ◌≤◌, ◌++◌, length, map, drop, vec_len, vec_capacity}
use Rattle.bump_rules.specs.declared.configs.ClassConfig.{ClassConfig}
use Rattle.bump_store.specs.Finishing.{sum_of, AreOfClasses}
use Rattle.bump_store.proofs.stores.Store.finish.Given as goal

abbrev pub invariant-loop-class : goal.invariant-loop-class
invariant-loop-class g l = record {
  count : vec_len l.all ≡ l.class;
  end : l.class-end ≡ length l.fn.self.classes;
  room : length l.fn.self.classes ≤ vec_capacity l.all;
  books : AreOfClasses l.fn.self.classes l.all.items;
  sums : map sum_of l.all.items ++ map (λ (k : ClassConfig). k.chunks) (drop l.class l.fn.self.classes)
      ≡ map (λ (k : ClassConfig). k.chunks) l.fn.self.classes;
}
