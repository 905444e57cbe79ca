use Rattle.std.proofs.Common.{◌≡◌, ◌≤◌, ◌++◌, ◌+◌, ◌-◌, map, drop, vec_len}
use Rattle.std.specs.Vec.Iter.{into_iter_items}
use Rattle.bump_heads.specs.Making.{class_seen}
use Rattle.bump_rules.specs.Configs.{chunks_of, HaveChunks, most_chunks}
use Rattle.bump_steps.specs.Rule.{class_sheets}
use Rattle.bump_unlocked.specs.UnlockedStore.{starts_from, new_books}
use Rattle.bump_unlocked.proofs.making.make_books.Given as goal

abbrev pub invariant-loop-class : goal.invariant-loop-class
invariant-loop-class g l = record {
  seats : into_iter_items l.left ≡ map class_seen (class_sheets (l.fn.first_generation - 1) l.class-index l.first (drop l.class-index l.classes));
  starts : l.starts.items ++ starts_from l.first (drop l.class-index l.classes) ≡ starts_from 0 l.classes;
  opened : l.books.items ++ new_books (class_sheets (l.fn.first_generation - 1) l.class-index l.first (drop l.class-index l.classes)) (drop l.class-index l.classes) l.fn.workers
      ≡ new_books (class_sheets (l.fn.first_generation - 1) 0 0 l.classes) l.classes l.fn.workers;
  books : vec_len l.books ≡ l.class-index;
  chunks : HaveChunks (drop l.class-index l.classes);
  few : l.first + chunks_of (drop l.class-index l.classes) ≤ most_chunks;
}
