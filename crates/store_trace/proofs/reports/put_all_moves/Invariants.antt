use Rattle.std.proofs.Common.{◌≡◌, ℕ, ◌≤◌, ◌++◌, List, length}
use Rattle.std.specs.Prelude.{slice_get, Some}
use Rattle.store_trace.specs.Pairs.{lanes_of}
use Rattle.store_trace.specs.Reports.{numbered_text, moves_lines, AreMovesOf}
use Rattle.store_trace.proofs.reports.put_all_moves.Given as goal

-- the moves of the first classes, so many
abbrev pub invariant-loop-class : goal.invariant-loop-class
invariant-loop-class g l = record {
  lanes : lanes_of l.pairs.items ≡ lanes_of l.fn.pairs.items;
  told : (moves : List (List ℕ)) × (length moves ≡ l.class) × (l.class ≤ length l.store.classes)
      × ((class : ℕ) (counts : List ℕ) → slice_get moves class ≡ Some counts
      → AreMovesOf l.store (lanes_of l.fn.pairs.items) class counts)
      × (l.out.items ≡ l.fn.out.items ++ numbered_text moves_lines 0 moves);
}
