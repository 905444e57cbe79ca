use Rattle.std.proofs.Common.{◌≡◌, ◌+◌, ◌≤◌, true, [], ◌∷◌, length}
use Rattle.std.specs.Prelude.{◌⊎◌}
use Rattle.bump_trace.specs.Meaning.{parts_of}
use Rattle.bump_trace.specs.Stages.{Open}
use Rattle.store_trace.specs.Endings.{Goes}
use Rattle.store_trace.specs.OpenStores.{seen}
use Rattle.store_trace.proofs.open_store.OpenStore.read_tasks.Given as goal

-- each line that was read took a byte, and whatever ends from here on ends so from the first of them on
abbrev pub invariant-loop-line : goal.invariant-loop-line
invariant-loop-line g l = record {
  room : l.number + length l.rest ≤ 16777217;
  so_far : Goes l.place.number (parts_of l.place.rest.now) (Open (seen l.self)) l.number (parts_of l.rest) (Open (seen l.self));
  count : length l.tasks.gets.items ≡ length l.self.pairs.items;
  past : (parts_of l.rest ≡ l.rest ∷ []) ⊎ (l.self.is_past_par ≡ true);
}

abbrev pub decreases-loop-line : goal.decreases-loop-line
decreases-loop-line g l = length l.rest
