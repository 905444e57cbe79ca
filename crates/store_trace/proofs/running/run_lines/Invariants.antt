use Rattle.std.proofs.Common.{◌≡◌, ◌+◌, ◌≤◌, [], length}
use Rattle.bump_trace.specs.Meaning.{parts_of}
use Rattle.bump_trace.specs.Stages.{Open}
use Rattle.store_trace.specs.Endings.{Goes}
use Rattle.store_trace.specs.OpenStores.{seen, IsShaped}
use Rattle.store_trace.specs.Runs.{GathersLines}
use Rattle.store_trace.proofs.running.run_lines.Given as goal

-- each line took a byte, what was gathered is whole lines, and whatever ends from here on ends so from the first of them on
abbrev pub invariant-loop-line : goal.invariant-loop-line
invariant-loop-line g l = record {
  room : l.number + length l.rest ≤ 16777217;
  told : GathersLines (g.W.Sink.contents l.initial.writer.inner) (g.W.Sink.contents l.writer.inner) l.initial.gathered.items l.gathered.items;
  so_far : Goes l.first.number (parts_of l.first.rest.now) (Open (seen l.initial.open_store)) l.number (parts_of l.rest) (Open (seen l.open_store));
  shape : IsShaped l.open_store;
  store : l.open_store.store ≡ l.initial.open_store.store;
  empty : l.text.items ≡ [];
}

abbrev pub decreases-loop-line : goal.decreases-loop-line
decreases-loop-line g l = length l.rest
