use Rattle.std.proofs.Common.{◌≡◌, [], length}
use Rattle.std.specs.Prelude.{replicate}
use Rattle.store_trace.specs.Tasks.{gets_of}
use Rattle.store_trace.proofs.tasks.Tasks.new.Given as goal

-- so many workers have no lines
abbrev pub invariant-loop : goal.invariant-loop
invariant-loop l = record {
  count : length l.gets.items ≡ l.counter;
  none : gets_of l.gets.items ≡ replicate l.counter [];
}
