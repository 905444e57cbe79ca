use Rattle.std.proofs.Common.{◌≡◌, ◌+◌, ◌≤◌, drop}
use Rattle.bump_rules.specs.Entries.{moves_of}
use Rattle.bump_core.specs.Readers.{history_of}
use Rattle.bump_core.proofs.worlds.World.moves.Given as goal

-- the count so far, and what the other entries add
abbrev pub invariant-loop-entry : goal.invariant-loop-entry
invariant-loop-entry l = record {
  few : l.count ≤ l.entry-index;
  all : l.count + moves_of l.worker (drop l.entry-index (history_of l.self l.class)) ≡ moves_of l.worker
      (history_of l.self l.class);
}
