use Rattle.std.proofs.Common.{◌≡◌}
use Rattle.std.specs.Arc.{arc_value}
use Rattle.entry_cache.specs.Entries.{entry_view}
use Rattle.entry_cache.proofs.kept.Kept.take.Given as goal

-- it is shared still, and has what it had
abbrev pub invariant-loop : goal.invariant-loop
invariant-loop g l =
    entry_view (arc_value l.shared).key (arc_value l.shared).value (arc_value l.shared).expires ≡ l.fn.self
