use Rattle.std.proofs.Common.{◌≡◌, drop}
use Rattle.bump_rules.specs.History.{replay, AreListed}
use Rattle.model_state.proofs.classes.follow.Given as goal

-- what is left of the entries is still to be followed
abbrev pub invariant-loop-entry : goal.invariant-loop-entry
invariant-loop-entry l = (replay l.lists (drop l.entry-index l.entries) ≡ replay l.fn.lists l.entries)
    × AreListed l.lists (drop l.entry-index l.entries)
