use Rattle.std.proofs.Common.{◌≡◌}
use Rattle.example_links.proofs.play.Given as goal

-- The count of slots stays, so a number that was a slot is one still.
abbrev pub invariant-loop : goal.invariant-loop
invariant-loop g l = l.lru.count ≡ 3
