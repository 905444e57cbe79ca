use Rattle.std.proofs.Common.{◌≡◌, length}
use Rattle.bump_handles.proofs.opening.make_tokens.Given as goal

abbrev pub invariant-loop-number : goal.invariant-loop-number
invariant-loop-number l = length l.tokens.items ≡ l.number
