use Rattle.std.proofs.Common.{◌≡◌, drop}
use Rattle.bump_handles.specs.Draining.{has_hold}
use Rattle.bump_handles.proofs.readers.Reader.holds_nothing.Given as goal

-- no hold came so far
abbrev pub invariant-loop-held : goal.invariant-loop-held
invariant-loop-held g l = has_hold l.self.holds ≡ has_hold (drop l.held-index l.self.holds)
