use Rattle.std.specs.Prelude.{◌≡◌}
use Rattle.call_log.proofs.logs.Log.note.Given as goal

-- nothing has changed yet
abbrev pub invariant-loop : goal.invariant-loop
invariant-loop g l = (l.self ≡ l.initial.self) × (l.me ≡ l.initial.me)
