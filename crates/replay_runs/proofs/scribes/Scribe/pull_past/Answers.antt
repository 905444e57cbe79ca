use Rattle.std.proofs.Common.{refl}
use Rattle.replay_runs.specs.Writing.{IsPull}
use Rattle.replay_runs.proofs.WritingLemmas.{adds_none, adds_one}
use Rattle.replay_runs.proofs.scribes.Scribe.pull_past.Goals as goal

pub returns-then-not-goes_on-clause-text : goal.returns-then-not-goes_on-clause-text
returns-then-not-goes_on-clause-text c = adds_none (IsPull c.args.tail) 1 _ _ refl

pub returns-clause-text : goal.returns-clause-text
returns-clause-text c = adds_one (IsPull c.args.tail) _ _ _ refl c.in_ok-pull.ensures.text
