use Rattle.std.proofs.Common.{subst}
use Rattle.model_state.specs.Worlds.{IsLawful}
use Rattle.bump_core.proofs.worlds.Headline.{headline}
use Rattle.bump_core.proofs.worlds.World.promise.Goals as goal

pub returns-clause-lawful : goal.returns-clause-lawful
returns-clause-lawful c = subst IsLawful c.self.view_is c.self.invariant.0

pub returns-clause-headline : goal.returns-clause-headline
returns-clause-headline c = headline c.args.self.now (subst IsLawful c.self.view_is c.self.invariant.0)
