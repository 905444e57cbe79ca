use Rattle.std.proofs.Common.{subst, sym}
use Rattle.bump_core.proofs.worlds.StaysLawful.{WorldKeeps}
use Rattle.bump_core.proofs.worlds.Opening.{keeps_valid}
use Rattle.bump_core.proofs.worlds.World.new.Goals as goal

pub invariant_of-result : goal.invariant_of-result
invariant_of-result c = subst WorldKeeps (sym c.in_ok-new.ensures.state)
    (keeps_valid c.args.config.now c.in_ok-new.ensures.generation c.args.config.now.valid)

pub returns : goal.returns
returns c = c.in_ok-new.ensures.state
