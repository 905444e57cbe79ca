use Rattle.std.proofs.Common.{arith, rules}
use Rattle.std.proofs.lemmas.Bool.{lt-ltb}
use Rattle.bump_trace.proofs.CommandsAtRest.{sweep_allowed}
use Rattle.bump_trace.specs.OpenStore.{sweep_said}
use Rattle.bump_trace.proofs.open_store.OpenStore.sweep.Goals as goal

pub command-requires-clause-allowed : goal.command-requires-clause-allowed
command-requires-clause-allowed c =
    let ready = c.requires.ready in
    sweep_allowed c.args.self.now.world c.args.class ready.rest (lt-ltb _ _ (omega (arith, ready.classes)))

pub returns-clause-said : goal.returns-clause-said
unfolding sweep_said
returns-clause-said c = search rules
