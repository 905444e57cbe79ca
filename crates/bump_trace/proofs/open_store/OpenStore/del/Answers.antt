use Rattle.std.proofs.Common.{rules}
use Rattle.bump_trace.proofs.CommandsAtRest.{unlink_allowed}
use Rattle.bump_trace.specs.OpenStore.{del_said}
use Rattle.bump_trace.proofs.open_store.OpenStore.del.Goals as goal

pub command-requires-clause-allowed : goal.command-requires-clause-allowed
command-requires-clause-allowed c = unlink_allowed c.args.self.now.world c.in-Some.id c.requires.ready.rest

pub returns-clause-said : goal.returns-clause-said
unfolding del_said
returns-clause-said c = search rules
