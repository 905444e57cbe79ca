use Rattle.std.proofs.Common.{rules}
use Rattle.bump_trace.specs.Views.{names_of}
use Rattle.bump_trace.proofs.CommandsAtRest.{touch_allowed}
use Rattle.bump_trace.proofs.HeldNames.{held_by_name}
use Rattle.bump_trace.specs.OpenStore.{hit_said}
use Rattle.bump_trace.proofs.open_store.OpenStore.hit.Goals as goal

pub command_by-requires-clause-allowed : goal.command_by-requires-clause-allowed
command_by-requires-clause-allowed c =
    let b = c.args.self.now in
    touch_allowed b.world c.args.worker c.in-Some.id c.args.now c.requires.ready.rest
    (held_by_name b.world (names_of b.holds) c.args.hold.now c.in-Some.id c.requires.ready.lawful c.in-Some.ensures c.requires.holds)

pub returns-clause-said : goal.returns-clause-said
unfolding hit_said
returns-clause-said c = search rules
