use Rattle.std.proofs.Common.{rules}
use Rattle.bump_trace.specs.Views.{names_of}
use Rattle.bump_trace.proofs.HeldNames.{held_by_name}
use Rattle.bump_trace.specs.OpenStore.{read_said}
use Rattle.bump_trace.proofs.open_store.OpenStore.read.Goals as goal

pub held_label-label-requires : goal.held_label-label-requires
held_label-label-requires c =
    let b = c.args.self.now in
    held_by_name b.world (names_of b.holds) c.args.hold.now c.in-Some.id c.requires.ready.lawful c.in-Some.ensures c.requires.holds

pub returns-clause-said : goal.returns-clause-said
unfolding read_said
returns-clause-said c = search rules
