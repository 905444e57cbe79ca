use Rattle.std.proofs.Common.{refl}
use Rattle.bump_heads.specs.References.{new_hold}
use Rattle.bump_heads.specs.ReadersSeats.{row_in}
use Rattle.head_tests.proofs.tests.stores.let_out.Goals as goal

pub hold_out-requires-clause-joined : goal.hold_out-requires-clause-joined
hold_out-requires-clause-joined g c = (
  new_hold c.args.hold.now.life (row_in c.args.worker.now.hold),
  c.requires.joined,
  refl,
)
