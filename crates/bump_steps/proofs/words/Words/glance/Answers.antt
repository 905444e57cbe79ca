use Rattle.std.proofs.Common.{arith}
use Rattle.bump_steps.proofs.Glances.{may_glance}
use Rattle.bump_steps.proofs.words.Words.glance.Goals as goal

pub load-requires : goal.load-requires
load-requires g c = let t = c.args.self.now.table.shared in (
  c.requires.seat.0,
  c.head_by.ensures.near,
  rw c.head_by.ensures.is
      (may_glance t.key t.table_id.slots c.args.seat.now.id
      c.args.seat.now.me c.args.chunk (omega (arith, c.args.self.now.sized, c.requires.seat.1)) c.requires.worker),
)

pub returns-clause-told : goal.returns-clause-told
returns-clause-told g c = c.load.ensures.2 c.args.chunk c.head_by.ensures.is
