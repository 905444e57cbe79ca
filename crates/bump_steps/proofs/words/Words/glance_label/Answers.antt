use Rattle.std.proofs.Common.{arith}
use Rattle.bump_steps.proofs.Glances.{may_glance_label}
use Rattle.bump_steps.proofs.words.Words.glance_label.Goals as goal

pub load-requires : goal.load-requires
load-requires g c = let t = c.args.self.now.table.shared in (
  c.requires.seat.0,
  c.label_by.ensures.near,
  rw c.label_by.ensures.is
      (may_glance_label t.key t.table_id.slots c.args.seat.now.id
      c.args.seat.now.me c.args.chunk (omega (arith, c.args.self.now.sized, c.requires.seat.1)) c.requires.glance),
)

pub returns-clause-told : goal.returns-clause-told
returns-clause-told g c = c.load.ensures.2 c.args.chunk c.label_by.ensures.is
