use Rattle.std.proofs.Common.{arith}
use Rattle.bump_steps.proofs.Labelling.{may_put_label}
use Rattle.bump_steps.proofs.words.Words.put_label.Goals as goal

pub store-requires : goal.store-requires
store-requires g c = let t = c.args.self.now.table.shared in (
  c.requires.seat.0,
  c.label_by.ensures.near,
  rw c.label_by.ensures.is
      (may_put_label t.key t.table_id.slots c.args.seat.now.id
      c.args.chunk c.args.label c.args.seat.now.me (omega (arith, c.args.self.now.sized, c.requires.seat.1))
      c.requires.may),
)

pub returns-clause-told : goal.returns-clause-told
returns-clause-told g c = c.store.ensures.2 c.args.chunk c.label_by.ensures.is
