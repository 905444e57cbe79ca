use Rattle.std.proofs.Common.{arith}
use Rattle.bump_steps.proofs.Applications.{may_clear_active}
use Rattle.bump_steps.proofs.words.Words.clear_active.Goals as goal

pub fetch_and-requires : goal.fetch_and-requires
fetch_and-requires g c = let t = c.args.self.now.table.shared in (
  c.requires.seat.0,
  c.head_by.ensures.near,
  rw c.head_by.ensures.is
      (may_clear_active t.key t.table_id.slots c.args.seat.now.id
      c.args.seat.now.me c.args.chunk (omega (arith, c.args.self.now.sized, c.requires.seat.1))),
)

pub returns-clause-told : goal.returns-clause-told
returns-clause-told g c = c.fetch_and.ensures.2 c.args.chunk c.head_by.ensures.is
