use Rattle.std.proofs.Common.{arith}
use Rattle.bump_steps.proofs.Entering.{may_unlink}
use Rattle.bump_steps.proofs.words.Words.end_life.Goals as goal

pub fetch_sub-requires : goal.fetch_sub-requires
fetch_sub-requires g c = let t = c.args.self.now.table.shared in (
  c.requires.seat.0,
  c.head_by.ensures.near,
  rw c.head_by.ensures.is
      (may_unlink t.key t.table_id.slots c.args.seat.now.id
      c.args.chunk c.args.seat.now.me (omega (arith, c.args.self.now.sized, c.requires.seat.1)) c.requires.may),
)

pub returns-clause-told : goal.returns-clause-told
returns-clause-told g c = c.fetch_sub.ensures.2 c.args.chunk c.head_by.ensures.is
