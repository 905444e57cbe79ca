use Rattle.std.proofs.Common.{arith}
use Rattle.bump_steps.proofs.Marking.{may_fetch}
use Rattle.bump_steps.proofs.words.Words.mark_fetched.Goals as goal

pub fetch_or-requires : goal.fetch_or-requires
fetch_or-requires g c = let t = c.args.self.now.table.shared in (
  c.requires.seat.0,
  c.head_by.ensures.near,
  rw c.head_by.ensures.is
      (may_fetch t.key t.table_id.slots c.args.seat.now.id
      c.args.seat.now.me c.args.chunk (omega (arith, c.args.self.now.sized, c.requires.seat.1)) c.requires.worker),
)

pub returns-clause-told : goal.returns-clause-told
returns-clause-told g c = c.fetch_or.ensures.2 c.args.chunk c.head_by.ensures.is
