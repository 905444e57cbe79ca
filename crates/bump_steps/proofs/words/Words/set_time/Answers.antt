use Rattle.std.proofs.Common.{arith}
use Rattle.bump_steps.proofs.Marking.{may_store_time}
use Rattle.bump_steps.proofs.words.Words.set_time.Goals as goal

pub store-requires : goal.store-requires
store-requires g c = let t = c.args.self.now.table.shared in (
  c.requires.seat.0,
  c.time_by.ensures.near,
  rw c.time_by.ensures.is
      (may_store_time t.key t.table_id.slots c.args.seat.now.id
      c.args.seat.now.me c.args.chunk (omega (arith, c.args.self.now.sized, c.requires.seat.1)) c.args.now),
)

pub returns-clause-told : goal.returns-clause-told
returns-clause-told g c = c.store.ensures.2 c.args.chunk c.time_by.ensures.is
