use Rattle.std.proofs.Common.{arith}
use Rattle.bump_steps.proofs.Referring.{may_take}
use Rattle.bump_steps.proofs.words.Words.try_take.Goals as goal

pub compare_exchange-requires : goal.compare_exchange-requires
compare_exchange-requires g c = let t = c.args.self.now.table.shared in let may = c.requires.word in (
  c.requires.seat.0,
  c.head_by.ensures.near,
  rw c.head_by.ensures.is
      (may_take t.key t.table_id.slots c.args.seat.now.id
      c.args.seat.now.me c.args.life.chunk (omega (arith, c.args.self.now.sized, c.requires.seat.1))
      c.args.life.generation c.args.word may.0 may.1 may.2),
)

pub returns-clause-told : goal.returns-clause-told
returns-clause-told g c = c.compare_exchange.ensures.2 c.args.life.chunk c.head_by.ensures.is
