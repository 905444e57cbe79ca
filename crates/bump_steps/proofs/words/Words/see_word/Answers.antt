use Rattle.std.proofs.Common.{arith}
use Rattle.bump_steps.proofs.Sights.{may_see_word}
use Rattle.bump_steps.proofs.words.Words.see_word.Goals as goal

pub load-requires : goal.load-requires
load-requires g c = let t = c.args.self.now.table.shared in (
  c.requires.seat.0,
  c.word_at.ensures.near,
  rw c.word_at.ensures.is
      (may_see_word t.key t.table_id.slots c.args.seat.now.id
      c.args.seat.now.me c.args.chunk (omega (arith, c.args.self.now.sized, c.requires.seat.1)) c.args.index
      c.requires.index),
)

pub returns-clause-told : goal.returns-clause-told
returns-clause-told g c = c.load.ensures.2 c.args.chunk c.args.index c.requires.index c.word_at.ensures.is
