use Rattle.std.proofs.Common.{arith}
use Rattle.bump_steps.proofs.Glances.{may_glance_word}
use Rattle.bump_steps.proofs.words.Words.glance_word.Goals as goal

pub load-requires : goal.load-requires
load-requires g c = let t = c.args.self.now.table.shared in (
  c.requires.seat.0,
  c.word_by.ensures.near,
  rw c.word_by.ensures.is
      (may_glance_word t.key t.table_id.slots c.args.seat.now.id
      c.args.seat.now.me c.args.chunk (omega (arith, c.args.self.now.sized, c.requires.seat.1)) c.requires.glance
      c.args.index c.requires.index),
)

pub returns-clause-told : goal.returns-clause-told
returns-clause-told g c = c.load.ensures.2 c.args.chunk c.args.index c.requires.index c.word_by.ensures.is
