use Rattle.std.proofs.Common.{arith, ap, ◌∙◌}
use Rattle.bump_word.specs.Words.{word_of}
use Rattle.bump_steps.proofs.Entering.{may_link, link_told}
use Rattle.bump_steps.proofs.words.Words.open_life.Goals as goal

pub store-requires : goal.store-requires
store-requires g c = let t = c.args.self.now.table.shared in (
  c.requires.seat.0,
  c.head_by.ensures.near,
  rw c.head_by.ensures.is
      (may_link t.key t.table_id.slots c.args.seat.now.id
      c.args.chunk c.args.generation c.args.seat.now.me (omega (arith, c.args.self.now.sized, c.requires.seat.1))
      c.args.start c.requires.may c.pack-word.result (c.pack-word.ensures ∙ ap word_of c.after_link.ensures)),
)

pub returns-clause-told : goal.returns-clause-told
returns-clause-told g c = link_told c.args.chunk c.args.generation c.args.start
    c.args.seat.now.me c.store.new.seat.me c.pack-word.result c.ranges.generation.fits
    (c.pack-word.ensures ∙ ap word_of c.after_link.ensures) (c.store.ensures.2 c.args.chunk c.head_by.ensures.is)
