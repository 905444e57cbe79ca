use Rattle.bump_steps.proofs.Moves.{holds_split}
use Rattle.bump_steps.proofs.words.Words.part_holds.Goals as goal

pub split_seat-requires : goal.split_seat-requires
split_seat-requires g c = (
  c.requires.0,
  c.requires.1,
  holds_split c.args.self.now.table.shared.key c.args.seat.now.id
      c.args.seat.now.me.0,
)
