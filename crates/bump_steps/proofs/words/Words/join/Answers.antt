use Rattle.bump_steps.proofs.Moves.{both_join}
use Rattle.bump_steps.proofs.words.Words.join.Goals as goal

pub join_seat-requires : goal.join_seat-requires
join_seat-requires g c = (
  c.requires.0,
  c.requires.1,
  c.requires.2,
  c.requires.3,
  both_join c.args.self.now.table.shared.key c.args.seat.now.id c.args.seat.now.me.0 c.args.other.id
      c.args.other.me.0,
)
