use Rattle.bump_steps.proofs.RideMoves.{ride_splits}
use Rattle.bump_steps.proofs.words.Words.part_ride.Goals as goal

pub split_seat-requires : goal.split_seat-requires
split_seat-requires g c = (
  c.requires.0,
  c.requires.1,
  ride_splits c.args.self.now.table.shared.key c.args.seat.now.id
      c.args.seat.now.me.0,
)
