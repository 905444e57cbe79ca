use Rattle.bump_steps.proofs.Meetings.{may_load_to_meet_lane}
use Rattle.bump_steps.proofs.words.Words.meet_lane.Goals as goal

pub load-spare-requires : goal.load-spare-requires
load-spare-requires g c = let t = c.args.self.now.table.shared in (
  c.requires.seat,
  c.requires.some,
  may_load_to_meet_lane t.key t.table_id.slots c.args.seat.now.id c.args.seat.now.me,
)
