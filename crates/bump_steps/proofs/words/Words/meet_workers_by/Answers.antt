use Rattle.std.proofs.Common.{ℕ, subst, sym}
use mathlib.Core.Option.{none}
use Rattle.atomic_table.specs.Table.{Allows, step}
use Rattle.bump_steps.specs.Meetings.{load_to_meet_workers_tells}
use Rattle.bump_steps.specs.Rule.{Kept}
use Rattle.bump_steps.proofs.Meetings.{may_load_to_meet_workers}
use Rattle.bump_steps.proofs.words.Words.meet_workers_by.Goals as goal

pub load-spare-requires : goal.load-spare-requires
load-spare-requires g c = let t = c.args.self.now.table.shared in (
  c.requires.seat,
  c.requires.some,
  subst (λ (workers : ℕ). Allows (Kept g.L.RowLaw.law t.key) t.table_id.slots c.args.seat.now.id c.args.seat.now.me 0 (λ x. x)
      (load_to_meet_workers_tells workers (step t.table_id.slots 0 0 0 none) c.args.seat.now.me)) (sym c.requires.workers)
      (may_load_to_meet_workers t.key t.table_id.slots c.args.seat.now.id c.args.seat.now.me),
)
