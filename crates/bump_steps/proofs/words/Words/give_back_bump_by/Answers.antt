use Rattle.std.proofs.Common.{arith, ◌+◌, ◌-◌, ◌%◌, ◌^◌, subst, sym}
use Rattle.atomic_table.specs.Table.{Allows}
use Rattle.bump_rules.specs.declared.items.ItemId.{ItemId}
use Rattle.bump_steps.specs.Rule.{Kept}
use Rattle.bump_steps.specs.Rides.{release_tells}
use Rattle.bump_steps.proofs.RideSteps.{may_release_bump}
use Rattle.bump_steps.specs.Places.{head_place}
use Rattle.bump_steps.proofs.words.Words.give_back_bump_by.Goals as goal

pub fetch_sub-requires : goal.fetch_sub-requires
fetch_sub-requires g c = let t = c.args.self.now.table.shared in let m = c.args.seat.now.me in (
  c.requires.seat.0,
  c.head_by.ensures.near,
  rw c.head_by.ensures.is
      (subst (λ (z : ItemId). Allows (Kept g.L.RowLaw.law t.key) t.table_id.slots c.args.seat.now.id m (head_place t.table_id.slots c.args.life.chunk)
      (λ n. (n + (2 ^ 64 - 1)) % 2 ^ 64) (release_tells z m)) (sym c.requires.attempt)
      (may_release_bump t.key t.table_id.slots c.args.seat.now.id m c.args.life
      (omega (arith, c.args.self.now.sized, c.requires.seat.1)) c.requires.in_hand)),
)
