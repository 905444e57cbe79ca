use Rattle.std.proofs.Common.{arith, ℕ, subst, sym}
use Rattle.atomic_table.specs.Table.{Allows}
use Rattle.bump_rules.specs.declared.items.ItemId.{ItemId}
use Rattle.bump_steps.specs.Rule.{Kept}
use Rattle.bump_steps.specs.Rides.{load_to_ride_tells}
use Rattle.bump_steps.proofs.RideSteps.{may_load_to_ride}
use Rattle.bump_steps.specs.Places.{head_place}
use Rattle.bump_steps.proofs.words.Words.load_to_ride_by.Goals as goal

pub load-requires : goal.load-requires
load-requires g c = let t = c.args.self.now.table.shared in let m = c.args.seat.now.me in let is =
    c.requires.attempt in (
      c.requires.seat.0,
      c.head_by.ensures.near,
      rw c.head_by.ensures.is
          (subst (λ (z : ℕ × ℕ × ItemId). Allows (Kept g.L.RowLaw.law t.key) t.table_id.slots c.args.seat.now.id m
          (head_place t.table_id.slots c.args.life.chunk)
          (λ n. n) (load_to_ride_tells z.0 z.1 z.2 m)) (λ i. (sym is.0 i, sym is.1 i, sym is.2 i))
          (may_load_to_ride t.key t.table_id.slots c.args.seat.now.id m c.args.life c.args.limit 0
          (omega (arith, c.args.self.now.sized, c.requires.seat.1)) c.requires.limit c.requires.trying)),
    )
