use Rattle.std.proofs.Common.{arith, ℕ, ◌+◌, ◌==◌, subst, sym}
use prog.Atomic.{either}
use Rattle.atomic_table.specs.Table.{Allows}
use Rattle.bump_rules.specs.declared.items.ItemId.{ItemId}
use Rattle.bump_steps.specs.Rule.{Kept}
use Rattle.bump_steps.specs.Rides.{try_to_ride_tells}
use Rattle.bump_steps.proofs.RideSteps.{may_reserve}
use Rattle.bump_steps.specs.Places.{head_place}
use Rattle.bump_steps.proofs.words.Words.try_to_ride_by.Goals as goal

pub compare_exchange-requires : goal.compare_exchange-requires
compare_exchange-requires g c = let t = c.args.self.now.table.shared in let m = c.args.seat.now.me in let is =
    c.requires.attempt in (
      c.requires.seat.0,
      c.head_by.ensures.near,
      rw c.head_by.ensures.is
          (subst (λ (z : ℕ × ℕ × ItemId). Allows (Kept g.L.RowLaw.law t.key) t.table_id.slots c.args.seat.now.id m
          (head_place t.table_id.slots c.args.life.chunk)
          (λ n. either (n == c.args.seen) (c.args.seen + 1) n) (try_to_ride_tells z.0 z.1 z.2 c.args.seen m))
          (λ i. (sym is.0 i, sym is.1 i, sym is.2 i))
          (may_reserve t.key t.table_id.slots c.args.seat.now.id m c.args.life c.args.limit c.args.failed c.args.seen
          (omega (arith, c.args.self.now.sized, c.requires.seat.1)) c.requires.limit c.requires.trying
          c.requires.room)),
    )

pub returns-clause-told : goal.returns-clause-told
returns-clause-told g c = let is = c.requires.attempt in
    subst (λ (z : ℕ × ℕ × ItemId). try_to_ride_tells z.0 z.1 z.2 c.args.seen c.args.seat.now.me
    c.compare_exchange.result c.compare_exchange.new.seat.me) (λ i. (is.0 i, is.1 i, is.2 i))
    c.compare_exchange.ensures.2
