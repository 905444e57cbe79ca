use Rattle.std.proofs.Common.{arith, ℕ, [], subst, sym}
use mathlib.Core.Option.{none}
use Rattle.atomic_table.specs.Table.{step, Enters}
use Rattle.bump_steps.specs.Plays.{on_chunk}
use Rattle.bump_steps.specs.References.{load_without_seat_tells}
use Rattle.bump_steps.specs.Rule.{Kept, opened}
use Rattle.bump_steps.proofs.Referring.{may_load_without_seat}
use Rattle.bump_steps.specs.Places.{head_place}
use Rattle.bump_steps.proofs.words.Words.see_by.Goals as goal

pub load_new_seat-requires : goal.load_new_seat-requires
load_new_seat-requires g c = let t = c.args.self.now.table.shared in (
  c.head_at.ensures.near,
  rw c.head_at.ensures.is
      (subst (λ (limit : ℕ). Enters (Kept g.L.RowLaw.law t.key) t.table_id.slots (head_place t.table_id.slots c.args.chunk)
      (λ n w. on_chunk (load_without_seat_tells limit) (step t.table_id.slots (head_place t.table_id.slots c.args.chunk) 0 0 none)
      (opened t.key, []) n (w, []))) (sym c.requires.limit)
      (may_load_without_seat t.key t.table_id.slots c.args.chunk (opened t.key)
      (omega (arith, c.args.self.now.sized, c.requires.chunk)))),
)

pub returns-clause-found : goal.returns-clause-found
returns-clause-found g c = (c.load_new_seat.ensures.2 c.args.chunk c.head_at.ensures.is).1

pub returns-clause-seen : goal.returns-clause-seen
returns-clause-seen g c = (c.load_new_seat.ensures.2 c.args.chunk c.head_at.ensures.is).0
