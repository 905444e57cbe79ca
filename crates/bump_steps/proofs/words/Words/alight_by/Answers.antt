use Rattle.std.proofs.Common.{arith, ◌+◌, ◌-◌, ◌%◌, ◌^◌, subst, sym}
use mathlib.Core.Option.{none}
use Rattle.bump_rules.specs.declared.bumps.Outcome.{Outcome}
use Rattle.atomic_table.specs.Table.{step, Allows}
use Rattle.bump_steps.specs.Rule.{Kept}
use Rattle.bump_steps.specs.Plays.{on_chunk}
use Rattle.bump_steps.specs.Applications.{alight_tells}
use Rattle.bump_steps.proofs.Alightings.{may_alight}
use Rattle.bump_steps.specs.Places.{head_place}
use Rattle.bump_steps.proofs.words.Words.alight_by.Goals as goal

pub fetch_sub-requires : goal.fetch_sub-requires
fetch_sub-requires g c = let t = c.args.self.now.table.shared in let m = c.args.seat.now.me in (
  c.requires.seat.0,
  c.head_by.ensures.near,
  rw c.head_by.ensures.is
      (subst (λ (o : Outcome). Allows (Kept g.L.RowLaw.law t.key) t.table_id.slots c.args.seat.now.id m (head_place t.table_id.slots c.args.chunk)
      (λ n. (n + (2 ^ 64 - 1)) % 2 ^ 64)
      (on_chunk (alight_tells o) (step t.table_id.slots (head_place t.table_id.slots c.args.chunk) 1 0 none) m)) c.requires.outcome
      (may_alight t.key t.table_id.slots c.args.seat.now.id c.args.chunk 1 c.args.outcome m
      (omega (arith, c.args.self.now.sized, c.requires.seat.1)) c.requires.may)),
)

pub returns-clause-told : goal.returns-clause-told
returns-clause-told g c = subst (λ (o : Outcome). alight_tells o c.args.chunk 1 c.args.seat.now.me c.fetch_sub.result
    c.fetch_sub.new.seat.me) (sym c.requires.outcome) (c.fetch_sub.ensures.2 c.args.chunk c.head_by.ensures.is)
