use Rattle.std.proofs.Common.{arith, ℕ, sym, subst, bit_xor}
use mathlib.Core.Option.{none}
use Rattle.atomic_table.specs.Table.{step, Allows}
use Rattle.bump_rules.specs.declared.places.Segment.{Segment}
use Rattle.bump_steps.specs.Rule.{Kept}
use Rattle.bump_steps.specs.Plays.{on_chunk}
use Rattle.bump_steps.specs.Applications.{move_tells}
use Rattle.bump_steps.proofs.Applications.{may_move}
use Rattle.bump_steps.specs.Places.{head_place}
use Rattle.bump_steps.proofs.words.Words.change_segment_by.Goals as goal

pub fetch_xor-requires : goal.fetch_xor-requires
fetch_xor-requires g c = let t = c.args.self.now.table.shared in let m = c.args.seat.now.me in let x : ℕ =
    c.segment_xor.result in (
      c.requires.seat.0,
      c.head_by.ensures.near,
      rw c.head_by.ensures.is
          (subst (λ (k : ℕ). Allows (Kept g.L.RowLaw.law t.key) t.table_id.slots c.args.seat.now.id m (head_place t.table_id.slots c.args.chunk)
          (λ n. bit_xor n k) (on_chunk (move_tells g.W.Moving.from g.W.Moving.to)
          (step t.table_id.slots (head_place t.table_id.slots c.args.chunk) x 0 none) m)) (sym c.segment_xor.ensures)
          (subst (λ (s : Segment × Segment). Allows (Kept g.L.RowLaw.law t.key) t.table_id.slots c.args.seat.now.id m
          (head_place t.table_id.slots c.args.chunk) (λ n. bit_xor n (Rattle.bump_word.specs.Words.segment_change c.args.from c.args.to))
          (on_chunk (move_tells s.0 s.1) (step t.table_id.slots (head_place t.table_id.slots c.args.chunk) x 0 none) m))
          (λ i. (c.requires.segments.0 i, c.requires.segments.1 i))
          (may_move t.key t.table_id.slots c.args.seat.now.id c.args.chunk x c.args.from c.args.to m
          (omega (arith, c.args.self.now.sized, c.requires.seat.1)) c.requires.may))),
    )

pub returns-clause-told : goal.returns-clause-told
returns-clause-told g c = (
  c.segment_xor.result,
  subst (λ (s : Segment × Segment). move_tells s.0 s.1 c.args.chunk c.segment_xor.result c.args.seat.now.me
      c.fetch_xor.result c.fetch_xor.new.seat.me) (λ i. (sym c.requires.segments.0 i, sym c.requires.segments.1 i))
      (c.fetch_xor.ensures.2 c.args.chunk c.head_by.ensures.is),
)
