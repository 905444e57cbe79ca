use Rattle.std.proofs.Common.{arith}
use Rattle.bump_steps.proofs.Places.{row_sum, row_near}
use Rattle.bump_steps.proofs.words.Words.label_at.Goals as goal

pub overflow_mul-result : goal.overflow_mul-result
overflow_mul-result g c = let t = c.args.self.now.table.shared.table_id in
    omega (
      arith,
      row_sum t c.args.chunk c.args.self.now.row c.args.self.now.row_is,
      row_near t c.args.chunk (2) c.requires (omega arith),
      c.word_count-bound.ensures,
    )

pub overflow_add-result-2 : goal.overflow_add-result-2
overflow_add-result-2 g c = let t = c.args.self.now.table.shared.table_id in
    omega (
      arith,
      row_sum t c.args.chunk c.args.self.now.row c.args.self.now.row_is,
      row_near t c.args.chunk (2) c.requires (omega arith),
      c.word_count-bound.ensures,
    )

pub returns-clause-is : goal.returns-clause-is
returns-clause-is g c = let t = c.args.self.now.table.shared.table_id in
    omega (arith, row_sum t c.args.chunk c.args.self.now.row c.args.self.now.row_is)

pub returns-clause-near : goal.returns-clause-near
returns-clause-near g c = let t = c.args.self.now.table.shared.table_id in
    omega (
      arith,
      row_sum t c.args.chunk c.args.self.now.row c.args.self.now.row_is,
      row_near t c.args.chunk (2) c.requires (omega arith),
    )
