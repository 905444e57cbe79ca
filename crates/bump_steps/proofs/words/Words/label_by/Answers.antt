use Rattle.std.proofs.Common.{arith}
use Rattle.bump_steps.proofs.Places.{row_near}
use Rattle.bump_steps.proofs.words.Words.label_by.Goals as goal

pub overflow_add-result : goal.overflow_add-result
overflow_add-result g c = let t = c.args.self.now.table.shared.table_id in
    omega (
      arith,
      c.requires.place,
      row_near t c.args.chunk 2 c.requires.chunk (omega arith),
      c.word_count-bound.ensures,
    )

pub returns-clause-is : goal.returns-clause-is
returns-clause-is g c = omega (arith, c.requires.place)

pub returns-clause-near : goal.returns-clause-near
returns-clause-near g c = let t = c.args.self.now.table.shared.table_id in
    omega (arith, c.requires.place, row_near t c.args.chunk 2 c.requires.chunk (omega arith))
