use Rattle.std.proofs.Common.{arith}
use Rattle.bump_steps.proofs.Places.{row_near}
use Rattle.bump_steps.proofs.words.Words.head_by.Goals as goal

pub returns-clause-near : goal.returns-clause-near
returns-clause-near g c = let t = c.args.self.now.table.shared.table_id in
    omega (arith, c.requires.place, row_near t c.args.chunk 0 c.requires.chunk (omega arith))
