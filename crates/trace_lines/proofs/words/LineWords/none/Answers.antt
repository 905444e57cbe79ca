use Rattle.std.proofs.Common.{refl}
use Rattle.trace_lines.proofs.CutWords.{some_word}
use Rattle.trace_lines.proofs.words.LineWords.none.Goals as goal

pub returns-in-Some : goal.returns-in-Some
returns-in-Some c = (rw c.in-Some.is (some_word c.in-Some.field-0.now), refl)
