use Rattle.std.proofs.Common.{◌+◌}
use Rattle.std.proofs.lemmas.List.{take_rest}
use Rattle.trace_lines.proofs.CutWords.{words_at_none, words_at_some}
use Rattle.trace_lines.proofs.words.LineWords.first.Goals as goal

pub returns-in-None : goal.returns-in-None
returns-in-None c = words_at_none _ c.in-None.ensures

pub returns-in-Some : goal.returns-in-Some
returns-in-Some c =
    let whole = take_rest c.args.line.now (c.in-Some.end + 1) in
    rw whole (words_at_some c.args.line.now c.in-Some.end c.in-Some.ensures).0
