use Rattle.std.proofs.Common.{◌+◌, arith}
use Rattle.std.proofs.lemmas.List.{take_rest, length-drop}
use Rattle.bump_trace.proofs.CutLines.{parts_at_none, parts_at_some}
use Rattle.bump_trace.proofs.cutting.cut.Goals as goal

pub returns-in-None : goal.returns-in-None
returns-in-None c = parts_at_none _ c.in-None.ensures

pub returns-in-Some : goal.returns-in-Some
returns-in-Some c =
    let at = parts_at_some c.args.bytes.now c.in-Some.end c.in-Some.ensures in
    let whole = take_rest c.args.bytes.now (c.in-Some.end + 1) in
    rw whole (at.0, simp length-drop (omega (arith, at.1)))
