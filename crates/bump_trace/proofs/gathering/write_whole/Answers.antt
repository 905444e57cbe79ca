use Rattle.std.proofs.Common.{◌++◌, take, sym}
use Rattle.bump_trace.proofs.KnownBytes.{appends_more, appends_kept, moves_front}
use Rattle.bump_trace.proofs.gathering.write_whole.Goals as goal

pub loop-rest-preserved : goal.loop-rest-preserved
loop-rest-preserved g c =
    let (done, split, appended) = c.loop-rest.invariant in
    let rest = c.loop-rest.rest.now in
    let n = c.in-Ok.n in
    (done ++ take n rest, moves_front _ done rest n split, appends_more _ _ _ _ _ appended c.in-Ok.ensures.bytes)

pub returns-in-Err-clause-front : goal.returns-in-Err-clause-front
returns-in-Err-clause-front g c =
    let (done, split, appended) = c.loop-rest.invariant in
    record { sent = done; more = c.loop-rest.rest.now; wrote = appends_kept _ _ _ done appended c.in-Err.ensures.bytes; front = sym split }
