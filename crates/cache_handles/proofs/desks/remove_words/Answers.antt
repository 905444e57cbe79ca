use Rattle.cache_handles.proofs.ShelfPuts.{removes_key}
use Rattle.cache_handles.proofs.desks.remove_words.Goals as goal

pub returns-in-Some-clause-removes : goal.returns-in-Some-clause-removes
returns-in-Some-clause-removes g c =
    let e = c.in-Some.ensures in
    removes_key _ _ c.in-Some.field-0 _ c.args.had.now _ _ _ _ c.promise.ensures.part e.removes c.has_expired.ensures e.same
