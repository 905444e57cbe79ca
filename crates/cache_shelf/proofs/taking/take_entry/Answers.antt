use Rattle.cache_shelf.proofs.Keeping.{alike_tended}
use Rattle.cache_shelf.proofs.TakingLemmas.{taken_kept, taken_lawful, taken_told}
use Rattle.cache_shelf.proofs.taking.take_entry.Goals as goal

pub returns-clause-lawful : goal.returns-clause-lawful
returns-clause-lawful g c =
    let before = c.args.part.now in let after = c.take_expired.new.self in let e = c.take_expired.ensures in
    taken_lawful c.args.most c.args.now before after (alike_tended before after e.rest) c.take_expired.result e.takes
    e.ends g.L.RowLaw.law c.requires.lawful

pub returns-clause-told : goal.returns-clause-told
returns-clause-told g c =
    let before = c.args.part.now in let after = c.take_expired.new.self in let e = c.take_expired.ensures in
    taken_told c.args.most c.args.now before after (alike_tended before after e.rest) c.take_expired.result e.takes
    e.ends g.L.RowLaw.law _ _ c.requires.lawful c.promise.ensures.part e.told

pub returns-clause-kept : goal.returns-clause-kept
returns-clause-kept g c =
    let before = c.args.part.now in let after = c.take_expired.new.self in let e = c.take_expired.ensures in
    taken_kept c.args.most c.args.now before after (alike_tended before after e.rest) c.take_expired.result e.takes e.ends
