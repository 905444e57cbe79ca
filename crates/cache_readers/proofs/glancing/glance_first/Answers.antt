use Rattle.cache_index.proofs.ReaderLemmas.{looks_more, sees_looks}
use Rattle.cache_readers.proofs.MissLemmas.{nowhere_absent}
use Rattle.cache_readers.proofs.glancing.glance_first.Goals as goal

pub returns-in_default-clause-absent : goal.returns-in_default-clause-absent
returns-in_default-clause-absent g c = λ _.
    nowhere_absent c.args.hash c.args.key.now c.args.index.now c.search-search.result c.args.worker.now c.args.eye.now
    c.search-search.new.eye c.next.new.eye c.requires.eye c.search-search.ensures.eye c.in_default.ensures.eye
    c.search-search.ensures.nests c.search-search.ensures.hash c.search-search.ensures.begins c.in_default.ensures.ends

pub returns-in_default-clause-looks : goal.returns-in_default-clause-looks
returns-in_default-clause-looks g c =
    looks_more c.args.eye.now c.search-search.new.eye c.next.new.eye
    (sees_looks c.args.eye.now c.search-search.new.eye c.search-search.ensures.eye) c.in_default.ensures.eye

pub returns-then-glance_at-clause-looks : goal.returns-then-glance_at-clause-looks
returns-then-glance_at-clause-looks g c =
    looks_more c.args.eye.now c.search-search.new.eye c.next.new.eye
    (sees_looks c.args.eye.now c.search-search.new.eye c.search-search.ensures.eye) c.in-Some.ensures.eye

pub returns-clause-looks : goal.returns-clause-looks
returns-clause-looks g c =
    looks_more c.args.eye.now c.search-search.new.eye c.next.new.eye
    (sees_looks c.args.eye.now c.search-search.new.eye c.search-search.ensures.eye) c.in-Some.ensures.eye
