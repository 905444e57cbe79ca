use Rattle.cache_lists.specs.Linked.{linked_at}
use Rattle.cache_part.proofs.PartLemmas.{where_some}
use Rattle.cache_part.proofs.ending.end_unled.Goals as goal

pub returns-clause-ends : goal.returns-clause-ends
returns-clause-ends g c = where_some (linked_at c.args.lists.now.book.sheet c.args.chunk) _
    c.end.result c.requires.linked c.end.ensures.ends.not_linked c.end.ensures.ends.ends

pub returns-clause-others : goal.returns-clause-others
returns-clause-others g c = where_some (linked_at c.args.lists.now.book.sheet c.args.chunk) _
    c.end.result c.requires.linked c.end.ensures.ends.not_linked c.end.ensures.ends.others
