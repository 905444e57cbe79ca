use Rattle.std.proofs.Common.{sym}
use Rattle.cache_lists.proofs.Rows.{row_given}
use Rattle.cache_lists.proofs.Standings.{begins_at, begins_first}
use Rattle.cache_lists.proofs.Ways.{links_flow}
use Rattle.cache_lists.proofs.items.begin.Goals as goal
use Rattle.cache_lists.proofs.Segments.{unlinked_apart}

pub returns-in-Ok-clause-begins : goal.returns-in-Ok-clause-begins
returns-in-Ok-clause-begins g c = begins_at c.args.start c.args.book.now c.link.new.book c.in-Ok.id c.args.label
    c.args.words.now c.args.now c.promise.ensures.stands (sym c.in-Ok.ensures.item) c.in-Ok.ensures.linked

pub returns-in-Ok-clause-flows : goal.returns-in-Ok-clause-flows
returns-in-Ok-clause-flows g c = links_flow c.args.start c.args.book.now c.link.new.book c.in-Ok.id c.args.label
    c.args.words.now c.args.now c.promise.ensures.stands (sym c.in-Ok.ensures.item) c.in-Ok.ensures.linked

pub returns-in-Ok-clause-apart : goal.returns-in-Ok-clause-apart
returns-in-Ok-clause-apart g c = unlinked_apart c.args.book.now c.in-Ok.id.chunk c.promise.ensures.stands
    (begins_at c.args.start c.args.book.now c.link.new.book c.in-Ok.id c.args.label c.args.words.now c.args.now
    c.promise.ensures.stands (sym c.in-Ok.ensures.item) c.in-Ok.ensures.linked).free

pub returns-in-Ok-clause-first : goal.returns-in-Ok-clause-first
returns-in-Ok-clause-first g c = begins_first c.args.book.now c.in-Ok.id (sym c.in-Ok.ensures.item)

pub returns-in-Ok-clause-row : goal.returns-in-Ok-clause-row
returns-in-Ok-clause-row g c = row_given c.args.start c.args.book.now c.link.new.book c.in-Ok.id c.args.label
    c.args.words.now c.args.now c.in-Ok.ensures.linked
