-- The node that follows is the chunk that follows.
use Rattle.std.proofs.Common.{◌≡◌, ◌<◌, sym, subst}
use Rattle.bump_links.specs.Lists.{times, next_of}
use Rattle.bump_rules.specs.Lists.{Lists, list_at}
use Rattle.bump_rules.proofs.class_lists.Numbering.{node_at, once_at, next_is}
use Rattle.bump_rules.proofs.class_lists.ClassLists.after.Goals as goal

pub overflow_sub-chunk : goal.overflow_sub-chunk
overflow_sub-chunk c =
    let There : Lists → Type 0 = λ l. 0 < times c.args.chunk (list_at l c.args.place) in
    (node_at c.self.inside.first c.args.chunk c.self.inside.links c.self.invariant c.args.place
    (subst There (sym c.self.view_is) c.requires)).from

pub after-requires : goal.after-requires
after-requires c =
    let There : Lists → Type 0 = λ l. 0 < times c.args.chunk (list_at l c.args.place) in
    (node_at c.self.inside.first c.args.chunk c.self.inside.links c.self.invariant c.args.place
    (subst There (sym c.self.view_is) c.requires)).node

pub returns-clause-next : goal.returns-clause-next
returns-clause-next c =
    let There : Lists → Type 0 = λ l. 0 < times c.args.chunk (list_at l c.args.place) in
    let Follows : Lists → Type 0 = λ l. c.chunk_at.result ≡ next_of c.args.chunk (list_at l c.args.place) in
    subst Follows c.self.view_is
    (next_is c.self.inside.first c.args.chunk c.self.inside.links c.args.place c.after.result c.chunk_at.result
    c.self.invariant
    (subst There (sym c.self.view_is) c.requires) c.after.ensures.next c.chunk_at.ensures)

pub returns-clause-once : goal.returns-clause-once
returns-clause-once c =
    let There : Lists → Type 0 = λ l. 0 < times c.args.chunk (list_at l c.args.place) in
    let Once : Lists → Type 0 = λ l. times c.args.chunk (list_at l c.args.place) ≡ 1 in
    subst Once c.self.view_is
    (once_at c.self.inside.first c.args.chunk c.self.inside.links c.self.invariant c.args.place
    (subst There (sym c.self.view_is) c.requires))
