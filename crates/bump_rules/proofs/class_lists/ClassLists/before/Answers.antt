-- The node before is the chunk before.
use Rattle.std.proofs.Common.{◌≡◌, ◌<◌, sym, subst}
use Rattle.bump_links.specs.Lists.{times, previous_of}
use Rattle.bump_rules.specs.Lists.{Lists, list_at}
use Rattle.bump_rules.proofs.class_lists.Numbering.{node_at, previous_is}
use Rattle.bump_rules.proofs.class_lists.ClassLists.before.Goals as goal

pub overflow_sub-chunk : goal.overflow_sub-chunk
overflow_sub-chunk c =
    let There : Lists → Type 0 = λ l. 0 < times c.args.chunk (list_at l c.args.place) in
    (node_at c.self.inside.first c.args.chunk c.self.inside.links c.self.invariant c.args.place
    (subst There (sym c.self.view_is) c.requires)).from

pub before-requires : goal.before-requires
before-requires c =
    let There : Lists → Type 0 = λ l. 0 < times c.args.chunk (list_at l c.args.place) in
    (node_at c.self.inside.first c.args.chunk c.self.inside.links c.self.invariant c.args.place
    (subst There (sym c.self.view_is) c.requires)).node

pub returns : goal.returns
returns c =
    let There : Lists → Type 0 = λ l. 0 < times c.args.chunk (list_at l c.args.place) in
    let Follows : Lists → Type 0 = λ l. c.chunk_at.result ≡ previous_of c.args.chunk (list_at l c.args.place) in
    subst Follows c.self.view_is
    (previous_is c.self.inside.first c.args.chunk c.self.inside.links c.args.place c.before-2.result c.chunk_at.result
    c.self.invariant
    (subst There (sym c.self.view_is) c.requires) c.before-2.ensures.previous c.chunk_at.ensures)
