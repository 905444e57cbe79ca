-- The list that holds the chunk's node tells whether the chunk stands at the place.
use Rattle.std.proofs.Common.{◌≡◌, ltb, eqb, sym, subst}
use Rattle.bump_links.specs.Lists.{times}
use Rattle.bump_rules.specs.Lists.{Lists, list_at, IsListed}
use Rattle.bump_rules.proofs.class_lists.Numbering.{node_of, tells_at}
use Rattle.bump_rules.proofs.class_lists.ClassLists.has.Goals as goal

pub overflow_sub-chunk : goal.overflow_sub-chunk
overflow_sub-chunk c =
    (node_of c.self.inside.first c.args.chunk c.self.inside.links c.self.invariant (subst (IsListed c.args.chunk)
    (sym c.self.view_is) c.requires)).from

pub list_of-requires : goal.list_of-requires
list_of-requires c =
    (node_of c.self.inside.first c.args.chunk c.self.inside.links c.self.invariant (subst (IsListed c.args.chunk)
    (sym c.self.view_is) c.requires)).node

pub returns : goal.returns
returns c =
    let first = c.self.inside.first in
    let s = c.self.inside.links in
    let has = node_of first c.args.chunk s c.self.invariant (subst (IsListed c.args.chunk)
    (sym c.self.view_is) c.requires) in
    let Tells : Lists → Type 0 = λ l. eqb c.list_of.result c.number.result
    ≡ ltb 0 (times c.args.chunk (list_at l c.args.place)) in
    subst Tells c.self.view_is
    (tells_at first c.args.chunk s c.self.invariant c.args.place c.list_of.result c.number.result has
    c.list_of.ensures c.number.ensures.number)
