-- The node of the chunk moves, and so the chunk.
use Rattle.std.proofs.Common.{◌≡◌, sym, ◌∙◌, ap, subst}
use Rattle.bump_rules.specs.Lists.{Lists, to_front, IsListed}
use Rattle.bump_rules.specs.ClassLists.{lists_from}
use Rattle.bump_rules.proofs.class_lists.Numbering.{node_of, moved_is}
use Rattle.bump_rules.proofs.class_lists.ClassLists.to_front.Goals as goal

pub overflow_sub-chunk : goal.overflow_sub-chunk
overflow_sub-chunk c =
    (node_of c.self.inside.first c.args.chunk c.self.inside.links c.self.invariant (subst (IsListed c.args.chunk)
    (sym c.self.view_is) c.requires)).from

pub move_front-requires-clause-node : goal.move_front-requires-clause-node
move_front-requires-clause-node c =
    (node_of c.self.inside.first c.args.chunk c.self.inside.links c.self.invariant (subst (IsListed c.args.chunk)
    (sym c.self.view_is) c.requires)).node

pub returns : goal.returns
returns c =
    let first = c.self.inside.first in
    let s = c.self.inside.links in
    let has = node_of first c.args.chunk s c.self.invariant (subst (IsListed c.args.chunk)
    (sym c.self.view_is) c.requires) in
    let Moved : Lists → Type 0 = λ l. lists_from first c.move_front.new.self ≡ to_front c.args.chunk c.args.place l in
    subst Moved c.self.view_is
    (ap (lists_from first) c.move_front.ensures.moved
    ∙ moved_is first c.number.result s c.args.place c.number.ensures.number c.args.chunk c.self.invariant has)
