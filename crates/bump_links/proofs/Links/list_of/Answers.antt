-- The record of a node names the list that holds it.
use Rattle.std.proofs.Common.{◌<◌, length, sym, subst}
use Rattle.std.proofs.lemmas.List.{get_or_read}
use Rattle.bump_links.specs.declared.chain.Node.{Node}
use Rattle.bump_links.specs.Lists.{Lists, IsHeldBy}
use Rattle.bump_links.specs.Chain.{no_node}
use Rattle.bump_links.specs.Spelled.{lists_of}
use Rattle.bump_links.proofs.MoveLemmas.{held_by}
use Rattle.bump_links.proofs.Links.list_of.Goals as goal

pub returns : goal.returns
returns c =
    let nodes = c.self.inside.nodes.items in
    let headers = c.self.inside.headers.items in
    let n = c.args.node in
    let There : Lists → Type 0 = λ s. n < s.nodes in
    let Held : Lists → Type 0 = λ s. IsHeldBy s n c.index.result.now.list in
    let Named : Node → Type 0 = λ z. IsHeldBy (lists_of nodes headers) n z.list in
    let lt : n < length nodes = subst There (sym c.self.view_is) c.requires in
    subst Held c.self.view_is
    (subst Named (sym (get_or_read nodes n c.index.result.now lt c.index.ensures no_node))
    (held_by nodes headers n c.self.invariant lt))
