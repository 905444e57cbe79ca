-- The back link of a node leads to what it follows.
use Rattle.std.proofs.Common.{◌≡◌, ℕ, ◌<◌, length, Option, IfSome, sym, ◌∙◌, ap, subst}
use Rattle.std.proofs.lemmas.List.{get_or_read}
use Rattle.bump_links.specs.declared.chain.Node.{Node}
use Rattle.bump_links.specs.Lists.{Lists, IsHeldBy, HoldsEachOnce, previous_of, list_at}
use Rattle.bump_links.specs.Chain.{no_node, node_at, node_or_none}
use Rattle.bump_links.proofs.MoveLemmas.{holds_each_once}
use Rattle.bump_links.proofs.ReadLemmas.{previous_is, link_in, links_in}
use Rattle.bump_links.proofs.Links.before.Goals as goal

pub returns-clause-previous : goal.returns-clause-previous
returns-clause-previous c =
    let nodes = c.self.inside.nodes.items in
    let headers = c.self.inside.headers.items in
    let n = c.args.node in
    let There : Lists → Type 0 = λ s. n < s.nodes in
    let there : n < length nodes = subst There (sym c.self.view_is) c.requires in
    let read = get_or_read nodes n c.index.result.now there c.index.ensures no_node in
    let Answers : Lists → Type 0 =
    λ s. (l : ℕ) → IsHeldBy s n l → c.some_node.result ≡ previous_of n (list_at s l) in
    subst Answers c.self.view_is
    (λ l held. c.some_node.ensures ∙ ap (λ (q : Node). node_or_none q.back) read
    ∙ previous_is nodes headers n l c.self.invariant there held)

pub returns-clause-each_once : goal.returns-clause-each_once
returns-clause-each_once c =
    subst HoldsEachOnce c.self.view_is
    (holds_each_once c.self.inside.nodes.items c.self.inside.headers.items c.self.invariant)

pub returns-clause-in_range : goal.returns-clause-in_range
returns-clause-in_range c =
    let nodes = c.self.inside.nodes.items in
    let headers = c.self.inside.headers.items in
    let n = c.args.node in
    let There : Lists → Type 0 = λ s. n < s.nodes in
    let there : n < length nodes = subst There (sym c.self.view_is) c.requires in
    let read = get_or_read nodes n c.index.result.now there c.index.ensures no_node in
    let is = c.some_node.ensures ∙ ap (λ (q : Node). node_or_none q.back) read in
    let InRange : Lists → Type 0 = λ s. IfSome c.some_node.result (λ k. k < s.nodes) in
    let P : Option ℕ → Type 0 = λ q. IfSome q (λ k. k < length nodes) in
    subst InRange c.self.view_is
    (subst P (sym is) (link_in (length nodes) (node_at nodes n).back
    (links_in nodes headers n c.self.invariant there).back))
