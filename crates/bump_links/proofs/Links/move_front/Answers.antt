-- Where the node is the front of the target already, a move leaves all as it was.
use Rattle.std.proofs.Common.{◌≡◌, ◌<◌, List, length, sym, ◌∙◌, ap, ap₂, subst, arith}
use Rattle.std.proofs.lemmas.List.{get_or_read, length-map, with_items_is}
use Rattle.bump_links.specs.declared.chain.Node.{Node}
use Rattle.bump_links.specs.declared.chain.Header.{Header}
use Rattle.bump_links.specs.Lists.{Lists, moved_to_front, HoldsEachOnce}
use Rattle.bump_links.specs.Chain.{list_under}
use Rattle.bump_links.specs.Spelled.{lists_of, no_header}
use Rattle.bump_links.proofs.MoveLemmas.{moved_in_place, holds_each_once}
use Rattle.bump_links.proofs.Links.move_front.Goals as goal

pub returns-then-index-node-clause-moved : goal.returns-then-index-node-clause-moved
returns-then-index-node-clause-moved c =
    let nodes = c.self.inside.nodes.items in
    let headers = c.self.inside.headers.items in
    let n = c.args.node in
    let t = c.args.list in
    let There : Lists → Type 0 = λ s. n < s.nodes in
    let Among : Lists → Type 0 = λ s. t < length s.lists in
    let there : n < length nodes = subst There (sym c.self.view_is) c.requires.node in
    let among : t < length headers =
    subst (λ q. t < q) (length-map headers (list_under nodes)) (subst Among (sym c.self.view_is) c.requires.list) in
    let at = sym (ap (λ (q : Header). q.head)
    (get_or_read headers t c.index.result.now among c.index.ensures no_header))
    ∙ c.if-index-node.true in
    let Same : Lists → Type 0 = λ s. s ≡ moved_to_front n t s in
    subst Same c.self.view_is (moved_in_place nodes headers n t c.self.invariant there among at)

pub returns-then-index-node-clause-each_once : goal.returns-then-index-node-clause-each_once
returns-then-index-node-clause-each_once c =
    let nodes = c.self.inside.nodes.items in
    let headers = c.self.inside.headers.items in
    subst HoldsEachOnce c.self.view_is (holds_each_once nodes headers c.self.invariant)

pub returns-clause-moved : goal.returns-clause-moved
returns-clause-moved c =
    let nodes = c.self.inside.nodes in
    let headers = c.self.inside.headers in
    let left = c.relink.new in
    let moved = moved_to_front c.args.node c.args.list in
    let as_many : length left.nodes ≡ nodes.len = omega (arith, c.relink.auto.nodes, c.deref_mut.ensures.len) in
    let as_many_lists : length left.headers ≡ headers.len =
    omega (arith, c.relink.auto.headers, c.deref_mut-2.ensures.len) in
    ap₂ lists_of (with_items_is nodes left.nodes as_many) (with_items_is headers left.headers as_many_lists)
    ∙ (c.relink.ensures.moved
    ∙ (ap₂ (λ (ns : List Node) (hs : List Header). moved (lists_of ns hs)) c.deref_mut.ensures.value
    c.deref_mut-2.ensures.value
    ∙ ap moved c.self.view_is))
