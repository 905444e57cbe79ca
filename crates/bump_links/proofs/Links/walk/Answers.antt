-- Each step finds the node ahead and follows its forward link.
use Rattle.std.proofs.Common.{◌≡◌, ℕ, ◌+◌, ◌<◌, List, length, sym, ap, subst, arith}
use Rattle.std.proofs.lemmas.List.{get_or_read, length-map}
use Rattle.bump_links.specs.declared.chain.Node.{Node}
use Rattle.bump_links.specs.Lists.{Lists, list_at}
use Rattle.bump_links.specs.Chain.{no_node, list_under}
use Rattle.bump_links.specs.Spelled.{lists_of, no_header}
use Rattle.bump_links.proofs.ReadLemmas.{WalksOn, walks_none, walks_in, walks_more, walks_all}
use Rattle.bump_links.proofs.Links.walk.Goals as goal

pub loop-step-init : goal.loop-step-init
loop-step-init c =
    let nodes = c.self.inside.nodes.items in
    let headers = c.self.inside.headers.items in
    let h = c.index-header.result.now in
    let l = c.args.list in
    let Among : Lists → Type 0 = λ s. l < length s.lists in
    let among : l < length headers =
    subst (λ q. l < q) (length-map headers (list_under nodes)) (subst Among (sym c.self.view_is) c.requires) in
    let start = walks_none nodes headers h l c.self.invariant among
    (get_or_read headers l h among c.index-header.ensures no_header) in
    let P : List ℕ → Type 0 = λ q. WalksOn nodes (list_at (lists_of nodes headers) l) h.size q 0 h.head in
    subst P (sym c.in_ok-found.ensures.items) start

pub index-requires : goal.index-requires
index-requires c =
    let inside = walks_in _ _ _ _ _ _ c.loop-step.invariant c.loop-step-test.true in
    omega (arith, inside, c.self.inside.nodes.ok.0)

pub loop-step-preserved : goal.loop-step-preserved
loop-step-preserved c =
    let nodes = c.self.inside.nodes.items in
    let at = c.loop-step.at in
    let inside = walks_in _ _ _ _ _ _ c.loop-step.invariant c.loop-step-test.true in
    let next = ap (λ (q : Node). q.forward) (get_or_read nodes at c.index.result.now inside c.index.ensures no_node) in
    let P : List ℕ → Type 0 =
    λ q. WalksOn nodes (list_at
    (lists_of nodes c.self.inside.headers.items) c.args.list) c.index-header.result.now.size q
    (c.loop-step._step + 1) c.index.result.now.forward in
    subst P (sym c.in_ok-push.ensures.items)
    (walks_more nodes _ _ _ c.loop-step._step at c.index.result.now.forward c.loop-step.invariant
    c.loop-step-test.true next)

pub returns-clause-found : goal.returns-clause-found
returns-clause-found c =
    let P : Lists → Type 0 = λ s. c.loop-step.found.items ≡ list_at s c.args.list in
    subst P c.self.view_is (walks_all _ _ _ _ _ _ c.loop-step.invariant c.loop-step-test.false)
