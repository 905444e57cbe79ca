-- The tail is the last element.
use Rattle.std.proofs.Common.{◌≡◌, ℕ, ◌<◌, length, Option, IfSome, sym, ◌∙◌, ap, subst}
use Rattle.std.proofs.lemmas.List.{get_or_read, length-map}
use Rattle.bump_links.specs.declared.chain.Header.{Header}
use Rattle.bump_links.specs.Lists.{Lists, last_of, list_at}
use Rattle.bump_links.specs.Chain.{list_under, node_or_none}
use Rattle.bump_links.specs.Spelled.{no_header, header_at}
use Rattle.bump_links.proofs.ReadLemmas.{last_node_is, link_in, ends_in}
use Rattle.bump_links.proofs.Links.back.Goals as goal

pub returns-clause-last : goal.returns-clause-last
returns-clause-last c =
    let nodes = c.self.inside.nodes.items in
    let headers = c.self.inside.headers.items in
    let l = c.args.list in
    let Among : Lists → Type 0 = λ s. l < length s.lists in
    let among : l < length headers =
    subst (λ q. l < q) (length-map headers (list_under nodes)) (subst Among (sym c.self.view_is) c.requires) in
    let read = get_or_read headers l c.index.result.now among c.index.ensures no_header in
    let Answers : Lists → Type 0 = λ s. c.some_node.result ≡ last_of (list_at s l) in
    subst Answers c.self.view_is
    (c.some_node.ensures ∙ ap (λ (q : Header). node_or_none q.tail) read
    ∙ last_node_is nodes headers l c.self.invariant among)

pub returns-clause-in_range : goal.returns-clause-in_range
returns-clause-in_range c =
    let nodes = c.self.inside.nodes.items in
    let headers = c.self.inside.headers.items in
    let l = c.args.list in
    let Among : Lists → Type 0 = λ s. l < length s.lists in
    let among : l < length headers =
    subst (λ q. l < q) (length-map headers (list_under nodes)) (subst Among (sym c.self.view_is) c.requires) in
    let read = get_or_read headers l c.index.result.now among c.index.ensures no_header in
    let is = c.some_node.ensures ∙ ap (λ (q : Header). node_or_none q.tail) read in
    let InRange : Lists → Type 0 = λ s. IfSome c.some_node.result (λ k. k < s.nodes) in
    let P : Option ℕ → Type 0 = λ q. IfSome q (λ k. k < length nodes) in
    subst InRange c.self.view_is
    (subst P (sym is) (link_in (length nodes) (header_at headers l).tail
    (ends_in nodes headers l c.self.invariant among).tail))
