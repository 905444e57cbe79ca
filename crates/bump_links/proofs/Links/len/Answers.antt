-- The size of a header counts the nodes of its list.
use Rattle.std.proofs.Common.{◌<◌, length, sym, ◌∙◌, ap, subst}
use Rattle.std.proofs.lemmas.List.{get_or_read, length-map}
use Rattle.bump_links.specs.declared.chain.Header.{Header}
use Rattle.bump_links.specs.Lists.{Lists, list_at}
use Rattle.bump_links.specs.Chain.{list_under}
use Rattle.bump_links.specs.Spelled.{no_header}
use Rattle.bump_links.proofs.MoveLemmas.{list_at-lists_of}
use Rattle.bump_links.proofs.Links.len.Goals as goal

pub returns : goal.returns
returns c =
    let nodes = c.self.inside.nodes.items in
    let headers = c.self.inside.headers.items in
    let l = c.args.list in
    let Among : Lists → Type 0 = λ s. l < length s.lists in
    let among : l < length headers =
    subst (λ q. l < q) (length-map headers (list_under nodes)) (subst Among (sym c.self.view_is) c.requires) in
    let read = get_or_read headers l c.index.result.now among c.index.ensures no_header in
    ap (λ (q : Header). q.size) read
    ∙ ((c.self.invariant.each_list l among).size
    ∙ (ap length (sym (list_at-lists_of nodes headers l among))
    ∙ ap (λ (s : Lists). length (list_at s l)) c.self.view_is))
