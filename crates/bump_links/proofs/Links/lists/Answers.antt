-- There are as many lists as headers.
use Rattle.std.proofs.Common.{length, sym, ◌∙◌, ap}
use Rattle.std.proofs.lemmas.List.{length-map}
use Rattle.bump_links.specs.Lists.{Lists}
use Rattle.bump_links.specs.Chain.{list_under}
use Rattle.bump_links.proofs.Links.lists.Goals as goal

pub returns-clause-count : goal.returns-clause-count
returns-clause-count c =
    let headers = c.self.inside.headers in
    c.len.ensures
    ∙ (headers.ok.0
    ∙ (sym (length-map headers.items (list_under c.self.inside.nodes.items))
    ∙ ap (λ (s : Lists). length s.lists) c.self.view_is))
