-- The links spell the lists, so each node stands in one of them once.
use Rattle.std.proofs.Common.{◌∙◌, ap, subst}
use Rattle.bump_links.specs.Lists.{Lists, HoldsEachOnce}
use Rattle.bump_links.proofs.MoveLemmas.{holds_each_once}
use Rattle.bump_links.proofs.Links.nodes.Goals as goal

pub returns-clause-each_once : goal.returns-clause-each_once
returns-clause-each_once c =
    subst HoldsEachOnce c.self.view_is
    (holds_each_once c.self.inside.nodes.items c.self.inside.headers.items c.self.invariant)

pub returns-clause-count : goal.returns-clause-count
returns-clause-count c =
    c.len.ensures ∙ (c.self.inside.nodes.ok.0 ∙ ap (λ (s : Lists). s.nodes) c.self.view_is)
