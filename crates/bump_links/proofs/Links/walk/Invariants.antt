-- What was found and what lies ahead make the list.
use Rattle.bump_links.specs.Lists.{list_at}
use Rattle.bump_links.specs.Spelled.{lists_of}
use Rattle.bump_links.proofs.ReadLemmas.{WalksOn}
use Rattle.bump_links.proofs.Links.walk.Given as goal

abbrev pub invariant-loop-step : goal.invariant-loop-step
invariant-loop-step l =
    WalksOn l.self-inside.nodes.items (list_at (lists_of l.self-inside.nodes.items l.self-inside.headers.items) l.list)
    l._step-end l.found.items l._step l.at
