-- The nodes and headers that were made spell the new lists.
use Rattle.std.proofs.Common.{◌≡◌, ℕ, List, sym, subst}
use Rattle.bump_links.specs.declared.chain.Node.{Node}
use Rattle.bump_links.specs.declared.chain.Header.{Header}
use Rattle.bump_links.specs.Lists.{all_in_first, HoldsEachOnce}
use Rattle.bump_links.specs.Spelled.{IsSpelled, lists_of}
use Rattle.bump_links.proofs.MoveLemmas.{holds_each_once}
use Rattle.bump_links.proofs.AscendingLemmas.{new_nodes, new_headers, new_is_spelled, new_shows}
use Rattle.bump_links.proofs.Links.new.Goals as goal

-- what holds of the nodes and headers of new lists holds of those that were made
of_made : (P : List Node → List Header → Type 0) (count lists first : ℕ) (nodes : List Node) (headers : List Header)
    → nodes ≡ new_nodes count first → headers ≡ new_headers count lists first
    → P (new_nodes count first) (new_headers count lists first) → P nodes headers
of_made P count lists first nodes headers d e p =
    let Q : List Node → Type 0 = λ q. P q (new_headers count lists first) in
    let R : List Header → Type 0 = λ q. P nodes q in
    subst R (sym e) (subst Q (sym d) p)

pub invariant_of-links : goal.invariant_of-links
invariant_of-links c =
    of_made (λ n h. IsSpelled n h) c.args.nodes c.args.lists c.args.first _ _ c.in_ok-ascending_nodes.ensures
    c.in_ok-first_headers.ensures
    (new_is_spelled c.args.nodes c.args.lists c.args.first c.requires.some_nodes c.requires.few_nodes
    c.requires.few_lists c.requires.first)

pub returns-clause-made : goal.returns-clause-made
returns-clause-made c =
    of_made (λ n h. lists_of n h
    ≡ all_in_first c.args.nodes c.args.lists c.args.first) c.args.nodes c.args.lists c.args.first _ _
    c.in_ok-ascending_nodes.ensures c.in_ok-first_headers.ensures
    (new_shows c.args.nodes c.args.lists c.args.first c.requires.some_nodes c.requires.first)

pub returns-clause-each_once : goal.returns-clause-each_once
returns-clause-each_once c =
    of_made (λ n h. HoldsEachOnce (lists_of n h)) c.args.nodes c.args.lists c.args.first _ _
    c.in_ok-ascending_nodes.ensures c.in_ok-first_headers.ensures
    (holds_each_once _ _
    (new_is_spelled c.args.nodes c.args.lists c.args.first c.requires.some_nodes c.requires.few_nodes
    c.requires.few_lists c.requires.first))
