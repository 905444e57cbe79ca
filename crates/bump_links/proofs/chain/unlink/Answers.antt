-- The two stores pass the node by, which leaves the list without it spelled.
use Rattle.std.proofs.Common.{◌≡◌, ◌≢◌, ℕ, ◌<◌, ◌≤◌, List, length, get_or, sym, ◌∙◌, ap, subst}
use Rattle.std.proofs.lemmas.List.{get_or_default}
use Rattle.bump_links.specs.declared.TheConstants.{NONE, NODES_MAX}
use Rattle.bump_links.specs.declared.chain.Node.{Node}
use Rattle.bump_links.specs.declared.chain.Header.{Header}
use Rattle.bump_links.specs.Lists.{times}
use Rattle.bump_links.specs.Chain.{node_at, no_node, SpellsList, IsMember}
use Rattle.bump_links.specs.Relink.{LinksForward, LinksBack, header_with_head, with_tail}
use Rattle.bump_links.proofs.ListsLemmas.{Each-at}
use Rattle.bump_links.proofs.ChainLemmas.{PassesBy, SpellsList-removed, KeepsOthers-removed, LeadsIn, leads_in}
use Rattle.bump_links.proofs.chain.unlink.Goals as goal

-- a read of a record that is there
read : (nodes : List Node) (n : ℕ) → n < length nodes
    → get_or nodes n (record { forward = 0; back = 0; list = 0 }) ≡ node_at nodes n
read nodes n lt = get_or_default nodes n (record { forward = 0; back = 0; list = 0 }) no_node lt

-- a node of a list that is spelled is there
there : (nodes : List Node) (l : ℕ) (h : Header) (n : ℕ) (xs : List ℕ) → SpellsList nodes l h xs → times n xs ≡ 1
    → n < length nodes
there nodes l h n xs s once = (Each-at (IsMember nodes l) n xs s.members once).0

pub bounds-nodes-node : goal.bounds-nodes-node
bounds-nodes-node c = there _ _ _ c.args.node _ c.requires.spelled c.requires.held

pub bounds-nodes-node-2 : goal.bounds-nodes-node-2
bounds-nodes-node-2 c = there _ _ _ c.args.node _ c.requires.spelled c.requires.held

pub link_forward-requires : goal.link_forward-requires
link_forward-requires c =
    let nodes = c.args.nodes.now in
    let n = c.args.node in
    let r : LeadsIn nodes n = leads_in _ _ _ n _ c.requires.spelled c.requires.held in
    let P : Node → Type 0 = λ q. q.back ≢ NONE → q.back < length nodes in
    subst P (sym (read nodes n (there _ _ _ n _ c.requires.spelled c.requires.held))) r.back

pub link_back-requires : goal.link_back-requires
link_back-requires c =
    let nodes = c.args.nodes.now in
    let n = c.args.node in
    let r : LeadsIn nodes n = leads_in _ _ _ n _ c.requires.spelled c.requires.held in
    let P : Node → Type 0 = λ q. q.forward ≢ NONE → q.forward < length c.link_forward.new.nodes in
    subst P (sym (read nodes n (there _ _ _ n _ c.requires.spelled c.requires.held)))
    (λ e. subst (λ k. (node_at nodes n).forward < k) (sym c.link_forward.ensures.len) (r.forward e))

-- the two stores pass the node by, where z is its record as it was read
passes_by : (nodes nodes1 nodes2 : List Node) (h h1 h2 : Header) (n : ℕ) (z : Node) → z ≡ node_at nodes n
    → length nodes ≤ NODES_MAX → length nodes1 ≡ length nodes → length nodes2 ≡ length nodes1
    → LinksForward nodes nodes1 z.back z.forward → h1 ≡ header_with_head h z.back z.forward
    → LinksBack nodes1 nodes2 z.forward z.back → h2 ≡ with_tail h1 z.forward z.back
    → PassesBy nodes nodes1 nodes2 h h2 n
passes_by nodes nodes1 nodes2 h h1 h2 n z e few len1 len2 forward head back tail =
    let P : Node → Type 0 = λ q. LinksForward nodes nodes1 q.back q.forward in
    let Q : Node → Type 0 = λ q. LinksBack nodes1 nodes2 q.forward q.back in
    let R : Node → Type 0 = λ q. h2 ≡ with_tail (header_with_head h q.back q.forward) q.forward q.back in
    record {
      few = few;
      len1 = len1;
      len2 = len2;
      forward = subst P e forward;
      back = subst Q e back;
      header = subst R e (tail ∙ ap (λ q. with_tail q z.forward z.back) head);
    }

pub returns-clause-spelled : goal.returns-clause-spelled
returns-clause-spelled c =
    let nodes = c.args.nodes.now in
    let n = c.args.node in
    let passes =
    passes_by nodes c.link_forward.new.nodes c.link_back.new.nodes c.args.header.now c.link_forward.new.header
    c.link_back.new.header n _ (read nodes n (there _ _ _ n _ c.requires.spelled c.requires.held)) c.requires.few
    c.link_forward.ensures.len c.link_back.ensures.len c.link_forward.ensures.nodes c.link_forward.ensures.header
    c.link_back.ensures.nodes c.link_back.ensures.header in
    SpellsList-removed nodes c.link_forward.new.nodes c.link_back.new.nodes _ c.args.header.now c.link_back.new.header
    n _
    passes c.requires.spelled c.requires.held

pub returns-clause-others : goal.returns-clause-others
returns-clause-others c =
    let nodes = c.args.nodes.now in
    let n = c.args.node in
    let passes =
    passes_by nodes c.link_forward.new.nodes c.link_back.new.nodes c.args.header.now c.link_forward.new.header
    c.link_back.new.header n _ (read nodes n (there _ _ _ n _ c.requires.spelled c.requires.held)) c.requires.few
    c.link_forward.ensures.len c.link_back.ensures.len c.link_forward.ensures.nodes c.link_forward.ensures.header
    c.link_back.ensures.nodes c.link_back.ensures.header in
    KeepsOthers-removed nodes c.link_forward.new.nodes c.link_back.new.nodes _ c.args.header.now
    c.link_back.new.header n _
    passes c.requires.spelled c.requires.held
