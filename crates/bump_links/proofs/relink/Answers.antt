-- The two steps are those of a move, read through the records that the code found.
use Rattle.std.proofs.Common.{◌≡◌, ℕ, ◌<◌, ◌∷◌, List, length, get_or, set, sym, ◌∙◌, ap, subst}
use Rattle.std.proofs.lemmas.List.{length-set, get_or_default}
use Rattle.bump_links.specs.declared.chain.Node.{Node}
use Rattle.bump_links.specs.declared.chain.Header.{Header}
use Rattle.bump_links.specs.Lists.{without, moved_to_front, HoldsEachOnce}
use Rattle.bump_links.specs.Chain.{no_node, list_of, list_under, SpellsList, KeepsOthers}
use Rattle.bump_links.specs.Spelled.{IsSpelled, lists_of, header_at, no_header}
use Rattle.bump_links.proofs.MoveLemmas.{Moves, ready_for, moved_is_spelled, moved_shows, holds_each_once}
use Rattle.bump_links.proofs.relink.Goals as goal

-- the list that the code read is the one that the record names
from_is : (nodes : List Node) (n : ℕ) → n < length nodes
    → (get_or nodes n (record { forward = 0; back = 0; list = 0 })).list ≡ list_of nodes n
from_is nodes n lt = ap (λ (q : Node). q.list) (get_or_default nodes n (record {
  forward = 0;
  back = 0;
  list = 0;
}) no_node lt)

-- the header that the code lends is that of the list
header_is : (headers : List Header) (l o : ℕ) → l ≡ o → o < length headers
    → get_or headers l (record { head = 0; tail = 0; size = 0 }) ≡ header_at headers o
header_is headers l o e lt =
    ap (λ q. get_or headers q (record { head = 0; tail = 0; size = 0 })) e
    ∙ get_or_default headers o (record { head = 0; tail = 0; size = 0 }) no_header lt

-- the target's header as the code lends it
target_is : (headers : List Header) (l o t : ℕ) (h : Header) → l ≡ o → t < length headers
    → get_or (set headers l h) t (record { head = 0; tail = 0; size = 0 }) ≡ header_at (set headers o h) t
target_is headers l o t h e lt =
    ap (λ q. get_or (set headers q h) t (record { head = 0; tail = 0; size = 0 })) e
    ∙ get_or_default (set headers o h) t (record { head = 0; tail = 0; size = 0 }) no_header
    (subst (λ q. t < q) (sym (length-set headers o h)) lt)

-- what is spelled by the header that the code lends
taken_is : (nodes nodes1 : List Node) (headers : List Header) (h1 : Header) (n o : ℕ) → o ≡ list_of nodes n
    → list_of nodes n < length headers
    → SpellsList nodes1 (list_of nodes n) h1 (without n (list_under nodes (get_or headers o (record {
      head = 0;
      tail = 0;
      size = 0;
    }))))
    → SpellsList nodes1 (list_of nodes n) h1 (without n (list_under nodes (header_at headers (list_of nodes n))))
taken_is nodes nodes1 headers h1 n o e lt s =
    let P : Header → Type 0 = λ q. SpellsList nodes1 (list_of nodes n) h1 (without n (list_under nodes q)) in
    subst P (header_is headers o (list_of nodes n) e lt) s

pub put_front-requires-clause-spelled : goal.put_front-requires-clause-spelled
put_front-requires-clause-spelled c =
    let nodes = c.args.nodes.now in
    let headers = c.args.headers.now in
    let n = c.args.node in
    let inv = c.requires.spelled in
    let from = from_is nodes n c.requires.node in
    let lt = (inv.each_node n c.requires.node).0 in
    (ready_for nodes c.unlink.new.nodes headers c.unlink.new.header _ n c.args.list inv c.requires.list
    (taken_is nodes c.unlink.new.nodes headers c.unlink.new.header n _ from lt c.unlink.ensures.spelled)
    c.unlink.ensures.others
    (target_is headers _ (list_of nodes n) c.args.list c.unlink.new.header from c.requires.list)).0

pub put_front-requires-clause-free : goal.put_front-requires-clause-free
put_front-requires-clause-free c =
    let nodes = c.args.nodes.now in
    let headers = c.args.headers.now in
    let n = c.args.node in
    let inv = c.requires.spelled in
    let from = from_is nodes n c.requires.node in
    let lt = (inv.each_node n c.requires.node).0 in
    (ready_for nodes c.unlink.new.nodes headers c.unlink.new.header _ n c.args.list inv c.requires.list
    (taken_is nodes c.unlink.new.nodes headers c.unlink.new.header n _ from lt c.unlink.ensures.spelled)
    c.unlink.ensures.others
    (target_is headers _ (list_of nodes n) c.args.list c.unlink.new.header from c.requires.list)).1

-- the two steps make a move
moves : (nodes nodes1 nodes2 : List Node) (headers : List Header) (h1 h2 : Header) (n t o : ℕ)
    → IsSpelled nodes headers → n < length nodes → t < length headers → o ≡ list_of nodes n
    → SpellsList nodes1 (list_of nodes n) h1 (without n (list_under nodes (get_or headers o (record {
      head = 0;
      tail = 0;
      size = 0;
    }))))
    → KeepsOthers nodes nodes1 (list_of nodes n) n
    → SpellsList nodes2 t h2 (n ∷ list_under nodes1 (get_or (set headers o h1) t (record {
      head = 0;
      tail = 0;
      size = 0;
    })))
    → KeepsOthers nodes1 nodes2 t n
    → Moves nodes nodes1 nodes2 headers h1 h2 n t
moves nodes nodes1 nodes2 headers h1 h2 n t o inv node target e taken kept put kept_on =
    let P : Header → Type 0 = λ q. SpellsList nodes2 t h2 (n ∷ list_under nodes1 q) in
    record {
      before = inv;
      node = node;
      target = target;
      taken = taken_is nodes nodes1 headers h1 n o e (inv.each_node n node).0 taken;
      kept = kept;
      put = subst P (target_is headers o (list_of nodes n) t h1 e target) put;
      kept_on = kept_on;
    }

pub returns-clause-spelled : goal.returns-clause-spelled
returns-clause-spelled c =
    let nodes = c.args.nodes.now in
    let headers = c.args.headers.now in
    let n = c.args.node in
    let nodes2 = c.put_front.new.nodes in
    let from = from_is nodes n c.requires.node in
    let m = moves nodes c.unlink.new.nodes nodes2 headers c.unlink.new.header c.put_front.new.header n c.args.list _
    c.requires.spelled c.requires.node c.requires.list from c.unlink.ensures.spelled c.unlink.ensures.others
    c.put_front.ensures.spelled c.put_front.ensures.others in
    let P : ℕ → Type 0 = λ q. IsSpelled nodes2
    (set (set headers q c.unlink.new.header) c.args.list c.put_front.new.header) in
    subst P (sym from)
    (moved_is_spelled nodes c.unlink.new.nodes nodes2 headers c.unlink.new.header c.put_front.new.header n c.args.list
    m)

pub returns-clause-each_once : goal.returns-clause-each_once
returns-clause-each_once c =
    let nodes = c.args.nodes.now in
    let headers = c.args.headers.now in
    let n = c.args.node in
    let nodes2 = c.put_front.new.nodes in
    let from = from_is nodes n c.requires.node in
    let m = moves nodes c.unlink.new.nodes nodes2 headers c.unlink.new.header c.put_front.new.header n c.args.list _
    c.requires.spelled c.requires.node c.requires.list from c.unlink.ensures.spelled c.unlink.ensures.others
    c.put_front.ensures.spelled c.put_front.ensures.others in
    let P : ℕ → Type 0 = λ q. HoldsEachOnce (lists_of nodes2
    (set (set headers q c.unlink.new.header) c.args.list c.put_front.new.header)) in
    subst P (sym from)
    (holds_each_once nodes2 _
    (moved_is_spelled nodes c.unlink.new.nodes nodes2 headers c.unlink.new.header c.put_front.new.header n c.args.list
    m))

pub returns-clause-moved : goal.returns-clause-moved
returns-clause-moved c =
    let nodes = c.args.nodes.now in
    let headers = c.args.headers.now in
    let n = c.args.node in
    let nodes2 = c.put_front.new.nodes in
    let from = from_is nodes n c.requires.node in
    let m = moves nodes c.unlink.new.nodes nodes2 headers c.unlink.new.header c.put_front.new.header n c.args.list _
    c.requires.spelled c.requires.node c.requires.list from c.unlink.ensures.spelled c.unlink.ensures.others
    c.put_front.ensures.spelled c.put_front.ensures.others in
    let P : ℕ → Type 0 =
    λ q. lists_of nodes2 (set (set headers q c.unlink.new.header) c.args.list c.put_front.new.header)
    ≡ moved_to_front n c.args.list (lists_of nodes headers) in
    subst P (sym from)
    (moved_shows nodes c.unlink.new.nodes nodes2 headers c.unlink.new.header c.put_front.new.header n c.args.list m)
