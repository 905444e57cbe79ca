-- What the readers find in links and headers that spell lists.
use Rattle.std.proofs.Common.{◌≡◌, ◌≢◌, ℕ, suc, ◌+◌, ◌-◌, ◌<◌, ◌≤◌, List, [], ◌∷◌, ◌++◌, length, IfSome, refl, sym, ◌∙◌, ap, subst, arith, inl, inr}
use Rattle.std.specs.List.{AllByRecursion}
use Rattle.std.proofs.Math.Nat.{sub-zero}
use Rattle.std.proofs.lemmas.Bool.Decides.{eqb_tells}
use Rattle.std.proofs.lemmas.List.{append_assoc, append-nil}
use Rattle.bump_links.specs.declared.TheConstants.{NONE}
use Rattle.bump_links.specs.declared.chain.Node.{Node}
use Rattle.bump_links.specs.declared.chain.Header.{Header}
use Rattle.bump_links.specs.Lists.{list_at, times, last_of, next_of, previous_of, IsHeldBy}
use Rattle.bump_links.specs.Chain.{IsMember, forward_of, back_of, list_of, list_under, node_or_none, followed}
use Rattle.bump_links.specs.Spelled.{IsSpelled, lists_of, header_at}
use Rattle.bump_links.proofs.ListsLemmas.{Each-weaker}
use Rattle.bump_links.proofs.ChainLemmas.{Spells-first_has, Spells-last_has, LeadsIn, leads_in, last_of-run, next_of-SpellsList, previous_of-SpellsList, members_apart}
use Rattle.bump_links.proofs.MoveLemmas.{list_at-lists_of, held_by}

-- only the list that its record names holds a node
pub holder_is : (nodes : List Node) (headers : List Header) (n l : ℕ) → IsSpelled nodes headers → n < length nodes
    → IsHeldBy (lists_of nodes headers) n l → l ≡ list_of nodes n
holder_is nodes headers n l inv lt held =
    elim (eqb_tells l (list_of nodes n)) [
      | inl e ↦ e.1
      | inr f ↦
          let none : times n (list_at (lists_of nodes headers) l)
          ≡ 0 = (held_by nodes headers n inv lt).elsewhere l f.1 in
          let once : times n (list_at (lists_of nodes headers) l) ≡ 1 = held.once in
          absurd (omega (arith, none, once))
    ]

-- the forward link of a node leads to what follows it in the list that holds it
pub next_is : (nodes : List Node) (headers : List Header) (n l : ℕ) → IsSpelled nodes headers → n < length nodes
    → IsHeldBy (lists_of nodes headers) n l
    → node_or_none (forward_of nodes n) ≡ next_of n (list_at (lists_of nodes headers) l)
next_is nodes headers n l inv lt held =
    let was = inv.each_node n lt in
    let o = list_of nodes n in
    let P : ℕ → Type 0 = λ q. node_or_none (forward_of nodes n) ≡ next_of n (list_at (lists_of nodes headers) q) in
    subst P (sym (holder_is nodes headers n l inv lt held))
    (next_of-SpellsList nodes o (header_at headers o) n _ inv.few_nodes (inv.each_list o was.0) was.1
    ∙ ap (next_of n) (sym (list_at-lists_of nodes headers o was.0)))

-- and its back link to what it follows there
pub previous_is : (nodes : List Node) (headers : List Header) (n l : ℕ) → IsSpelled nodes headers → n < length nodes
    → IsHeldBy (lists_of nodes headers) n l
    → node_or_none (back_of nodes n) ≡ previous_of n (list_at (lists_of nodes headers) l)
previous_is nodes headers n l inv lt held =
    let was = inv.each_node n lt in
    let o = list_of nodes n in
    let P : ℕ → Type 0 = λ q. node_or_none (back_of nodes n) ≡ previous_of n (list_at (lists_of nodes headers) q) in
    subst P (sym (holder_is nodes headers n l inv lt held))
    (previous_of-SpellsList nodes o (header_at headers o) n _ inv.few_nodes (inv.each_list o was.0) was.1
    ∙ ap (previous_of n) (sym (list_at-lists_of nodes headers o was.0)))

-- the tail of a header is the last of its list
pub last_node_is : (nodes : List Node) (headers : List Header) (l : ℕ) → IsSpelled nodes headers → l < length headers
    → node_or_none (header_at headers l).tail ≡ last_of (list_at (lists_of nodes headers) l)
last_node_is nodes headers l inv lt =
    let s = inv.each_list l lt in
    let h = header_at headers l in
    last_of-run (forward_of nodes) (back_of nodes) NONE h.head (list_under nodes h) h.tail NONE refl s.links
    (members_apart nodes l _ inv.few_nodes s.members)
    ∙ ap last_of (sym (list_at-lists_of nodes headers l lt))

-- a walk of so many steps so far: what was found and what is still ahead make the list, and what is ahead exists
pub record WalksOn (nodes : List Node) (xs : List ℕ) (size : ℕ) (found : List ℕ) (step at : ℕ) : Type 0 where
  pub whole : found ++ followed (forward_of nodes) (size - step) at ≡ xs
  pub ahead : AllByRecursion (λ m. m < length nodes) (followed (forward_of nodes) (size - step) at)

-- a walk begins at the head
pub walks_none : (nodes : List Node) (headers : List Header) (h : Header) (l : ℕ) → IsSpelled nodes headers
    → l < length headers → h ≡ header_at headers l
    → WalksOn nodes (list_at (lists_of nodes headers) l) h.size [] 0 h.head
walks_none nodes headers h l inv lt e =
    let f = forward_of nodes in
    let P : List ℕ → Type 0 = λ q. AllByRecursion (λ m. m < length nodes) q in
    let s = inv.each_list l lt in
    let all : followed f (h.size - 0) h.head ≡ list_under nodes (header_at headers l) =
    ap (λ k. followed f k h.head) (sub-zero h.size) ∙ ap (list_under nodes) e in
    record {
      whole = all ∙ sym (list_at-lists_of nodes headers l lt);
      ahead = subst P (sym all) (Each-weaker (IsMember nodes l) (λ m. m < length nodes) (λ m k. k.0) _ s.members);
    }

-- what is ahead is one node and what its link leads to
ahead_is : (f : ℕ → ℕ) (size step at : ℕ) → step < size
    → followed f (size - step) at ≡ at ∷ followed f (size - (step + 1)) (f at)
ahead_is f size step at lt =
    let e : size - step ≡ suc (size - (step + 1)) = omega arith in
    ap (λ k. followed f k at) e

-- the node ahead exists
pub walks_in : (nodes : List Node) (xs : List ℕ) (size : ℕ) (found : List ℕ) (step at : ℕ)
    → WalksOn nodes xs size found step at → step < size → at < length nodes
walks_in nodes xs size found step at w lt =
    let P : List ℕ → Type 0 = λ q. AllByRecursion (λ m. m < length nodes) q in
    (subst P (ahead_is (forward_of nodes) size step at lt) w.ahead).0

-- a walk goes on along the forward link
pub walks_more : (nodes : List Node) (xs : List ℕ) (size : ℕ) (found : List ℕ) (step at next : ℕ)
    → WalksOn nodes xs size found step at → step < size → next ≡ forward_of nodes at
    → WalksOn nodes xs size (found ++ at ∷ []) (step + 1) next
walks_more nodes xs size found step at next w lt e =
    let P : List ℕ → Type 0 = λ q. AllByRecursion (λ m. m < length nodes) q in
    let f = forward_of nodes in
    let Q : ℕ → Type 0 = λ q. WalksOn nodes xs size (found ++ at ∷ []) (step + 1) q in
    subst Q (sym e) (record {
      whole = append_assoc found (at ∷ []) (followed f (size - (step + 1)) (f at))
          ∙ ap (λ q. found ++ q) (sym (ahead_is f size step at lt)) ∙ w.whole;
      ahead = (subst P (ahead_is f size step at lt) w.ahead).1;
    })

-- a walk of as many steps as the list is long has found the list
pub walks_all : (nodes : List Node) (xs : List ℕ) (size : ℕ) (found : List ℕ) (step at : ℕ)
    → WalksOn nodes xs size found step at → size ≤ step → found ≡ xs
walks_all nodes xs size found step at w le =
    let e : size - step ≡ 0 = omega arith in
    sym (append-nil found) ∙ ap (λ k. found ++ followed (forward_of nodes) k at) (sym e) ∙ w.whole

-- a link that leads in or nowhere answers a node that exists, or none
pub link_in : (count link : ℕ) → (link ≢ NONE → link < count) → IfSome (node_or_none link) (λ n. n < count)
link_in count link h =
    elim (eqb_tells link NONE) [
      | inl e ↦ rw e.0 tt
      | inr f ↦ rw f.0 (h f.1)
    ]

-- the ends of a list lead in or nowhere
pub record EndsIn (count : ℕ) (h : Header) : Type 0 where
  pub head : h.head ≢ NONE → h.head < count
  pub tail : h.tail ≢ NONE → h.tail < count

-- so it is with each header
pub ends_in : (nodes : List Node) (headers : List Header) (l : ℕ) → IsSpelled nodes headers → l < length headers
    → EndsIn (length nodes) (header_at headers l)
ends_in nodes headers l inv lt =
    let s = inv.each_list l lt in
    let h = header_at headers l in
    let In : ℕ → Type 0 = λ q. q ≢ NONE → q < length nodes in
    let inside = Each-weaker (IsMember nodes l) In (λ m e ne. e.0) (list_under nodes h) s.members in
    record {
      head = Spells-first_has (forward_of nodes) (back_of nodes) In NONE h.head (list_under nodes h) h.tail NONE s.links
          (λ e. absurd (e refl)) inside;
      tail = Spells-last_has (forward_of nodes) (back_of nodes) In NONE h.head (list_under nodes h) h.tail NONE s.links
          (λ e. absurd (e refl)) inside;
    }

-- and with the links of each node
pub links_in : (nodes : List Node) (headers : List Header) (n : ℕ) → IsSpelled nodes headers → n < length nodes
    → LeadsIn nodes n
links_in nodes headers n inv lt =
    let was = inv.each_node n lt in
    let o = list_of nodes n in
    leads_in nodes o (header_at headers o) n _ (inv.each_list o was.0) was.1
