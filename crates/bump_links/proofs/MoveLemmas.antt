-- What a move to the front leaves of all the lists.
use Rattle.std.proofs.Common.{◌≡◌, ◌≢◌, ℕ, zero, suc, ◌<◌, ◌≤◌, Bool, cond, eqb, List, [], ◌∷◌, length, get_or, set, map, refl, sym, ◌∙◌, ap, subst, inl, inr}
use Rattle.std.specs.List.{AllByRecursion}
use Rattle.std.proofs.lemmas.Bool.{ne_eqb, eq-eqb, cases_lt}
use Rattle.std.proofs.lemmas.Bool.Decides.{eqb_tells}
use Rattle.std.proofs.lemmas.List.Elements.{All-from_recursion}
use Rattle.std.proofs.lemmas.List.{length-set, length-map, get_or-set_same, get_or-set_other, get_or-map, get_or_past, ext_get_or}
use Rattle.bump_links.specs.declared.TheConstants.{NONE, NODES_MAX, LISTS_MAX}
use Rattle.bump_links.specs.declared.chain.Node.{Node}
use Rattle.bump_links.specs.declared.chain.Header.{Header}
use Rattle.bump_links.specs.Lists.{Lists, list_at, times, without, put_before, moved_to_front, IsHeldBy, HoldsEachOnce}
use Rattle.bump_links.specs.Chain.{SpellsChain, AllDiffer, SpellsList, IsMember, KeepsOthers, IsKept, forward_of, back_of, list_of, list_under, followed}
use Rattle.bump_links.specs.Spelled.{IsSpelled, lists_of, header_at, no_header}
use Rattle.bump_links.proofs.ListsLemmas.{Each-weaker, Each-both, Each-at, apart-from_times, times-apart, without-absent, times-without_other, times-without_same}
use Rattle.bump_links.proofs.SpellsLemmas.{Spells-kept, followed-Spells}
use Rattle.bump_links.proofs.ChainLemmas.{exists_apart}

-- the list that is spelled is the one that the forward links lead through
pub list_under-is : (nodes : List Node) (l : ℕ) (h : Header) (xs : List ℕ) → SpellsList nodes l h xs
    → list_under nodes h ≡ xs
list_under-is nodes l h xs s =
    ap (λ k. followed (forward_of nodes) k h.head) s.size
    ∙ followed-Spells (forward_of nodes) (back_of nodes) NONE h.head xs h.tail NONE s.links

-- a list whose nodes keep their records stays spelled
pub SpellsList-kept : (old new : List Node) (l : ℕ) (h : Header) (xs : List ℕ) → length new ≡ length old
    → AllByRecursion (IsKept old new) xs → SpellsList old l h xs → SpellsList new l h xs
SpellsList-kept old new l h xs len kept s = record {
  links = Spells-kept (forward_of old) (back_of old) (forward_of new) (back_of new) NONE h.head xs h.tail NONE
      (Each-weaker (IsKept old new) (λ m. (forward_of new m ≡ forward_of old m) × (back_of new m ≡ back_of old m))
      (λ m e. (e.0, e.1)) xs kept) s.links;
  size = s.size;
  distinct = s.distinct;
  members = Each-both (IsKept old new) (IsMember old l) (IsMember new l)
      (λ m k e. (subst (λ q. m < q) (sym len) e.0, k.2 ∙ e.1)) xs kept s.members;
}

-- another list stays spelled where only `l` and n change
pub SpellsList-other : (old new : List Node) (l k : ℕ) (h : Header) (n : ℕ) (xs : List ℕ) → KeepsOthers old new l n
    → k ≢ l → AllByRecursion (λ m. m ≢ n) xs → SpellsList old k h xs → SpellsList new k h xs
SpellsList-other old new l k h n xs c ne apart s =
    SpellsList-kept old new k h xs c.len
    (Each-both (IsMember old k) (λ m. m ≢ n) (IsKept old new)
    (λ m e d. c.records m e.0 d (λ at. ne (sym e.1 ∙ at))) xs s.members apart) s

-- a node that another list holds does not stand in this one
pub apart_from_other : (nodes : List Node) (l : ℕ) (h : Header) (n : ℕ) (xs : List ℕ) → SpellsList nodes l h xs
    → list_of nodes n ≢ l → AllByRecursion (λ m. m ≢ n) xs
apart_from_other nodes l h n xs s other =
    Each-weaker (IsMember nodes l) (λ m. m ≢ n) (λ m e at. other (ap (list_of nodes) (sym at) ∙ e.1)) xs s.members

-- all lists once the node has been taken out of its own
pub taken_out : (nodes nodes1 : List Node) (headers : List Header) (h1 : Header) (n l : ℕ)
    → IsSpelled nodes headers → l < length headers
    → SpellsList nodes1 (list_of nodes n) h1 (without n (list_under nodes (header_at headers (list_of nodes n))))
    → KeepsOthers nodes nodes1 (list_of nodes n) n
    → SpellsList nodes1 l (header_at (set headers (list_of nodes n) h1) l) (without n (list_under nodes
    (header_at headers l)))
taken_out nodes nodes1 headers h1 n l inv lt s c =
    let o = list_of nodes n in
    let P : Header → Type 0 = λ q. SpellsList nodes1 l q (without n (list_under nodes (header_at headers l))) in
    elim (eqb_tells l o) [
      | inl t ↦
          let at : header_at (set headers o h1) l ≡ h1 =
          ap (λ q. header_at (set headers q h1) l) (sym t.1) ∙ get_or-set_same headers l h1 no_header lt in
          let Q : ℕ → Type 0 = λ q. SpellsList nodes1 q h1 (without n (list_under nodes (header_at headers q))) in
          subst P (sym at) (subst Q (sym t.1) s)
      | inr f ↦
          let was = inv.each_list l lt in
          let xs = list_under nodes (header_at headers l) in
          let apart = apart_from_other nodes l (header_at headers l) n xs was (λ e. f.1 (sym e)) in
          let R : List ℕ → Type 0 = λ q. SpellsList nodes1 l (header_at headers l) q in
          subst P (sym (get_or-set_other headers o l h1 no_header f.1))
          (subst R (sym (without-absent n xs apart))
          (SpellsList-other nodes nodes1 o l (header_at headers l) n xs c f.1 apart was))
    ]

-- a list after a move: with the node in front where it is the target, without it elsewhere
abbrev pub moved_list : ℕ → ℕ → ℕ → List ℕ → List ℕ
moved_list n t l xs = cond (eqb l t) (n ∷ without n xs) (without n xs)

-- what is known of the nodes and headers before and after a move
pub record Moves (nodes nodes1 nodes2 : List Node) (headers : List Header) (h1 h2 : Header) (n t : ℕ) : Type 0 where
  pub before : IsSpelled nodes headers
  pub node : n < length nodes
  pub target : t < length headers
  pub taken : SpellsList nodes1 (list_of nodes n) h1 (without n (list_under nodes (header_at headers
      (list_of nodes n))))
  pub kept : KeepsOthers nodes nodes1 (list_of nodes n) n
  pub put : SpellsList nodes2 t h2 (n ∷ list_under nodes1 (header_at (set headers (list_of nodes n) h1) t))
  pub kept_on : KeepsOthers nodes1 nodes2 t n

-- each list after a move
pub moved_spelled : (nodes nodes1 nodes2 : List Node) (headers : List Header) (h1 h2 : Header) (n t l : ℕ)
    → Moves nodes nodes1 nodes2 headers h1 h2 n t → l < length headers
    → SpellsList nodes2 l (header_at (set (set headers (list_of nodes n) h1) t h2) l)
    (moved_list n t l (list_under nodes (header_at headers l)))
moved_spelled nodes nodes1 nodes2 headers h1 h2 n t l m lt =
    let headers1 = set headers (list_of nodes n) h1 in
    let xs = list_under nodes (header_at headers l) in
    let out = taken_out nodes nodes1 headers h1 n l m.before lt m.taken m.kept in
    let len : length headers1 ≡ length headers = length-set headers (list_of nodes n) h1 in
    let P : Header → Type 0 = λ q. SpellsList nodes2 l q (moved_list n t l xs) in
    elim (eqb_tells l t) [
      | inl e ↦
          let lt1 : l < length headers1 = subst (λ q. l < q) (sym len) lt in
          let at : header_at (set headers1 t h2) l ≡ h2 =
          ap (λ q. header_at (set headers1 q h2) l) (sym e.1) ∙ get_or-set_same headers1 l h2 no_header lt1 in
          let Q : ℕ → Type 0 = λ q. SpellsList nodes2 q h2 (n ∷ list_under nodes1 (header_at headers1 q)) in
          let R : List ℕ → Type 0 = λ q. SpellsList nodes2 l h2 (n ∷ q) in
          let S : Bool → Type 0 = λ q. SpellsList nodes2 l h2 (cond q (n ∷ without n xs) (without n xs)) in
          subst P (sym at)
          (subst S (sym e.0) (subst R (list_under-is nodes1 l (header_at headers1 l) (without n xs) out)
          (subst Q (sym e.1) m.put)))
      | inr f ↦
          let S : Bool → Type 0 = λ q. SpellsList nodes2 l (header_at headers1 l) (cond q (n ∷ without n xs)
          (without n xs)) in
          subst P (sym (get_or-set_other headers1 t l h2 no_header f.1))
          (subst S (sym f.0)
          (SpellsList-other nodes1 nodes2 t l (header_at headers1 l) n (without n xs) m.kept_on f.1
          (apart-from_times n (without n xs) (times-without_same n xs)) out))
    ]

-- a node stands in a list after the move as often as before, unless it is the one that moved
times-moved_list : (n t l m : ℕ) (xs : List ℕ) → m ≢ n → times m (moved_list n t l xs) ≡ times m xs
times-moved_list n t l m xs ne =
    let put : times m (n ∷ without n xs) ≡ times m xs =
    rw (ne_eqb n m (λ e. ne (sym e))) (times-without_other m n xs ne) in
    elim (eqb_tells l t) [
      | inl e ↦ rw e.0 put
      | inr f ↦ rw f.0 (times-without_other m n xs ne)
    ]

-- the node that moved stands once in the target list
times-moved_target : (n t : ℕ) (xs : List ℕ) → times n (moved_list n t t xs) ≡ 1
times-moved_target n t xs =
    rw (eq-eqb t t refl, eq-eqb n n refl) (ap suc (times-without_same n xs))

-- after a move the nodes and headers spell lists again
pub moved_is_spelled : (nodes nodes1 nodes2 : List Node) (headers : List Header) (h1 h2 : Header) (n t : ℕ)
    → Moves nodes nodes1 nodes2 headers h1 h2 n t
    → IsSpelled nodes2 (set (set headers (list_of nodes n) h1) t h2)
moved_is_spelled nodes nodes1 nodes2 headers h1 h2 n t m =
    let headers2 = set (set headers (list_of nodes n) h1) t h2 in
    let len : length headers2 ≡ length headers =
    length-set (set headers (list_of nodes n) h1) t h2 ∙ length-set headers (list_of nodes n) h1 in
    let len_nodes : length nodes2 ≡ length nodes = m.kept_on.len ∙ m.kept.len in
    let spelled = λ (l : ℕ) (lt : l < length headers). moved_spelled nodes nodes1 nodes2 headers h1 h2 n t l m lt in
    let Held : ℕ → ℕ → Type 0 =
    λ k l. (l < length headers2) × (times k (list_under nodes2 (header_at headers2 l)) ≡ 1) in
    let held : (k l : ℕ) → l < length headers → times k (moved_list n t l (list_under nodes (header_at headers l))) ≡ 1
    → Held k (list_of nodes2 k) =
    λ k l lt once.
    let s = spelled l lt in
    let xs = moved_list n t l (list_under nodes (header_at headers l)) in
    let is_listed : list_of nodes2 k ≡ l = (Each-at (IsMember nodes2 l) k xs s.members once).1 in
    let here : Held k l = (
      subst (λ q. l < q) (sym len) lt,
      ap (times k) (list_under-is nodes2 l (header_at headers2 l) xs s) ∙ once,
    ) in
    subst (Held k) (sym is_listed) here in
    record {
      few_nodes = subst (λ q. q ≤ NODES_MAX) (sym len_nodes) m.before.few_nodes;
      few_lists = subst (λ q. q ≤ LISTS_MAX) (sym len) m.before.few_lists;
      each_list = λ l lt.
          let s = spelled l (subst (λ q. l < q) len lt) in
          let P : List ℕ → Type 0 = λ q. SpellsList nodes2 l (header_at headers2 l) q in
          subst P (sym (list_under-is nodes2 l (header_at headers2 l) _ s)) s;
      each_node = λ k lt.
          elim (eqb_tells k n) [
            | inl e ↦ held k t m.target
                (subst (λ q. times q (moved_list n t t (list_under nodes (header_at headers t))) ≡ 1) (sym e.1)
                (times-moved_target n t (list_under nodes (header_at headers t))))
            | inr f ↦
                let was = m.before.each_node k (subst (λ q. k < q) len_nodes lt) in
                held k (list_of nodes k) was.0
                (times-moved_list n t (list_of nodes k) k (list_under nodes (header_at headers (list_of nodes k))) f.1
                ∙ was.1)
          ];
    }

-- lists that are those of a move, one by one, are the lists that were moved
pub moved_lists_are : (ls moved : List (List ℕ)) (n t : ℕ) → t < length ls → length moved ≡ length ls
    → ((l : ℕ) → l < length ls → get_or moved l [] ≡ moved_list n t l (get_or ls l []))
    → moved ≡ put_before n t (map (without n) ls)
moved_lists_are ls moved n t lt len each =
    let without_n = map (without n) ls in
    let len_map : length without_n ≡ length ls = length-map ls (without n) in
    let len_put : length (put_before n t without_n) ≡ length ls = length-set without_n t _ ∙ len_map in
    let at : (l : ℕ) → l < length ls → get_or without_n l [] ≡ without n (get_or ls l []) =
    λ l below. get_or-map (without n) ls l [] [] below in
    ext_get_or [] moved (put_before n t without_n) (len ∙ sym len_put)
    (λ l below.
    let in_ls : l < length ls = subst (λ q. l < q) len below in
    each l in_ls ∙
    elim (eqb_tells l t) as (λ _. moved_list n t l (get_or ls l []) ≡ get_or (put_before n t without_n) l []) [
      | inl e ↦
          let in_map : l < length without_n = subst (λ q. l < q) (sym len_map) in_ls in
          let put : get_or (set without_n l (n ∷ get_or without_n l [])) l [] ≡ n ∷ without n (get_or ls l []) =
          get_or-set_same without_n l (n ∷ get_or without_n l []) [] in_map ∙ ap (λ q. n ∷ q) (at l in_ls) in
          rw e.0 (sym (ap (λ q. get_or (put_before n q without_n) l []) (sym e.1) ∙ put))
      | inr f ↦
          rw f.0 (sym (get_or-set_other without_n t l (n ∷ get_or without_n t []) [] f.1 ∙ at l in_ls))
    ])

-- a list of those, by its header
pub list_at-lists_of : (nodes : List Node) (headers : List Header) (l : ℕ) → l < length headers
    → list_at (lists_of nodes headers) l ≡ list_under nodes (header_at headers l)
list_at-lists_of nodes headers l lt = get_or-map (list_under nodes) headers l no_header [] lt

-- what the links show after a move is the move of what they showed
pub moved_shows : (nodes nodes1 nodes2 : List Node) (headers : List Header) (h1 h2 : Header) (n t : ℕ)
    → Moves nodes nodes1 nodes2 headers h1 h2 n t
    → lists_of nodes2 (set (set headers (list_of nodes n) h1) t h2) ≡ moved_to_front n t (lists_of nodes headers)
moved_shows nodes nodes1 nodes2 headers h1 h2 n t m =
    let headers2 = set (set headers (list_of nodes n) h1) t h2 in
    let len : length headers2 ≡ length headers =
    length-set (set headers (list_of nodes n) h1) t h2 ∙ length-set headers (list_of nodes n) h1 in
    let len_nodes : length nodes2 ≡ length nodes = m.kept_on.len ∙ m.kept.len in
    let ls = map (list_under nodes) headers in
    let moved = map (list_under nodes2) headers2 in
    let len_ls : length ls ≡ length headers = length-map headers (list_under nodes) in
    let same : moved ≡ put_before n t (map (without n) ls) =
    moved_lists_are ls moved n t (subst (λ q. t < q) (sym len_ls) m.target)
    (length-map headers2 (list_under nodes2) ∙ len ∙ sym len_ls)
    (λ l below.
    let lt : l < length headers = subst (λ q. l < q) len_ls below in
    list_at-lists_of nodes2 headers2 l (subst (λ q. l < q) (sym len) lt)
    ∙ list_under-is nodes2 l (header_at headers2 l) _ (moved_spelled nodes nodes1 nodes2 headers h1 h2 n t l m lt)
    ∙ ap (moved_list n t l) (sym (list_at-lists_of nodes headers l lt))) in
    let A : ℕ → List (List ℕ) → Lists = λ k q. record { nodes = k; lists = q } in
    ap (λ k. A k moved) len_nodes ∙ ap (A (length nodes)) same

-- a node is held by the list that its record names
pub held_by : (nodes : List Node) (headers : List Header) (n : ℕ) → IsSpelled nodes headers → n < length nodes
    → IsHeldBy (lists_of nodes headers) n (list_of nodes n)
held_by nodes headers n inv lt =
    let was = inv.each_node n lt in
    let l = list_of nodes n in
    record {
      listed = subst (λ q. l < q) (sym (length-map headers (list_under nodes))) was.0;
      once = ap (times n) (list_at-lists_of nodes headers l was.0) ∙ was.1;
      elsewhere = λ k ne.
          elim (cases_lt k (length headers)) as (λ _. times n (list_at (lists_of nodes headers) k) ≡ 0) [
            | inl below ↦
                ap (times n) (list_at-lists_of nodes headers k below)
                ∙ times-apart n (list_under nodes (header_at headers k))
                (apart_from_other nodes k (header_at headers k) n _ (inv.each_list k below) (λ e. ne (sym e)))
            | inr past ↦
                ap (times n) (get_or_past (map (list_under nodes) headers) k []
                (subst (λ q. q ≤ k) (sym (length-map headers (list_under nodes))) past))
          ];
    }

-- each node of a list exists
pub nodes_there : (nodes : List Node) (headers : List Header) (l : ℕ) → IsSpelled nodes headers
    → AllByRecursion (λ m. m < length nodes) (list_at (lists_of nodes headers) l)
nodes_there nodes headers l inv =
    let P : List ℕ → Type 0 = λ q. AllByRecursion (λ m. m < length nodes) q in
    elim (cases_lt l (length headers)) [
      | inl below ↦
          subst P (sym (list_at-lists_of nodes headers l below))
          (Each-weaker (IsMember nodes l) (λ m. m < length nodes) (λ m e. e.0) _ (inv.each_list l below).members)
      | inr past ↦
          subst P (sym (get_or_past (map (list_under nodes) headers) l []
          (subst (λ q. q ≤ l) (sym (length-map headers (list_under nodes))) past))) tt
    ]

-- each node is held by one list
pub holds_each_once : (nodes : List Node) (headers : List Header) → IsSpelled nodes headers
    → HoldsEachOnce (lists_of nodes headers)
holds_each_once nodes headers inv = record {
  only_nodes = λ l. All-from_recursion (λ m. m < length nodes) (list_at (lists_of nodes headers) l)
      (nodes_there nodes headers l inv);
  holder = λ n lt. (list_of nodes n, held_by nodes headers n inv lt);
}

-- a list of this length that is followed from a node begins with it, and its other elements differ
begins : (k : ℕ) (f b : ℕ → ℕ) (head tail n : ℕ) (nodes : List Node) (l : ℕ)
    → SpellsChain f b NONE head (followed f k head) tail NONE → AllDiffer (followed f k head)
    → AllByRecursion (IsMember nodes l) (followed f k head) → n ≢ NONE → head ≡ n
    → (followed f k head ≡ n ∷ without n (followed f k head)) × (list_of nodes n ≡ l)
begins zero f b head tail n nodes l s d a ne at = absurd (ne (sym at ∙ s.0))
begins (suc k) f b head tail n nodes l s d a ne at =
    let ys = followed f k (f head) in
    let apart : AllByRecursion (λ m. m ≢ n) ys = Each-weaker (λ m. m ≢ head) (λ m. m ≢ n) (λ m e is. e (is
    ∙ sym at)) ys d.0 in (
      ap (λ q. q ∷ ys) at ∙ rw (eq-eqb head n at) (ap (λ q. n ∷ q) (sym (without-absent n ys apart))),
      ap (list_of nodes) (sym at) ∙ a.0.1,
    )

-- a list whose head is a node begins with it, stays as it is when it is put in front again, and holds it
pub begins_with : (nodes : List Node) (l : ℕ) (h : Header) (n : ℕ) → SpellsList nodes l h (list_under nodes h)
    → n ≢ NONE
    → h.head ≡ n → (list_under nodes h ≡ n ∷ without n (list_under nodes h)) × (list_of nodes n ≡ l)
begins_with nodes l h n s ne at = begins h.size (forward_of nodes)
    (back_of nodes) h.head h.tail n nodes l s.links s.distinct s.members ne at

-- where the node is the front of the target already, the lists are those of a move as they stand
pub moved_in_place : (nodes : List Node) (headers : List Header) (n t : ℕ) → IsSpelled nodes headers → n < length nodes
    → t < length headers → (header_at headers t).head ≡ n
    → lists_of nodes headers ≡ moved_to_front n t (lists_of nodes headers)
moved_in_place nodes headers n t inv there lt at =
    let ls = map (list_under nodes) headers in
    let len_ls : length ls ≡ length headers = length-map headers (list_under nodes) in
    let begins = begins_with nodes t (header_at headers t) n (inv.each_list t lt)
    (exists_apart nodes n inv.few_nodes there) at in
    let A : List (List ℕ) → Lists = λ q. record { nodes = length nodes; lists = q } in
    ap A (moved_lists_are ls ls n t (subst (λ q. t < q) (sym len_ls) lt) refl
    (λ l below.
    let in_headers : l < length headers = subst (λ q. l < q) len_ls below in
    let xs = list_under nodes (header_at headers l) in
    let is = list_at-lists_of nodes headers l in_headers in
    let stays : xs ≡ moved_list n t l xs =
    elim (eqb_tells l t) [
      | inl e ↦
          rw e.0 (subst (λ q. list_under nodes (header_at headers q)
          ≡ n ∷ without n (list_under nodes (header_at headers q))) (sym e.1) begins.0)
      | inr f ↦
          rw f.0 (sym (without-absent n xs
          (apart_from_other nodes l (header_at headers l) n xs (inv.each_list l in_headers) (λ e. f.1 (sym e
          ∙ begins.1)))))
    ] in
    is ∙ stays ∙ ap (moved_list n t l) (sym is)))

-- once the node is out of its list, the target list is spelled and lacks it
pub ready_for : (nodes nodes1 : List Node) (headers : List Header) (h1 h : Header) (n t : ℕ) → IsSpelled nodes headers
    → t < length headers
    → SpellsList nodes1 (list_of nodes n) h1 (without n (list_under nodes (header_at headers (list_of nodes n))))
    → KeepsOthers nodes nodes1 (list_of nodes n) n
    → h ≡ header_at (set headers (list_of nodes n) h1) t
    → SpellsList nodes1 t h (list_under nodes1 h) × (times n (list_under nodes1 h) ≡ 0)
ready_for nodes nodes1 headers h1 h n t inv lt taken kept at =
    let H = header_at (set headers (list_of nodes n) h1) t in
    let xs = list_under nodes (header_at headers t) in
    let s = taken_out nodes nodes1 headers h1 n t inv lt taken kept in
    let is : list_under nodes1 H ≡ without n xs = list_under-is nodes1 t H (without n xs) s in
    let P : List ℕ → Type 0 = λ q. SpellsList nodes1 t H q in
    let R : Header → Type 0 = λ q. SpellsList nodes1 t q (list_under nodes1 q) × (times n (list_under nodes1 q) ≡ 0) in
    subst R (sym at) (subst P (sym is) s, ap (times n) is ∙ times-without_same n xs)
