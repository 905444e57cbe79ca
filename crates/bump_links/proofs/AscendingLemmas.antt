-- What the nodes and headers of new lists spell.
use Rattle.std.proofs.Common.{◌≡◌, ◌≢◌, ℕ, zero, suc, ◌+◌, ◌-◌, ◌<◌, ◌≤◌, Bool, true, false, cond, eqb, ltb, List, [], length, get_or, set, map, refl, sym, ◌∙◌, ap, subst, arith, inl, inr}
use Rattle.std.specs.List.{AllByRecursion, range_with_len}
use Rattle.std.proofs.Math.ListN.{replicate}
use Rattle.std.proofs.lemmas.Bool.{eq-eqb}
use Rattle.std.proofs.lemmas.Bool.Decides.{eqb_tells, nat_tests}
use Rattle.std.proofs.lemmas.List.{length-set, length-map, length-replicate, get_or-set_same, get_or-set_other, get_or-replicate, ext_get_or}
use Rattle.std.proofs.lemmas.List.FromFn.{length-range_with_len, length-map-range_with_len, get_or-map-range_with_len}
use Rattle.bump_links.specs.declared.TheConstants.{NONE, NODES_MAX, LISTS_MAX}
use Rattle.bump_links.specs.declared.chain.Node.{Node}
use Rattle.bump_links.specs.declared.chain.Header.{Header}
use Rattle.bump_links.specs.Lists.{Lists, times, all_in_first}
use Rattle.bump_links.specs.Chain.{SpellsChain, AllDiffer, SpellsList, IsMember, no_node, node_at, forward_of, back_of, list_of, list_under}
use Rattle.bump_links.specs.Spelled.{IsSpelled, lists_of, header_at, no_header}
use Rattle.bump_links.specs.Ascending.{link_to, link_before, ascending_node, only_first}
use Rattle.bump_links.proofs.ListsLemmas.{Each-weaker, times-apart}
use Rattle.bump_links.proofs.MoveLemmas.{list_under-is, list_at-lists_of}

-- numbers in a row lie from the first on and below the end
pub range_within : (k m : ℕ) → AllByRecursion (λ x. (k ≤ x) × (x < k + m)) (range_with_len k m)
range_within k zero = tt
range_within k (suc m) = (
  (omega arith, omega arith),
  Each-weaker (λ x. (k + 1 ≤ x) × (x < k + 1 + m)) (λ x. (k ≤ x) × (x < k + suc m))
      (λ x h. (let low = h.0 in omega arith, let high = h.1 in omega arith)) (range_with_len (k + 1) m)
      (range_within (k + 1) m),
)

-- they all differ
pub range_differ : (k m : ℕ) → AllDiffer (range_with_len k m)
range_differ k zero = tt
range_differ k (suc m) = (
  Each-weaker (λ x. (k + 1 ≤ x) × (x < k + 1 + m)) (λ x. x ≢ k) (λ x h. let low = h.0 in omega arith)
      (range_with_len (k + 1) m) (range_within (k + 1) m),
  range_differ (k + 1) m,
)

-- each number from the first on and below the end stands among them once
pub times-range : (n k m : ℕ) → k ≤ n → n < k + m → times n (range_with_len k m) ≡ 1
times-range n k zero low high = absurd (omega arith)
times-range n k (suc m) low high =
    elim (eqb_tells k n) [
      | inl e ↦
          let is : k ≡ n = e.1 in
          rw e.0 (ap suc (times-apart n (range_with_len (k + 1) m)
          (Each-weaker (λ x. (k + 1 ≤ x) × (x < k + 1 + m)) (λ x. x ≢ n) (λ x h. let above = h.0 in omega arith)
          (range_with_len (k + 1) m) (range_within (k + 1) m))))
      | inr f ↦ (let apart : k ≢ n = f.1 in rw f.0 (times-range n (k + 1) m (omega arith) (omega arith)))
    ]

-- links to neighbours by number spell the numbers in a row
pub range_spelled : (f b : ℕ → ℕ) (count k m : ℕ) → k + m ≡ count → 0 < count
    → ((n : ℕ) → n < count → (f n ≡ link_to count (n + 1)) × (b n ≡ link_before n))
    → SpellsChain f b (link_before k) (link_to count k) (range_with_len k m) (count - 1) NONE
range_spelled f b count k zero e some at =
    let past : ltb k count ≡ false = grind (arith, nat_tests) in
    let above : ltb 0 k ≡ true = grind (arith, nat_tests) in
    (rw past refl, rw above (let is : count ≡ k = omega arith in ap (λ q. q - 1) is))
range_spelled f b count k (suc m) e some at =
    let below : k < count = omega arith in
    let in_range : ltb k count ≡ true = grind (arith, nat_tests) in
    let here = at k below in
    let rest : SpellsChain f b (link_before (k + 1)) (link_to count (k + 1)) (range_with_len (k + 1) m) (count - 1) NONE =
    range_spelled f b count (k + 1) m (omega arith) some at in
    let above : ltb 0 (k + 1) ≡ true = grind (arith, nat_tests) in
    let before : link_before (k + 1) ≡ k = rw above (omega arith) in
    let P : ℕ → Type 0 = λ q. SpellsChain f b q (link_to count (k + 1)) (range_with_len (k + 1) m) (count - 1) NONE in
    let Q : ℕ → Type 0 = λ q. SpellsChain f b k q (range_with_len (k + 1) m) (count - 1) NONE in
    (rw in_range refl, here.1, subst Q (sym here.0) (subst P before rest))

-- the nodes of new lists
abbrev pub new_nodes : ℕ → ℕ → List Node
new_nodes count first = map (ascending_node count first) (range_with_len 0 count)

-- the headers of new lists
abbrev pub new_headers : ℕ → ℕ → ℕ → List Header
new_headers count lists first = map (only_first count first) (range_with_len 0 lists)

-- a node of new lists
new_node_at : (count first n : ℕ) → n < count → node_at (new_nodes count first) n ≡ ascending_node count first n
new_node_at count first n lt = get_or-map-range_with_len (ascending_node count first) 0 count n n no_node lt
    (omega arith)

-- a header of new lists
new_header_at : (count lists first l : ℕ) → l < lists → header_at (new_headers count lists first) l
    ≡ only_first count first l
new_header_at count lists first l lt = get_or-map-range_with_len (only_first count first) 0 lists l l no_header lt
    (omega arith)

-- a list of new lists: all nodes, ascending, or none
abbrev pub new_list : ℕ → ℕ → ℕ → List ℕ
new_list count first l = cond (eqb l first) (range_with_len 0 count) []

-- the first list is spelled
first_spelled : (count first : ℕ) → 1 ≤ count
    → SpellsList (new_nodes count first) first (record { head = 0; tail = count - 1; size = count })
    (range_with_len 0 count)
first_spelled count first some =
    let nodes = new_nodes count first in
    let len : length nodes ≡ count = length-map-range_with_len (ascending_node count first) 0 count in
    let at = λ (n : ℕ) (lt : n < count). new_node_at count first n lt in
    let run = range_spelled (forward_of nodes) (back_of nodes) count 0 count (omega arith) (omega arith)
    (λ n lt. (ap (λ (q : Node). q.forward) (at n lt), ap (λ (q : Node). q.back) (at n lt))) in
    let in_range : ltb 0 count ≡ true = grind (arith, nat_tests) in
    let P : Bool → Type 0 =
    λ q. SpellsChain (forward_of nodes) (back_of nodes) NONE (cond q 0 NONE) (range_with_len 0 count) (count - 1) NONE in
    record {
      links = subst P in_range run;
      size = sym (length-range_with_len 0 count);
      distinct = range_differ 0 count;
      members = Each-weaker (λ x. (0 ≤ x) × (x < 0 + count)) (IsMember nodes first)
          (λ x h.
          let below : x < 0 + count = h.1 in
          let lt : x < count = omega arith in
          (subst (λ q. x < q) (sym len) lt, ap (λ (q : Node). q.list) (at x lt)))
          (range_with_len 0 count) (range_within 0 count);
    }

-- each list of new lists is spelled
new_spelled : (count lists first l : ℕ) → 1 ≤ count → l < lists
    → SpellsList (new_nodes count first) l (header_at (new_headers count lists first) l) (new_list count first l)
new_spelled count lists first l some lt =
    let nodes = new_nodes count first in
    let P : Header → Type 0 = λ q. SpellsList nodes l q (new_list count first l) in
    subst P (sym (new_header_at count lists first l lt))
    (elim (eqb_tells l first) [
      | inl e ↦
          let Q : ℕ → Type 0 = λ q. SpellsList nodes q (record { head = 0; tail = count - 1; size = count })
          (range_with_len 0 count) in
          let R : Bool → Type 0 =
          λ q. SpellsList nodes l
          (cond q (record { head = 0; tail = count - 1; size = count }) (record { head = NONE; tail = NONE; size = 0 }))
          (cond q (range_with_len 0 count) []) in
          subst R (sym e.0) (subst Q (sym e.1) (first_spelled count first some))
      | inr f ↦
          let R : Bool → Type 0 =
          λ q. SpellsList nodes l
          (cond q (record { head = 0; tail = count - 1; size = count }) (record { head = NONE; tail = NONE; size = 0 }))
          (cond q (range_with_len 0 count) []) in
          subst R (sym f.0) (record { links = (refl, refl); size = refl; distinct = tt; members = tt })
    ])

-- what the forward links of new lists lead through
new_list_is : (count lists first l : ℕ) → 1 ≤ count → l < lists
    → list_under (new_nodes count first) (header_at (new_headers count lists first) l) ≡ new_list count first l
new_list_is count lists first l some lt =
    list_under-is (new_nodes count first) l (header_at (new_headers count lists first) l) _
    (new_spelled count lists first l some lt)

-- new lists are spelled
pub new_is_spelled : (count lists first : ℕ) → 1 ≤ count → count ≤ NODES_MAX → lists ≤ LISTS_MAX → first < lists
    → IsSpelled (new_nodes count first) (new_headers count lists first)
new_is_spelled count lists first some few few_lists lt =
    let nodes = new_nodes count first in
    let headers = new_headers count lists first in
    let len : length nodes ≡ count = length-map-range_with_len (ascending_node count first) 0 count in
    let len_headers : length headers ≡ lists = length-map-range_with_len (only_first count first) 0 lists in
    record {
      few_nodes = omega (arith, len);
      few_lists = omega (arith, len_headers);
      each_list = λ l below.
          let in_lists : l < lists = subst (λ q. l < q) len_headers below in
          let P : List ℕ → Type 0 = λ q. SpellsList nodes l (header_at headers l) q in
          subst P (sym (new_list_is count lists first l some in_lists)) (new_spelled count lists first l some in_lists);
      each_node = λ n below.
          let in_nodes : n < count = subst (λ q. n < q) len below in
          let named : first ≡ list_of nodes n = sym (ap (λ (q : Node). q.list) (new_node_at count first n in_nodes)) in
          let Held : ℕ → Type 0 = λ q. (q < length headers) × (times n (list_under nodes (header_at headers q)) ≡ 1) in
          let whole : new_list count first first ≡ range_with_len 0 count = rw (eq-eqb first first refl) refl in
          subst Held named (
            subst (λ q. first < q) (sym len_headers) lt,
            ap (times n) (new_list_is count lists first first some lt ∙ whole)
                ∙ times-range n 0 count (omega arith) (omega (arith, in_nodes)),
          );
    }

-- new lists show all nodes in the first list, ascending, and none in the others
pub new_shows : (count lists first : ℕ) → 1 ≤ count → first < lists
    → lists_of (new_nodes count first) (new_headers count lists first) ≡ all_in_first count lists first
new_shows count lists first some lt =
    let nodes = new_nodes count first in
    let headers = new_headers count lists first in
    let len : length nodes ≡ count = length-map-range_with_len (ascending_node count first) 0 count in
    let len_headers : length headers ≡ lists = length-map-range_with_len (only_first count first) 0 lists in
    let shown = map (list_under nodes) headers in
    let Empty : List (List ℕ) = replicate lists [] in
    let whole = set Empty first (range_with_len 0 count) in
    let len_shown : length shown ≡ lists = length-map headers (list_under nodes) ∙ len_headers in
    let len_empty : length Empty ≡ lists = length-replicate lists [] in
    let len_whole : length whole ≡ lists = length-set Empty first (range_with_len 0 count) ∙ len_empty in
    let same : shown ≡ whole =
    ext_get_or [] shown whole (len_shown ∙ sym len_whole)
    (λ l below.
    let in_lists : l < lists = subst (λ q. l < q) len_shown below in
    list_at-lists_of nodes headers l (subst (λ q. l < q) (sym len_headers) in_lists)
    ∙ new_list_is count lists first l some in_lists
    ∙ elim (eqb_tells l first) as (λ _. new_list count first l ≡ get_or whole l []) [
      | inl e ↦
          rw e.0 (sym (ap (λ q. get_or (set Empty q (range_with_len 0 count)) l []) (sym e.1)
          ∙ get_or-set_same Empty l (range_with_len 0 count) [] (subst (λ q. l < q) (sym len_empty) in_lists)))
      | inr f ↦
          rw f.0 (sym (get_or-set_other Empty first l (range_with_len 0 count) [] f.1
          ∙ get_or-replicate lists l [] [] in_lists))
    ]) in
    let A : ℕ → List (List ℕ) → Lists = λ k q. record { nodes = k; lists = q } in
    ap (λ k. A k shown) len ∙ ap (A count) same
