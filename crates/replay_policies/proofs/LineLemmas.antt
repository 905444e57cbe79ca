-- The nodes of a queue of keys, and the table of their numbers.
use Rattle.std.proofs.Common.{◌≡◌, ◌≢◌, ℕ, zero, suc, ◌+◌, ◌<◌, ◌≤◌, ◌%◌, ◌/◌, cond, List, [], ◌∷◌, length, map, get_or, set, nat_eq, refl, sym, ap, subst, ◌∙◌, arith, inl, inr, Option, Some, None}
use Rattle.std.specs.List.{range_with_len}
use Rattle.std.proofs.lemmas.Bool.{eq-eqb, ne_eqb, cases_lt}
use Rattle.std.proofs.lemmas.Bool.Decides.{eqb_tells}
use Rattle.std.proofs.lemmas.List.{get_or_past, get_or-set_same, get_or-set_other, length-append}
use Rattle.std.proofs.lemmas.List.FromFn.{length-range_with_len}
use Rattle.bump_links.specs.Lists.{without, put_before, first_of, last_of, times}
use Rattle.bump_links.proofs.AscendingLemmas.{times-range, range_within}
use Rattle.bump_links.proofs.ListsLemmas.{Each-weaker, times-apart, apart-from_times, split_at, times-without_same, times-without_other, without-absent}
use Rattle.replay_policies.specs.declared.entries.Entry.{Entry}
use Rattle.replay_policies.specs.Lines.{IsNodes, entry_at, uses_at}
use Rattle.replay_policies.specs.Tables.{page_at, number_of, one_of, held}

-- a table of numbers by key
abbrev pub Table : Type 0
Table = List (List (Option ℕ))

-- after a move to the front of one of two lists, each is as it was without the node, but that it stands first there
pub moved_used : (n : ℕ) (ls : List (List ℕ)) → length ls ≡ 2
    → get_or (put_before n 1 (map (without n) ls)) 1 [] ≡ n ∷ without n (get_or ls 1 [])
moved_used n [] two = absurd (omega arith)
moved_used n (a ∷ []) two = absurd (omega arith)
moved_used n (a ∷ b ∷ []) two = refl
moved_used n (a ∷ b ∷ d ∷ ls) two = absurd (omega arith)

-- the free nodes are without the node
pub left_free : (n : ℕ) (ls : List (List ℕ)) → length ls ≡ 2
    → get_or (put_before n 1 (map (without n) ls)) 0 [] ≡ without n (get_or ls 0 [])
left_free n [] two = absurd (omega arith)
left_free n (a ∷ []) two = absurd (omega arith)
left_free n (a ∷ b ∷ []) two = refl
left_free n (a ∷ b ∷ d ∷ ls) two = absurd (omega arith)

-- the same where the node comes to the front of the free ones
pub moved_free : (n : ℕ) (ls : List (List ℕ)) → length ls ≡ 2
    → get_or (put_before n 0 (map (without n) ls)) 0 [] ≡ n ∷ without n (get_or ls 0 [])
moved_free n [] two = absurd (omega arith)
moved_free n (a ∷ []) two = absurd (omega arith)
moved_free n (a ∷ b ∷ []) two = refl
moved_free n (a ∷ b ∷ d ∷ ls) two = absurd (omega arith)

-- the nodes with a key are without it then
pub left_used : (n : ℕ) (ls : List (List ℕ)) → length ls ≡ 2
    → get_or (put_before n 0 (map (without n) ls)) 1 [] ≡ without n (get_or ls 1 [])
left_used n [] two = absurd (omega arith)
left_used n (a ∷ []) two = absurd (omega arith)
left_used n (a ∷ b ∷ []) two = refl
left_used n (a ∷ b ∷ d ∷ ls) two = absurd (omega arith)

-- the entry of a node that there is, whatever else would be told
pub entry_there : (slots : List Entry) (node : ℕ) (e : Entry) → node < length slots → e ≡ get_or slots node e
    → e ≡ entry_at slots node
entry_there [] node e there is = absurd (omega arith)
entry_there (x ∷ slots) zero e there is = is
entry_there (x ∷ slots) (suc node) e there is = entry_there slots node e (omega arith) is

-- the first node of a list stands in it, and what stands in the rest does
node-first : (x : ℕ) (xs : List ℕ) → 0 < times x (x ∷ xs)
node-first x xs = rw (eq-eqb x x refl) (omega arith)

node-later : (n x : ℕ) (xs : List ℕ) → 0 < times n xs → 0 < times n (x ∷ xs)
node-later n x xs among =
    elim (eqb_tells x n) [
      | inl t ↦ rw t.0 (omega arith)
      | inr f ↦ rw f.0 among
    ]

-- a list without a last node is empty, and one with a last node isn't
pub last-none : (xs : List ℕ) → last_of xs ≡ None → length xs ≡ 0
last-none [] none = refl
last-none (x ∷ xs) none = absurd (cc)

-- the first node of a list stands in it
pub first-among : (node : ℕ) (xs : List ℕ) → first_of xs ≡ Some node → 0 < times node xs
first-among node [] some = absurd (cc)
first-among node (x ∷ xs) some = let same : x ≡ node = cc in rw same (node-first node xs)

-- a list without a node that stands in it once is shorter by one
pub length-without : (node : ℕ) (xs : List ℕ) → times node xs ≡ 1 → suc (length (without node xs)) ≡ length xs
length-without node xs once =
    let s = split_at node xs once in
    let whole = ap length s.whole in
    let others = ap length s.others in
    let long = length-append s.front (node ∷ s.rest) in
    let short = length-append s.front s.rest in
    omega (arith, whole, others, long, short)

-- one in which the node doesn't stand is as it was
pub without-none : (node : ℕ) (xs : List ℕ) → times node xs ≡ 0 → without node xs ≡ xs
without-none node xs none = without-absent node xs (apart-from_times node xs none)

-- the last node of a list stands in it
pub last-among : (node : ℕ) (xs : List ℕ) → last_of xs ≡ Some node → 0 < times node xs
last-among node [] some = absurd (cc)
last-among node (x ∷ []) some = let same : x ≡ node = cc in rw same (node-first node [])
last-among node (x ∷ y ∷ xs) some = node-later node x (y ∷ xs) (last-among node (y ∷ xs) some)

-- a node that is taken out takes its uses with it
pub uses-without : (slots : List Entry) (node : ℕ) (xs : List ℕ) → times node xs ≡ 1
    → uses_at slots (without node xs) + (entry_at slots node).uses ≡ uses_at slots xs
uses-without slots node [] once = absurd (omega arith)
uses-without slots node (x ∷ xs) once =
    elim (eqb_tells x node) [
      | inl t ↦
          let one : suc (times node xs) ≡ 1 = (rw t.0 at once) in
          let rest = ap (uses_at slots) (without-none node xs (omega (arith, one))) in
          let here = ap (λ m. (entry_at slots m).uses) t.1 in
          rw t.0 (omega (arith, rest, here))
      | inr f ↦ let rest = uses-without slots node xs (rw f.0 at once) in rw f.0 (omega (arith, rest))
    ]

-- an entry at a node that isn't among these changes none of their uses
pub uses-set : (slots : List Entry) (node : ℕ) (e : Entry) (xs : List ℕ) → times node xs ≡ 0
    → uses_at (set slots node e) xs ≡ uses_at slots xs
uses-set slots node e [] none = refl
uses-set slots node e (x ∷ xs) none =
    elim (eqb_tells x node) [
      | inl t ↦ absurd (let n : suc (times node xs) ≡ 0 = (rw t.0 at none) in omega (arith, n))
      | inr f ↦
          let here : entry_at (set slots node e) x ≡ entry_at slots x = get_or-set_other slots node x e (record { key = 0; uses = 0 }) f.1 in
          let same = ap (λ (a : Entry). a.uses) here in
          let rest = uses-set slots node e xs (rw f.0 at none) in
          omega (arith, same, rest)
    ]

-- the same nodes, in the same lists, keep the same
pub IsNodes-same : (nodes nodes' : ℕ) (free free' used used' : List ℕ) (slots : List Entry) (table : Table)
    → nodes' ≡ nodes → free' ≡ free → used' ≡ used → IsNodes nodes free used slots table → IsNodes nodes' free' used' slots table
IsNodes-same nodes nodes' free free' used used' slots table n f u is = rw (n, f, u) is

-- A queue's nodes, and a key that the table has at a node.
module _ (nodes : ℕ) (free used : List ℕ) (slots : List Entry) (table : Table) (is : IsNodes nodes free used slots table) where
  -- no node stands among those of the keys twice
  pub once-used : (n : ℕ) → times n used ≤ 1
  once-used n = let o = is.apart n in omega (arith, o)

  -- A key is taken out: its node is free, and the table has no number of it.
  module _ (new : Table) (key node : ℕ) (at : number_of table key ≡ Some node)
      (numbers : (k : ℕ) → number_of new k ≡ cond (nat_eq k key) None (number_of table k)) where
    pub one_used : times node used ≡ 1
    one_used = let among = is.found key node at in let once = once-used node in omega (arith, among, once)

    none_free : times node free ≡ 0
    none_free = let o = is.apart node in omega (arith, o, one_used)

    gone : number_of new key ≡ None
    gone = numbers key ∙ rw (eq-eqb key key refl) refl

    kept : (k : ℕ) → k ≢ key → number_of new k ≡ number_of table k
    kept k other = numbers k ∙ rw (ne_eqb k key other) refl

    -- what the table has of a key is what it had, and it isn't the one that was taken out
    kept_from : (k n : ℕ) → number_of new k ≡ Some n → (k ≢ key) × (number_of table k ≡ Some n)
    kept_from k n has =
        elim (eqb_tells k key) [
          | inl t ↦ absurd (let e : None ≡ Some n = sym gone ∙ ap (number_of new) (sym t.1) ∙ has in cc)
          | inr f ↦ (f.1, sym (kept k f.1) ∙ has)
        ]

    -- another key stands at another node
    other_node : (k n : ℕ) → k ≢ key → number_of table k ≡ Some n → n ≢ node
    other_node k n other has same =
        other (sym (is.keyed k n has) ∙ ap (λ m. (entry_at slots m).key) same ∙ is.keyed key node at)

    pub IsNodes-less : IsNodes nodes (node ∷ without node free) (without node used) slots new
    IsNodes-less = record {
      all =
          let same = ap length (without-none node free none_free) in
          let short = length-without node used one_used in
          omega (arith, same, short, is.all);
      apart = λ n. elim (eqb_tells n node) [
        | inl t ↦
            let first = times-first_node n node (without node free) in
            let a = times-without_same node free in
            let b = times-without_same node used in
            subst (λ m. times m (node ∷ without node free) + times m (without node used) ≤ 1) (sym t.1)
            (rw (eq-eqb node node refl) (omega (arith, a, b)))
        | inr f ↦
            let a = times-without_other n node free f.1 in
            let b = times-without_other n node used f.1 in
            let o = is.apart n in
            rw (ne_eqb node n (λ e. f.1 (sym e))) (omega (arith, a, b, o))
      ];
      below = λ n among. is.below n (later_used n among);
      found = λ k n has.
          let was = kept_from k n has in
          let other = other_node k n was.0 was.1 in
          let same = times-without_other n node used other in
          let among = is.found k n was.1 in
          omega (arith, same, among);
      keyed = λ k n has. is.keyed k n (kept_from k n has).1;
      led = λ n among.
          let was = is.led n (later_used n among) in
          kept (entry_at slots n).key (λ e. apart_used n among
          (let both : Some n ≡ Some node = sym was ∙ ap (number_of table) e ∙ at in cc)) ∙ was;
    }
      where
        times-first_node : (n x : ℕ) (xs : List ℕ) → times n xs ≤ times n (x ∷ xs)
        times-first_node n x xs =
            elim (eqb_tells x n) [
              | inl t ↦ rw t.0 (omega arith)
              | inr f ↦ rw f.0 (omega arith)
            ]

        -- a node that is left is another one
        apart_used : (n : ℕ) → 0 < times n (without node used) → n ≡ node → ⊥
        apart_used n among same =
            let none : times n (without node used) ≡ 0 =
            subst (λ m. times m (without node used) ≡ 0) (sym same) (times-without_same node used) in
            omega (arith, among, none)

        -- and stood there before
        later_used : (n : ℕ) → 0 < times n (without node used) → 0 < times n used
        later_used n among =
            let same = times-without_other n node used (apart_used n among) in omega (arith, same, among)

  -- A new key takes the first free node.
  module _ (new : Table) (e : Entry) (node : ℕ) (absent : number_of table e.key ≡ None) (there : node < length slots)
      (long : length slots ≡ nodes) (one_free : times node free ≡ 1)
      (numbers : (k : ℕ) → number_of new k ≡ cond (nat_eq k e.key) (Some node) (number_of table k)) where
    abbrev filled : List Entry
    filled = set slots node e

    pub filled_here : entry_at filled node ≡ e
    filled_here = get_or-set_same slots node e (record { key = 0; uses = 0 }) there

    filled_other : (n : ℕ) → n ≢ node → entry_at filled n ≡ entry_at slots n
    filled_other n other = get_or-set_other slots node n e (record { key = 0; uses = 0 }) other

    pub none_used : times node used ≡ 0
    none_used = let o = is.apart node in omega (arith, o, one_free)

    pub same_used : without node used ≡ used
    same_used = without-none node used none_used

    given : number_of new e.key ≡ Some node
    given = numbers e.key ∙ rw (eq-eqb e.key e.key refl) refl

    stays : (k : ℕ) → k ≢ e.key → number_of new k ≡ number_of table k
    stays k other = numbers k ∙ rw (ne_eqb k e.key other) refl

    -- a node that has a key already is another one
    other_used : (n : ℕ) → 0 < times n used → n ≢ node
    other_used n among same =
        let none : times n used ≡ 0 = subst (λ m. times m used ≡ 0) (sym same) none_used in
        omega (arith, among, none)

    -- the nodes that have a key are the new one and those that had one
    used_rest : (n : ℕ) → n ≢ node → times n (node ∷ without node used) ≡ times n used
    used_rest n other = rw (ne_eqb node n (λ e. other (sym e))) (times-without_other n node used other)

    used_first : times node (node ∷ without node used) ≡ 1
    used_first = let none = times-without_same node used in rw (eq-eqb node node refl) (omega (arith, none))

    pub IsNodes-more : IsNodes nodes (without node free) (node ∷ without node used) filled new
    IsNodes-more = record {
      all =
          let same = ap length same_used in
          let short = length-without node free one_free in
          omega (arith, same, short, is.all);
      apart = λ n. elim (eqb_tells n node) [
        | inl t ↦
            let a = times-without_same node free in
            subst (λ m. times m (without node free) + times m (node ∷ without node used) ≤ 1) (sym t.1)
            (omega (arith, a, used_first))
        | inr f ↦
            let a = times-without_other n node free f.1 in
            let b = used_rest n f.1 in
            let o = is.apart n in
            omega (arith, a, b, o)
      ];
      below = λ n among. elim (eqb_tells n node) [
        | inl t ↦ let same = t.1 in omega (arith, same, there, long)
        | inr f ↦ let b = used_rest n f.1 in is.below n (omega (arith, b, among))
      ];
      found = λ k n has. elim (eqb_tells k e.key) [
        | inl t ↦
            let same : n ≡ node = (let both : Some n ≡ Some node = sym has ∙ ap (number_of new) t.1 ∙ given in cc) in
            subst (λ m. 0 < times m (node ∷ without node used)) (sym same) (omega (arith, used_first))
        | inr f ↦
            let among = is.found k n (sym (stays k f.1) ∙ has) in
            let b = used_rest n (other_used n among) in
            omega (arith, b, among)
      ];
      keyed = λ k n has. elim (eqb_tells k e.key) [
        | inl t ↦
            let same : n ≡ node = (let both : Some n ≡ Some node = sym has ∙ ap (number_of new) t.1 ∙ given in cc) in
            ap (λ m. (entry_at filled m).key) same ∙ ap (λ (x : Entry). x.key) filled_here ∙ sym t.1
        | inr f ↦
            let was = sym (stays k f.1) ∙ has in
            ap (λ (x : Entry). x.key) (filled_other n (other_used n (is.found k n was))) ∙ is.keyed k n was
      ];
      led = λ n among. elim (eqb_tells n node) [
        | inl t ↦
            ap (λ m. number_of new (entry_at filled m).key) t.1 ∙ ap (λ (x : Entry). number_of new x.key) filled_here
            ∙ given ∙ ap (λ m. Some m) (sym t.1)
        | inr f ↦
            let b = used_rest n f.1 in
            let was = is.led n (omega (arith, b, among)) in
            ap (λ (x : Entry). number_of new x.key) (filled_other n f.1)
            ∙ stays (entry_at slots n).key (λ same.
            let both : Some n ≡ None = sym was ∙ ap (number_of table) same ∙ absent in absurd (cc))
            ∙ was
      ];
    }

-- an empty table has no number
no_number : (key node : ℕ) → number_of [] key ≡ Some node → ⊥
no_number key node some =
    let page : page_at [] (key / 65536) ≡ [] = get_or_past [] (key / 65536) [] (omega arith) in
    let none : get_or (page_at [] (key / 65536)) (key % 65536) None ≡ None =
    get_or_past (page_at [] (key / 65536)) (key % 65536) None (let long = ap length page in omega (arith, long)) in
    let both : Some node ≡ None = sym some ∙ none in cc

-- so no key is held
pub held-empty : (table : Table) (key : ℕ) → table ≡ [] → held table key ≡ 0
held-empty table key none = rw none (by (number_of [] key) refl)
  where
    by : (number : Option ℕ) → number_of [] key ≡ number → held [] key ≡ 0
    by None at = ap one_of at
    by (Some node) at = absurd (no_number key node at)

-- what is at most a number in a row stands among the numbers once, and else not at all
range-once : (node nodes : ℕ) → times node (range_with_len 0 nodes) ≤ 1
range-once node nodes =
    elim (cases_lt node nodes) [
      | inl lt ↦ let one = times-range node 0 nodes (omega arith) (omega (arith, lt)) in omega (arith, one)
      | inr ge ↦
          let apart = Each-weaker (λ x. (0 ≤ x) × (x < 0 + nodes)) (λ x. x ≢ node) (λ x within same. omega (arith, within, same, ge))
          (range_with_len 0 nodes) (range_within 0 nodes) in
          let none = times-apart node (range_with_len 0 nodes) apart in
          omega (arith, none)
    ]

-- where all nodes are free, there is no key
pub IsNodes-new : (nodes : ℕ) (slots : List Entry) → IsNodes nodes (range_with_len 0 nodes) [] slots []
IsNodes-new nodes slots = record {
  all = let long = length-range_with_len 0 nodes in omega (arith, long);
  apart = λ node. let once = range-once node nodes in omega (arith, once);
  below = λ node among. absurd (omega (arith, among));
  found = λ key node some. absurd (no_number key node some);
  keyed = λ key node some. absurd (no_number key node some);
  led = λ node among. absurd (omega (arith, among));
}

pub IsNodes-made : (nodes nodes' : ℕ) (free used : List ℕ) (slots : List Entry) (table : Table)
    → nodes' ≡ nodes → free ≡ range_with_len 0 nodes → used ≡ [] → table ≡ [] → IsNodes nodes' free used slots table
IsNodes-made nodes nodes' free used slots table n f u t = rw (n, f, u, t) (IsNodes-new nodes slots)
