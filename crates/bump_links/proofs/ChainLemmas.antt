-- What taking a node out of its list, and putting one in front, leave spelled.
use Rattle.std.proofs.Common.{◌≡◌, ◌≢◌, ℕ, suc, ◌+◌, ◌-◌, ◌<◌, ◌≤◌, Bool, true, false, cond, eqb, List, [], ◌∷◌, ◌++◌, length, set, Some, refl, sym, ◌∙◌, ap, subst, arith}
use Rattle.std.specs.List.{AllByRecursion}
use Rattle.std.proofs.lemmas.Bool.{ne_eqb, eq-eqb}
use Rattle.std.proofs.lemmas.List.{length-append, length-set, get_or-set_same, get_or-set_other}
use Rattle.bump_links.specs.declared.TheConstants.{NONE, NODES_MAX}
use Rattle.bump_links.specs.declared.chain.Node.{Node}
use Rattle.bump_links.specs.declared.chain.Header.{Header}
use Rattle.bump_links.specs.Lists.{times, without, first_of, last_of, next_of, previous_of}
use Rattle.bump_links.specs.Chain.{SpellsChain, AllDiffer, SpellsList, IsMember, KeepsOthers, no_node, node_at, forward_of, back_of, list_of, node_or_none}
use Rattle.bump_links.specs.Relink.{LinksForward, LinksBack, header_with_head, with_tail}
use Rattle.bump_links.proofs.ListsLemmas.{Each-weaker, Each-both, Each-parts, Each-append, AllDiffer-parts, AllDiffer-append, split_at, apart-from_times, length-le_from_AllDiffer, last_of-cons, next_of-split, previous_of-split}
use Rattle.bump_links.proofs.SpellsLemmas.{Spells-split, Spells-append, Spells-last, Spells-end, Spells-begin, or_none}

-- what holds of each element, and of what stands behind them, holds of where their run begins
pub Spells-first_has : (f b : ℕ → ℕ) (P : ℕ → Type 0) (before first : ℕ) (xs : List ℕ) (last after : ℕ)
    → SpellsChain f b before first xs last after → P after → AllByRecursion P xs → P first
Spells-first_has f b P before first [] last after s h a = subst P (sym s.0) h
Spells-first_has f b P before first (x ∷ xs) last after s h a = subst P (sym s.0) a.0

-- what holds of each element, and of what stands before them, holds of where their run ends
pub Spells-last_has : (f b : ℕ → ℕ) (P : ℕ → Type 0) (before first : ℕ) (xs : List ℕ) (last after : ℕ)
    → SpellsChain f b before first xs last after → P before → AllByRecursion P xs → P last
Spells-last_has f b P before first [] last after s h a = subst P (sym s.1) h
Spells-last_has f b P before first (x ∷ xs) last after s h a = Spells-last f b P before first x xs last after s a

-- the links round n, made to pass it by, spell the list without n
pub Spells-removed : (f b f' b' : ℕ → ℕ) (none head tail n : ℕ) (xs ys : List ℕ)
    → SpellsChain f b none head (xs ++ n ∷ ys) tail none
    → AllDiffer (xs ++ n ∷ ys)
    → AllByRecursion (λ m. m ≢ none) (xs ++ n ∷ ys)
    → ((m : ℕ) → m ≢ b n → f' m ≡ f m) → (b n ≢ none → f' (b n) ≡ f n)
    → ((m : ℕ) → m ≢ f n → b' m ≡ b m) → (f n ≢ none → b' (f n) ≡ b n)
    → SpellsChain f' b' none (or_none xs head (f n)) (xs ++ ys) (or_none ys tail (b n)) none
Spells-removed f b f' b' none head tail n xs ys s d a fo fh bo bh =
    let parts = Spells-split f b none head xs n ys tail none s in
    let differ = AllDiffer-parts xs (n ∷ ys) d in
    let exist = Each-parts (λ m. m ≢ none) xs (n ∷ ys) a in
    let front : AllByRecursion (λ m. (b' m ≡ b m) × (m ≢ b n → f' m ≡ f m) × (m ≡ b n → f' m ≡ f n)) xs =
    Each-both (λ m. m ≢ none) (λ m. AllByRecursion (λ k. k ≢ m) (n ∷ ys))
    (λ m. (b' m ≡ b m) × (m ≢ b n → f' m ≡ f m) × (m ≡ b n → f' m ≡ f n))
    (λ m h e. (
      bo m (Spells-first_has f b (λ q. m ≢ q) n (f n) ys tail none parts.1 h
          (Each-weaker (λ k. k ≢ m) (λ k. m ≢ k) (λ k d at. d (sym at)) ys e.1)),
      fo m,
      (λ at. ap f' at ∙ fh (λ z. h (at ∙ z))),
    ))
    xs exist.0 differ.2 in
    let no_last : AllByRecursion (λ m. m ≢ b n) ys =
    Spells-last_has f b (λ p. AllByRecursion (λ m. m ≢ p) ys) none head xs (b n) n parts.0 exist.1.1
    (Each-weaker (λ m. AllByRecursion (λ k. k ≢ m) (n ∷ ys)) (λ m. AllByRecursion (λ k. k ≢ m) ys)
    (λ m h. h.1) xs differ.2) in
    let rest : AllByRecursion (λ m. (f' m ≡ f m) × (m ≢ f n → b' m ≡ b m) × (m ≡ f n → b' m ≡ b n)) ys =
    Each-both (λ m. m ≢ none) (λ m. m ≢ b n)
    (λ m. (f' m ≡ f m) × (m ≢ f n → b' m ≡ b m) × (m ≡ f n → b' m ≡ b n))
    (λ m h e. (fo m e, bo m, (λ at. ap b' at ∙ bh (λ z. h (at ∙ z)))))
    ys exist.1.1 no_last in
    Spells-append f' b' none (or_none xs head (f n)) xs (b n) (f n) ys (or_none ys tail (b n)) none
    (Spells-end f b f' b' none head xs (b n) n (f n) differ.0 front parts.0)
    (Spells-begin f b f' b' n (f n) ys tail none (b n) differ.1.1 rest parts.1)

-- a header after its head may have been set
with_head-is : (t : Bool) (h : Header) (s : ℕ)
    → cond t (record h { head = s }) h ≡ record { head = cond t s h.head; tail = h.tail; size = h.size }
with_head-is true h s = refl
with_head-is false h s = refl

-- a header after its tail may have been set
with_tail-is : (t : Bool) (h : Header) (p : ℕ)
    → cond t (record h { tail = p }) h ≡ record { head = h.head; tail = cond t p h.tail; size = h.size }
with_tail-is true h p = refl
with_tail-is false h p = refl

-- the head is set exactly where no element stands before
head_choice : (f b : ℕ → ℕ) (none head : ℕ) (xs : List ℕ) (p n s : ℕ)
    → SpellsChain f b none head xs p n → AllByRecursion (λ m. m ≢ none) xs
    → or_none xs head s ≡ cond (eqb p none) s head
head_choice f b none head [] p n s r a = rw (eq-eqb p none r.1) refl
head_choice f b none head (x ∷ xs) p n s r a =
    rw (ne_eqb p none (Spells-last f b (λ m. m ≢ none) none head x xs p n r a)) refl

-- the tail is set exactly where no element stands behind
tail_choice : (f b : ℕ → ℕ) (none q s : ℕ) (ys : List ℕ) (tail p : ℕ)
    → SpellsChain f b q s ys tail none → AllByRecursion (λ m. m ≢ none) ys
    → or_none ys tail p ≡ cond (eqb s none) p tail
tail_choice f b none q s [] tail p r a = rw (eq-eqb s none r.0) refl
tail_choice f b none q s (y ∷ ys) tail p r a = rw (ne_eqb s none (λ e. a.0 (sym r.0 ∙ e))) refl

-- a node is no mark for none
pub exists_apart : (nodes : List Node) (m : ℕ) → length nodes ≤ NODES_MAX → m < length nodes → m ≢ NONE
exists_apart nodes m few lt = omega arith

-- nodes that all exist are no marks for none
pub members_apart : (nodes : List Node) (l : ℕ) (xs : List ℕ) → length nodes ≤ NODES_MAX
    → AllByRecursion (IsMember nodes l) xs → AllByRecursion (λ m. m ≢ NONE) xs
members_apart nodes l xs few a =
    Each-weaker (IsMember nodes l) (λ m. m ≢ NONE) (λ m h. exists_apart nodes m few h.0) xs a

-- links and a header that were changed to pass n by
pub record PassesBy (nodes nodes1 nodes2 : List Node) (h h2 : Header) (n : ℕ) : Type 0 where
  pub few : length nodes ≤ NODES_MAX
  pub len1 : length nodes1 ≡ length nodes
  pub len2 : length nodes2 ≡ length nodes1
  pub forward : LinksForward nodes nodes1 (back_of nodes n) (forward_of nodes n)
  pub back : LinksBack nodes1 nodes2 (forward_of nodes n) (back_of nodes n)
  pub header : h2 ≡ with_tail (header_with_head h (back_of nodes n) (forward_of nodes n)) (forward_of nodes n)
      (back_of nodes n)

-- what is spelled once the links pass n by, for a list that is split at n
removed_parts : (nodes nodes1 nodes2 : List Node) (l : ℕ) (h h2 : Header) (n : ℕ) (xs ys : List ℕ)
    → PassesBy nodes nodes1 nodes2 h h2 n → SpellsList nodes l h (xs ++ n ∷ ys)
    → SpellsList nodes2 l (record { head = h2.head; tail = h2.tail; size = h2.size - 1 }) (xs ++ ys)
removed_parts nodes nodes1 nodes2 l h h2 n xs ys c s =
    let f = forward_of nodes in
    let b = back_of nodes in
    let exist = members_apart nodes l (xs ++ n ∷ ys) c.few s.members in
    let parts = Spells-split f b NONE h.head xs n ys h.tail NONE s.links in
    let exist_in = Each-parts (λ m. m ≢ NONE) xs (n ∷ ys) exist in
    let differ = AllDiffer-parts xs (n ∷ ys) s.distinct in
    let member = Each-parts (IsMember nodes l) xs (n ∷ ys) s.members in
    let header : h2 ≡ record {
      head = cond (eqb (b n) NONE) (f n) h.head;
      tail = cond (eqb (f n) NONE)
          (b n) h.tail;
      size = h.size;
    } =
    c.header ∙ ap (λ q. with_tail q (f n) (b n)) (with_head-is (eqb (b n) NONE) h (f n))
    ∙ with_tail-is (eqb (f n) NONE) (record {
      head = cond (eqb (b n) NONE) (f n) h.head;
      tail = h.tail;
      size = h.size;
    }) (b n) in
    let head_is : or_none xs h.head (f n) ≡ h2.head =
    head_choice f b NONE h.head xs (b n) n (f n) parts.0 exist_in.0 ∙ sym (ap (λ (q : Header). q.head) header) in
    let tail_is : or_none ys h.tail (b n) ≡ h2.tail =
    tail_choice f b NONE n (f n) ys h.tail (b n) parts.1 exist_in.1.1 ∙ sym (ap (λ (q : Header). q.tail) header) in
    let run = Spells-removed f b (forward_of nodes2)
    (back_of nodes2) NONE h.head h.tail n xs ys s.links s.distinct exist
    (λ m e. c.back.forward m ∙ c.forward.forward m e)
    (λ e. c.back.forward (b n) ∙ c.forward.here e)
    (λ m e. c.back.back m e ∙ c.forward.back m)
    (λ e. c.back.here e) in
    let P : ℕ → Type 0 = λ q. SpellsChain (forward_of nodes2) (back_of nodes2) NONE q (xs ++ ys) h2.tail NONE in
    let Q : ℕ → Type 0 = λ q. SpellsChain (forward_of nodes2) (back_of nodes2) NONE (or_none xs h.head (f n))
    (xs ++ ys) q NONE in
    let size_is : h2.size ≡ h.size = ap (λ (q : Header). q.size) header in
    let size_was : h.size ≡ length (xs ++ n ∷ ys) = s.size in
    record {
      links = subst P head_is (subst Q tail_is run);
      size = omega (arith, length-append xs (n ∷ ys), length-append xs ys, size_is, size_was);
      distinct = AllDiffer-append xs ys differ.0 differ.1.1
          (Each-weaker (λ m. AllByRecursion (λ k. k ≢ m) (n ∷ ys)) (λ m. AllByRecursion (λ k. k ≢ m) ys)
          (λ m e. e.1) xs differ.2);
      members = Each-weaker (IsMember nodes l) (IsMember nodes2 l)
          (λ m e. (subst (λ q. m < q) (sym (c.len2 ∙ c.len1)) e.0, c.back.list m ∙ c.forward.list m ∙ e.1))
          (xs ++ ys) (Each-append (IsMember nodes l) xs ys member.0 member.1.1);
    }

-- links that pass n by spell the list without n
pub SpellsList-removed : (nodes nodes1 nodes2 : List Node) (l : ℕ) (h h2 : Header) (n : ℕ) (xs : List ℕ)
    → PassesBy nodes nodes1 nodes2 h h2 n → SpellsList nodes l h xs → times n xs ≡ 1
    → SpellsList nodes2 l (record { head = h2.head; tail = h2.tail; size = h2.size - 1 }) (without n xs)
SpellsList-removed nodes nodes1 nodes2 l h h2 n xs c s once =
    let sp = split_at n xs once in
    let P : List ℕ → Type 0 = λ q. SpellsList nodes l h q in
    let Q : List ℕ → Type 0 = λ q. SpellsList nodes2 l (record {
      head = h2.head;
      tail = h2.tail;
      size = h2.size - 1;
    }) q in
    subst Q (sym sp.others) (removed_parts nodes nodes1 nodes2 l h h2 n sp.front sp.rest c (subst P sp.whole s))

-- a node of a list, and the two that stand beside it, as nodes of that list or none
pub record Beside (nodes : List Node) (l n m : ℕ) : Type 0 where
  pub back : m ≢ back_of nodes n
  pub forward : m ≢ forward_of nodes n

-- a node of another list stands beside no node of this one
pub apart_beside : (nodes : List Node) (l : ℕ) (h : Header) (n : ℕ) (xs : List ℕ) (m : ℕ)
    → length nodes ≤ NODES_MAX → SpellsList nodes l h xs → times n xs ≡ 1
    → m < length nodes → list_of nodes m ≢ l → Beside nodes l n m
apart_beside nodes l h n xs m few s once lt other =
    let sp = split_at n xs once in
    let P : List ℕ → Type 0 = λ q. SpellsList nodes l h q in
    let t = subst P sp.whole s in
    let f = forward_of nodes in
    let b = back_of nodes in
    let parts = Spells-split f b NONE h.head sp.front n sp.rest h.tail NONE t.links in
    let none = exists_apart nodes m few lt in
    let apart : AllByRecursion (λ k. k ≢ m) (sp.front ++ n ∷ sp.rest) =
    Each-weaker (IsMember nodes l) (λ k. k ≢ m) (λ k e at. other (ap (list_of nodes) (sym at) ∙ e.1))
    (sp.front ++ n ∷ sp.rest) t.members in
    let apart_in = Each-parts (λ k. k ≢ m) sp.front (n ∷ sp.rest) apart in
    record {
      back = Spells-last_has f b (λ q. m ≢ q) NONE h.head sp.front (b n) n parts.0 none
          (Each-weaker (λ k. k ≢ m) (λ k. m ≢ k) (λ k e at. e (sym at)) sp.front apart_in.0);
      forward = Spells-first_has f b (λ q. m ≢ q) n (f n) sp.rest h.tail NONE parts.1 none
          (Each-weaker (λ k. k ≢ m) (λ k. m ≢ k) (λ k e at. e (sym at)) sp.rest apart_in.1.1);
    }

-- a node of another list keeps its record where the links pass n by
pub KeepsOthers-removed : (nodes nodes1 nodes2 : List Node) (l : ℕ) (h h2 : Header) (n : ℕ) (xs : List ℕ)
    → PassesBy nodes nodes1 nodes2 h h2 n → SpellsList nodes l h xs → times n xs ≡ 1
    → KeepsOthers nodes nodes2 l n
KeepsOthers-removed nodes nodes1 nodes2 l h h2 n xs c s once = record {
  len = c.len2 ∙ c.len1;
  records = λ m lt ne other.
      let r = apart_beside nodes l h n xs m c.few s once lt other in (
        c.back.forward m ∙ c.forward.forward m r.back,
        c.back.back m r.forward ∙ c.forward.back m,
        c.back.list m ∙ c.forward.list m,
      );
}

-- a link of a node leads to a node, or nowhere
pub record LeadsIn (nodes : List Node) (n : ℕ) : Type 0 where
  pub back : back_of nodes n ≢ NONE → back_of nodes n < length nodes
  pub forward : forward_of nodes n ≢ NONE → forward_of nodes n < length nodes

-- so it is with each node of a list that is spelled
pub leads_in : (nodes : List Node) (l : ℕ) (h : Header) (n : ℕ) (xs : List ℕ)
    → SpellsList nodes l h xs → times n xs ≡ 1 → LeadsIn nodes n
leads_in nodes l h n xs s once =
    let sp = split_at n xs once in
    let P : List ℕ → Type 0 = λ q. SpellsList nodes l h q in
    let t = subst P sp.whole s in
    let f = forward_of nodes in
    let b = back_of nodes in
    let parts = Spells-split f b NONE h.head sp.front n sp.rest h.tail NONE t.links in
    let In : ℕ → Type 0 = λ q. q ≢ NONE → q < length nodes in
    let inside = Each-parts In sp.front (n ∷ sp.rest)
    (Each-weaker (IsMember nodes l) In (λ k e ne. e.0) (sp.front ++ n ∷ sp.rest) t.members) in
    record {
      back = Spells-last_has f b In NONE h.head sp.front (b n) n parts.0 (λ e. absurd (e refl)) inside.0;
      forward = Spells-first_has f b In n (f n) sp.rest h.tail NONE parts.1 (λ e. absurd (e refl)) inside.1.1;
    }

-- a node that was stored as the new front, before what was the front
pub record PutBefore (nodes nodes1 nodes2 : List Node) (l : ℕ) (h h2 : Header) (n : ℕ) : Type 0 where
  pub few : length nodes ≤ NODES_MAX
  pub there : n < length nodes
  pub stored : nodes1 ≡ set nodes n (record { forward = h.head; back = NONE; list = l })
  pub len : length nodes2 ≡ length nodes1
  pub back : LinksBack nodes1 nodes2 h.head n
  pub header : h2 ≡ with_tail (record h { head = n }) h.head n

-- another node keeps its record but for its back link
put_kept : (nodes nodes1 nodes2 : List Node) (l : ℕ) (h h2 : Header) (n : ℕ)
    → PutBefore nodes nodes1 nodes2 l h h2 n → (m : ℕ) → m ≢ n → node_at nodes1 m ≡ node_at nodes m
put_kept nodes nodes1 nodes2 l h h2 n p m ne =
    ap (λ q. node_at q m) p.stored ∙ get_or-set_other nodes n m _ no_node ne

-- the new front has the record that was stored
put_same : (nodes nodes1 nodes2 : List Node) (l : ℕ) (h h2 : Header) (n : ℕ)
    → PutBefore nodes nodes1 nodes2 l h h2 n → node_at nodes1 n ≡ record { forward = h.head; back = NONE; list = l }
put_same nodes nodes1 nodes2 l h h2 n p =
    let lt : n < length nodes = p.there in
    ap (λ q. node_at q n) p.stored ∙ get_or-set_same nodes n (record {
      forward = h.head;
      back = NONE;
      list = l;
    }) no_node lt

-- there are as many nodes as before
put_len : (nodes nodes1 nodes2 : List Node) (l : ℕ) (h h2 : Header) (n : ℕ)
    → PutBefore nodes nodes1 nodes2 l h h2 n → length nodes2 ≡ length nodes
put_len nodes nodes1 nodes2 l h h2 n p = p.len ∙ ap length p.stored ∙ length-set nodes n _

-- a node put before a list leaves the longer list spelled
pub SpellsList-put : (nodes nodes1 nodes2 : List Node) (l : ℕ) (h h2 : Header) (n : ℕ) (xs : List ℕ)
    → PutBefore nodes nodes1 nodes2 l h h2 n → SpellsList nodes l h xs → times n xs ≡ 0
    → SpellsList nodes2 l (record { head = h2.head; tail = h2.tail; size = h2.size + 1 }) (n ∷ xs)
SpellsList-put nodes nodes1 nodes2 l h h2 n xs p s free =
    let f = forward_of nodes in
    let b = back_of nodes in
    let f2 = forward_of nodes2 in
    let b2 = back_of nodes2 in
    let apart = apart-from_times n xs free in
    let exist = members_apart nodes l xs p.few s.members in
    let front : n ≢ h.head =
    Spells-first_has f b (λ q. n ≢ q) NONE h.head xs h.tail NONE s.links (exists_apart nodes n p.few p.there)
    (Each-weaker (λ m. m ≢ n) (λ m. n ≢ m) (λ m e at. e (sym at)) xs apart) in
    let kept : (m : ℕ) → m ≢ n → node_at nodes1 m ≡ node_at nodes m = put_kept nodes nodes1 nodes2 l h h2 n p in
    let stored = put_same nodes nodes1 nodes2 l h h2 n p in
    let header : h2 ≡ record { head = n; tail = cond (eqb h.head NONE) n h.tail; size = h.size } =
    p.header ∙ with_tail-is (eqb h.head NONE) (record h { head = n }) n in
    let forward_is : f2 n ≡ h.head = p.back.forward n ∙ ap (λ (q : Node). q.forward) stored in
    let back_is : b2 n ≡ NONE = p.back.back n front ∙ ap (λ (q : Node). q.back) stored in
    let around : AllByRecursion (λ m. (f2 m ≡ f m) × (m ≢ h.head → b2 m ≡ b m) × (m ≡ h.head → b2 m ≡ n)) xs =
    Each-both (λ m. m ≢ NONE) (λ m. m ≢ n)
    (λ m. (f2 m ≡ f m) × (m ≢ h.head → b2 m ≡ b m) × (m ≡ h.head → b2 m ≡ n))
    (λ m e ne. (
      p.back.forward m ∙ ap (λ (q : Node). q.forward) (kept m ne),
      (λ off. p.back.back m off ∙ ap (λ (q : Node). q.back) (kept m ne)),
      (λ at. ap b2 at ∙ p.back.here (λ z. e (at ∙ z))),
    ))
    xs exist apart in
    let run = Spells-begin f b f2 b2 NONE h.head xs h.tail NONE n s.distinct around s.links in
    let tail_is : or_none xs h.tail n ≡ h2.tail =
    tail_choice f b NONE NONE h.head xs h.tail n s.links exist ∙ sym (ap (λ (q : Header). q.tail) header) in
    let P : ℕ → Type 0 = λ q. SpellsChain f2 b2 n q xs h2.tail NONE in
    let Q : ℕ → Type 0 = λ q. SpellsChain f2 b2 n h.head xs q NONE in
    let size_is : h2.size ≡ h.size = ap (λ (q : Header). q.size) header in
    let size_was : h.size ≡ length xs = s.size in
    record {
      links = (ap (λ (q : Header). q.head) header, back_is, subst P (sym forward_is) (subst Q tail_is run));
      size = omega (arith, size_is, size_was);
      distinct = (apart, s.distinct);
      members = (
        (
          subst (λ q. n < q) (sym (put_len nodes nodes1 nodes2 l h h2 n p)) p.there,
          p.back.list n ∙ ap (λ (q : Node). q.list) stored,
        ),
        Each-both (IsMember nodes l) (λ m. m ≢ n) (IsMember nodes2 l)
            (λ m e ne. (
              subst (λ q. m < q) (sym (put_len nodes nodes1 nodes2 l h h2 n p)) e.0,
              p.back.list m ∙ ap (λ (q : Node). q.list) (kept m ne) ∙ e.1,
            ))
            xs s.members apart,
      );
    }

-- a node of another list keeps its record where one is put before this list
pub KeepsOthers-put : (nodes nodes1 nodes2 : List Node) (l : ℕ) (h h2 : Header) (n : ℕ) (xs : List ℕ)
    → PutBefore nodes nodes1 nodes2 l h h2 n → SpellsList nodes l h xs → KeepsOthers nodes nodes2 l n
KeepsOthers-put nodes nodes1 nodes2 l h h2 n xs p s = record {
  len = put_len nodes nodes1 nodes2 l h h2 n p;
  records = λ m lt ne other.
      let same : node_at nodes1 m ≡ node_at nodes m = put_kept nodes nodes1 nodes2 l h h2 n p m ne in
      let off : m ≢ h.head =
      Spells-first_has (forward_of nodes) (back_of nodes) (λ q. m ≢ q) NONE h.head xs h.tail NONE s.links
      (exists_apart nodes m p.few lt)
      (Each-weaker (IsMember nodes l) (λ k. m ≢ k) (λ k e at. other (ap (list_of nodes) at ∙ e.1)) xs s.members) in (
        p.back.forward m ∙ ap (λ (q : Node). q.forward) same,
        p.back.back m off ∙ ap (λ (q : Node). q.back) same,
        p.back.list m ∙ ap (λ (q : Node). q.list) same,
      );
}

-- a list that lacks a node has room for one more
pub put_room : (nodes nodes1 nodes2 : List Node) (l : ℕ) (h h2 : Header) (n : ℕ) (xs : List ℕ)
    → PutBefore nodes nodes1 nodes2 l h h2 n → SpellsList nodes l h xs → times n xs ≡ 0 → h2.size + 1 ≤ NODES_MAX
put_room nodes nodes1 nodes2 l h h2 n xs p s free =
    let long : suc (length xs) ≤ length nodes =
    length-le_from_AllDiffer (length nodes) (n ∷ xs) (apart-from_times n xs free, s.distinct)
    (p.there, Each-weaker (IsMember nodes l) (λ m. m < length nodes) (λ m e. e.0) xs s.members) in
    let few : length nodes ≤ NODES_MAX = p.few in
    let size_was : h.size ≡ length xs = s.size in
    let size_is : h2.size ≡ h.size =
    ap (λ (q : Header). q.size) (p.header ∙ with_tail-is (eqb h.head NONE) (record h { head = n }) n) in
    omega (arith, long, few, size_is, size_was)

-- the first node of a run is what its first link leads to
pub first_of-run : (f b : ℕ → ℕ) (before first : ℕ) (xs : List ℕ) (last : ℕ) → SpellsChain f b before first xs last NONE
    → AllByRecursion (λ m. m ≢ NONE) xs → node_or_none first ≡ first_of xs
first_of-run f b before first [] last s a = rw (eq-eqb first NONE s.0) refl
first_of-run f b before first (x ∷ xs) last s a =
    rw (ne_eqb first NONE (λ e. a.0 (sym s.0 ∙ e))) (ap (λ (q : ℕ). Some q) s.0)

-- a run that is not empty ends in its last node
last_is : (f b : ℕ → ℕ) (before first x : ℕ) (xs : List ℕ) (last after : ℕ)
    → SpellsChain f b before first (x ∷ xs) last after → Some last ≡ last_of (x ∷ xs)
last_is f b before first x [] last after s = ap (λ (q : ℕ). Some q) s.2.1
last_is f b before first x (y ∷ ys) last after s = last_is f b x (f x) y ys last after s.2 ∙ sym (last_of-cons x y ys)

-- the last node of a run is what its last link leads to
pub last_of-run : (f b : ℕ → ℕ) (before first : ℕ) (xs : List ℕ) (last after : ℕ) → before ≡ NONE
    → SpellsChain f b before first xs last after → AllByRecursion (λ m. m ≢ NONE) xs → node_or_none last ≡ last_of xs
last_of-run f b before first [] last after e s a = rw (eq-eqb last NONE (s.1 ∙ e)) refl
last_of-run f b before first (x ∷ xs) last after e s a =
    rw (ne_eqb last NONE (Spells-last f b (λ m. m ≢ NONE) before first x xs last after s a))
    (last_is f b before first x xs last after s)

-- behind a node comes what its forward link leads to
pub next_of-SpellsList : (nodes : List Node) (l : ℕ) (h : Header) (n : ℕ) (xs : List ℕ) → length nodes ≤ NODES_MAX
    → SpellsList nodes l h xs → times n xs ≡ 1 → node_or_none (forward_of nodes n) ≡ next_of n xs
next_of-SpellsList nodes l h n xs few s once =
    let sp = split_at n xs once in
    let P : List ℕ → Type 0 = λ q. SpellsList nodes l h q in
    let t = subst P sp.whole s in
    let parts = Spells-split (forward_of nodes) (back_of nodes) NONE h.head sp.front n sp.rest h.tail NONE t.links in
    let exist = Each-parts (λ m. m ≢ NONE) sp.front (n ∷ sp.rest) (members_apart nodes l _ few t.members) in
    first_of-run (forward_of nodes) (back_of nodes) n (forward_of nodes n) sp.rest h.tail parts.1 exist.1.1
    ∙ sym (ap (next_of n) sp.whole ∙ next_of-split n sp.front sp.rest sp.before)

-- and before it comes what its back link leads to
pub previous_of-SpellsList : (nodes : List Node) (l : ℕ) (h : Header) (n : ℕ) (xs : List ℕ) → length nodes ≤ NODES_MAX
    → SpellsList nodes l h xs → times n xs ≡ 1 → node_or_none (back_of nodes n) ≡ previous_of n xs
previous_of-SpellsList nodes l h n xs few s once =
    let sp = split_at n xs once in
    let P : List ℕ → Type 0 = λ q. SpellsList nodes l h q in
    let t = subst P sp.whole s in
    let parts = Spells-split (forward_of nodes) (back_of nodes) NONE h.head sp.front n sp.rest h.tail NONE t.links in
    let exist = Each-parts (λ m. m ≢ NONE) sp.front (n ∷ sp.rest) (members_apart nodes l _ few t.members) in
    last_of-run (forward_of nodes) (back_of nodes) NONE h.head sp.front (back_of nodes n) n refl parts.0 exist.0
    ∙ sym (ap (previous_of n) sp.whole ∙ previous_of-split n sp.front sp.rest sp.before sp.behind)
