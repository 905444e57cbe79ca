-- Which class has a chunk.
use Rattle.std.proofs.Common.{◌≡◌, ℕ, zero, suc, ◌<◌, ◌≤◌, cond, leb, ltb, true, List, [], ◌∷◌, length, slice_index_or, slice_set, refl, sym, ap, ◌∙◌, subst, arith, ⊎_elim}
use Rattle.std.proofs.lemmas.Bool.{and_parts, and_from, ltb-true, leb-true, lt-ltb, le-ltb, le-leb, cases_lt, cond-true, cond-false}
use Rattle.model_state.specs.State.{State, ClassState, class_at, no_class, class_from, class_of}
use Rattle.model_state.specs.Worlds.{owns, Tiles}

-- the chunk of a class is from its first on and below its end
pub owned : (k : ClassState) (c : ℕ) → owns k c ≡ true → (k.first ≤ c) × (c < k.end)
owned k c own = let both = and_parts (leb k.first c) (ltb c k.end) own in (
  leb-true k.first c both.0,
  ltb-true c k.end both.1,
)

-- a chunk from the first on and below the end is of the class
pub owning : (k : ClassState) (c : ℕ) → k.first ≤ c → c < k.end → owns k c ≡ true
owning k c from below = and_from (leb k.first c) (ltb c k.end) (le-leb k.first c from) (lt-ltb c k.end below)

-- a chunk below the end of the first class is of it
pub class_here : (k : ClassState) (ks : List ClassState) (c : ℕ) → c < k.end → class_from (k ∷ ks) c ≡ 0
class_here k ks c below = cond-true (ltb c k.end) 0 (suc (class_from ks c)) (lt-ltb c k.end below)

-- a chunk behind the first class is of one of the others
pub class_there : (k : ClassState) (ks : List ClassState) (c : ℕ) → k.end ≤ c → class_from (k ∷ ks) c
    ≡ suc (class_from ks c)
class_there k ks c past = cond-false (ltb c k.end) 0 (suc (class_from ks c)) (le-ltb c k.end past)

-- the classes go upwards
pub tiles_up : (from : ℕ) (ks : List ClassState) (end : ℕ) → Tiles from ks end → from ≤ end
tiles_up from [] end t = omega (arith, t)
tiles_up from (k ∷ ks) end t = omega (arith, t.0, t.1, tiles_up k.end ks end t.2)

-- the class that a chunk is of exists, and has it
pub class_found : (from : ℕ) (ks : List ClassState) (end c : ℕ) → Tiles from ks end → from ≤ c → c < end
    → (class_from ks c < length ks) × (owns (slice_index_or ks (class_from ks c) no_class) c ≡ true)
class_found from [] end c t low high = absurd (omega (arith, t))
class_found from (k ∷ ks) end c t low high =
    ⊎_elim here (λ past. there past (class_found k.end ks end c t.2 past high)) (cases_lt c k.end)
  where
    here : c < k.end → (class_from (k ∷ ks) c < suc (length ks))
        × (owns (slice_index_or (k ∷ ks) (class_from (k ∷ ks) c) no_class) c ≡ true)
    here below = subst (λ (n : ℕ). (n < suc (length ks)) × (owns (slice_index_or (k ∷ ks) n no_class) c ≡ true))
        (sym (class_here k ks c below)) (omega arith, owning k c (omega (arith, t.0)) below)

    there : k.end ≤ c → (class_from ks c < length ks) × (owns (slice_index_or ks (class_from ks c) no_class) c ≡ true)
        → (class_from (k ∷ ks) c < suc (length ks))
        × (owns (slice_index_or (k ∷ ks) (class_from (k ∷ ks) c) no_class) c ≡ true)
    there past found = subst (λ (n : ℕ). (n < suc (length ks)) × (owns (slice_index_or (k ∷ ks) n no_class) c ≡ true))
        (sym (class_there k ks c past)) (omega (arith, found.0), found.1)

-- a chunk that a class has is of it, and in range
pub class_is : (from : ℕ) (ks : List ClassState) (end k c : ℕ) → Tiles from ks end → k < length ks
    → owns (slice_index_or ks k no_class) c ≡ true
    → (class_from ks c ≡ k) × (from ≤ c) × (c < end)
class_is from [] end k c t within own = absurd (omega arith)
class_is from (x ∷ ks) end zero c t within own = let o = owned x c own in let up = tiles_up x.end ks end t.2 in
    (class_here x ks c o.1, omega (arith, t.0, o.0), omega (arith, o.1, up))
class_is from (x ∷ ks) end (suc k) c t within own = let o = class_is x.end ks end k c t.2 (omega arith) own in
    (class_there x ks c o.1 ∙ ap suc o.0, omega (arith, t.0, t.1, o.1), o.2)

-- a chunk past the end is of no class
pub class_past : (from : ℕ) (ks : List ClassState) (end c : ℕ) → Tiles from ks end → end ≤ c → class_from ks c
    ≡ length ks
class_past from [] end c t past = refl
class_past from (k ∷ ks) end c t past = let up = tiles_up k.end ks end t.2 in class_there k ks c (omega (arith, up))
    ∙ ap suc (class_past k.end ks end c t.2 past)

-- a class with the same bounds in the place of another leaves the classes of all chunks
pub class_kept : (ks : List ClassState) (k : ℕ) (x : ClassState) (c : ℕ) → x.end ≡ (slice_index_or ks k no_class).end
    → class_from (slice_set ks k x) c ≡ class_from ks c
class_kept [] k x c same = refl
class_kept (y ∷ ks) zero x c same = ap (λ (n : ℕ). cond (ltb c n) 0 (suc (class_from ks c))) same
class_kept (y ∷ ks) (suc k) x c same = ap (λ (n : ℕ). cond (ltb c y.end) 0 (suc n)) (class_kept ks k x c same)

-- and it leaves the tiling
pub tiles_kept : (from : ℕ) (ks : List ClassState) (end k : ℕ) (x : ClassState) → x.first
    ≡ (slice_index_or ks k no_class).first → x.end ≡ (slice_index_or ks k no_class).end
    → Tiles from ks end → Tiles from (slice_set ks k x) end
tiles_kept from [] end k x first last t = t
tiles_kept from (y ∷ ks) end zero x first last t = (
  first ∙ t.0,
  omega (arith, first, last, t.1),
  subst (λ (n : ℕ). Tiles n ks end) (sym last) t.2,
)
tiles_kept from (y ∷ ks) end (suc k) x first last t = (t.0, t.1, tiles_kept y.end ks end k x first last t.2)

module _ (s : State) (tiles : Tiles 0 s.classes (length s.chunks)) where
  -- a chunk in range has a class
  pub class_within : (c : ℕ) → c < length s.chunks → class_of s c < length s.classes
  class_within c in_range = (class_found 0 s.classes (length s.chunks) c tiles (omega arith) in_range).0

  -- and its class has it
  pub class_owns : (c : ℕ) → c < length s.chunks → owns (class_at s (class_of s c)) c ≡ true
  class_owns c in_range = (class_found 0 s.classes (length s.chunks) c tiles (omega arith) in_range).1

  -- a chunk that a class has is of that class
  pub owner : (k c : ℕ) → k < length s.classes → owns (class_at s k) c ≡ true → class_of s c ≡ k
  owner k c within own = (class_is 0 s.classes (length s.chunks) k c tiles within own).0

  -- and is in range
  pub owned_in_range : (k c : ℕ) → k < length s.classes → owns (class_at s k) c ≡ true → c < length s.chunks
  owned_in_range k c within own = (class_is 0 s.classes (length s.chunks) k c tiles within own).2

  -- a number past the chunks is of no class
  pub class_out : (c : ℕ) → length s.chunks ≤ c → class_of s c ≡ length s.classes
  class_out c past = class_past 0 s.classes (length s.chunks) c tiles past
