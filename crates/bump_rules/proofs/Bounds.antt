-- A configuration without faults is within its bounds.
use Rattle.std.proofs.Common.{◌≡◌, ℕ, ◌<◌, ◌≤◌, Bool, true, false, not, cond, ◌||◌, List, [], ◌∷◌, length, Option, Some, sym, ap, ◌∙◌, arith, eq-eqb, ne_eqb, refl}
use Rattle.std.specs.Prelude.{◌==◌, is_none, nat_le, nat_lt}
use Rattle.std.specs.List.{list_any}
use Rattle.std.proofs.lemmas.Bool.{and_parts, or_parts, leb-true, ltb-false, not-false}
use native.Mathlib.Decide.{ℕ_discrete}
use Rattle.bump_rules.specs.declared.configs.ClassConfig.{ClassConfig}
use Rattle.bump_rules.specs.declared.configs.ConfigFault.TheVariants.{Workers, Capacity, RefsLimit, Generation, Classes, Chunks}
use Rattle.bump_rules.specs.Configs.{chunks_of, first_fault, first_fault_within, is_within, most_refs, wide_most, HaveChunks, Bounds, most_chunks, most_workers, most_classes, most_capacity}

-- a test for a fault that found none failed, and the tests behind it found none
clear : {A : Type 0} (b : Bool) (x : A) (o : Option A) → is_none (cond b (Some x) o) ≡ true → (b ≡ false)
    × (is_none o ≡ true)
clear true x o e = absurd (let u : ⊥ = cc in u)
clear false x o e = (refl, e)

-- where no class tests as without chunks none is
have_chunks : (ks : List ClassConfig) → list_any (λ k. k.chunks == 0) ks ≡ false → HaveChunks ks
have_chunks [] e = tt
have_chunks (k ∷ ks) e = by (ℕ_discrete k.chunks 0) (λ rest. have_chunks ks rest)
  where
    by : Dec (k.chunks ≡ 0) → (list_any (λ k. k.chunks == 0) ks ≡ false → HaveChunks ks) → (0 < k.chunks)
        × HaveChunks ks
    by (yes none) rest = absurd (let u : ⊥ = cc (sym (ap (λ b. b || list_any (λ k. k.chunks == 0) ks)
        (eq-eqb k.chunks 0 none)) ∙ e) in u)
    by (no some) rest = (
      omega arith,
      rest (sym (ap (λ b. b || list_any (λ k. k.chunks == 0) ks)
          (ne_eqb k.chunks 0 some)) ∙ e),
    )

-- a number that doesn't test as 0 is 1 or more
some_of : (g : ℕ) → (g == 0) ≡ false → 1 ≤ g
some_of g e = by (ℕ_discrete g 0)
  where
    by : Dec (g ≡ 0) → 1 ≤ g
    by (yes none) = absurd (let u : ⊥ = cc (sym (eq-eqb g 0 none) ∙ e) in u)
    by (no some) = omega arith

-- a number that doesn't test as out of its bounds is within them
within_of : (least most n : ℕ) → not (is_within least most n) ≡ false → (least ≤ n) × (n ≤ most)
within_of least most n e = let both = and_parts (nat_le least n) (nat_le n most) (not-false _ e) in
    (leb-true least n both.0, leb-true n most both.1)

-- a configuration without faults is within its bounds
pub bounds : (workers capacity limit generation : ℕ) (classes : List ClassConfig)
    → is_none (first_fault_within wide_most workers capacity limit generation classes) ≡ true
    → Bounds workers capacity limit generation classes
bounds workers capacity limit generation classes valid =
    let no_workers = clear (not (is_within 1 most_workers workers)) Workers _ valid in
    let no_capacity = clear (not (is_within 1 most_capacity capacity)) Capacity _ no_workers.1 in
    let no_limit = clear (not (is_within 2 most_refs limit)) RefsLimit _ no_capacity.1 in
    let no_generation = clear (generation == 0) Generation _ no_limit.1 in
    let no_classes = clear (not (is_within 1 most_classes (length classes))) Classes _ no_generation.1 in
    let no_chunks = clear _ Chunks _ no_classes.1 in
    let w = within_of 1 most_workers workers no_workers.0 in
    let c = within_of 1 most_capacity capacity no_capacity.0 in
    let l = within_of 2 most_refs limit no_limit.0 in
    let k = within_of 1 most_classes (length classes) no_classes.0 in
    let n = or_parts (list_any (λ x. x.chunks == 0) classes) (nat_lt most_chunks (chunks_of classes)) no_chunks.0 in
    record {
      workers_least = w.0;
      workers_most = w.1;
      capacity_least = c.0;
      capacity_most = c.1;
      limit_least = l.0;
      limit_most = l.1;
      generation_least = some_of generation no_generation.0;
      classes_least = k.0;
      classes_most = k.1;
      chunks_each = have_chunks classes n.0;
      chunks_most = ltb-false most_chunks (chunks_of classes) n.1;
    }
