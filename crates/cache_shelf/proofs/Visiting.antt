-- The entries that are visited are those that haven't expired.
use Rattle.std.proofs.Common.{◌≡◌, ℕ, zero, suc, ◌+◌, ◌<◌, ◌≤◌, Bool, true, false, not, cond, ◌⊎◌, inl, inr, List, [], ◌∷◌, ◌++◌, map, IsSome, is_some, refl, sym, ap, ap₂, ◌∙◌, subst, arith}
use Rattle.std.specs.List.{Contains}
use Rattle.std.proofs.lemmas.Bool.{and_parts}
use Rattle.std.proofs.lemmas.List.{map-append}
use native.Mathlib.Decide.{ℕ_discrete}
use Rattle.bump_steps.specs.declared.views.ClassSheet.{ClassSheet}
use Rattle.bump_steps.specs.Views.{last_label}
use Rattle.cache_lists.specs.Expiring.{expired_at}
use Rattle.cache_lists.specs.Linked.{linked_at}
use Rattle.cache_part.specs.Parts.{PartView, IsPart}
use Rattle.cache_part.specs.Visiting.{has_unexpired, unexpired_among}
use Rattle.cache_part.proofs.PartLemmas.{owned_from, owned_within}
use Rattle.cache_part.proofs.VisitLemmas.{among_more, linked_fresh}
use Rattle.bump_rules.specs.Expiry.{has_expired}
use Rattle.cache_shelf.specs.Visiting.{AreUnexpired, Entry, IsUnexpired, KeysDiffer, entry_at, first_unexpired, unexpired_entries}

-- what is in a list is its first or one of the others
contains_cases : {A : Type 0} (x : A) (xs : List A) (y : A) → Contains (x ∷ xs) y → (x ≡ y) ⊎ Contains xs y
contains_cases x xs y (zero, low, at) = inl at
contains_cases x xs y (suc k, low, at) = inr (k, omega (arith, low), at)

-- and the others are in it
contains_more : {A : Type 0} (x : A) (xs : List A) (y : A) → Contains xs y → Contains (x ∷ xs) y
contains_more x xs y (k, low, at) = (suc k, omega (arith, low), at)

-- so is the first
contains_first : {A : Type 0} (x : A) (xs : List A) → Contains (x ∷ xs) x
contains_first x xs = (0, omega arith, refl)

-- what isn't so isn't
not_so : (b : Bool) → not b ≡ true → b ≡ false
not_so true e = absurd (cc e)
not_so false e = refl

module _ (now : ℕ) (part : PartView) where
  -- the entries of so many chunks from this one on
  abbrev entries : ℕ → ℕ → List Entry
  entries first count = map (entry_at part) (unexpired_among now part.book.sheet first count)

  -- a chunk from this one on whose entry hasn't expired
  record IsFrom (first : ℕ) (entry : Entry) : Type 0 where
    pub chunk : ℕ
    pub behind : first ≤ chunk
    pub linked : IsSome (linked_at part.book.sheet chunk)
    pub fresh : expired_at now part.book.sheet chunk ≡ false
    pub is : entry_at part chunk ≡ entry

  from_here : (first : ℕ) → has_unexpired now part.book.sheet first ≡ true → IsFrom first (entry_at part first)
  from_here first so =
      let both = and_parts (is_some (linked_at part.book.sheet first)) (not (expired_at now part.book.sheet first)) so in
      record { chunk = first; behind = omega arith; linked = both.0; fresh = not_so _ both.1; is = refl }

  from_next : (first : ℕ) (entry : Entry) → IsFrom (first + 1) entry → IsFrom first entry
  from_next first entry one = record {
    chunk = one.chunk;
    behind = omega (arith, one.behind);
    linked = one.linked;
    fresh = one.fresh;
    is = one.is;
  }

  -- each of the entries is that of one
  each_from : (first count : ℕ) (entry : Entry) → Contains (entries first count) entry → IsFrom first entry
  each_from first zero entry (k, low, at) = absurd (omega (arith, low))
  each_from first (suc count) entry has =
      by (has_unexpired now part.book.sheet first) refl (λ more. each_from (first + 1) count entry more) has
    where
      either : has_unexpired now part.book.sheet first ≡ true
          → (Contains (entries (first + 1) count) entry → IsFrom (first + 1) entry)
          → (entry_at part first ≡ entry) ⊎ Contains (entries (first + 1) count) entry → IsFrom first entry
      either so later (inl same) = subst (IsFrom first) same (from_here first so)
      either so later (inr more) = from_next first entry (later more)

      by : (b : Bool) → has_unexpired now part.book.sheet first ≡ b
          → (Contains (entries (first + 1) count) entry → IsFrom (first + 1) entry)
          → Contains (map (entry_at part) (cond b (first ∷ unexpired_among now part.book.sheet (first + 1) count)
          (unexpired_among now part.book.sheet (first + 1) count))) entry → IsFrom first entry
      by true so later has =
          either so later (contains_cases (entry_at part first) (entries (first + 1) count) entry has)
      by false so later has = from_next first entry (later has)

  -- and each such chunk's entry is among them
  each_in : (first count chunk : ℕ) → first ≤ chunk → chunk < first + count
      → has_unexpired now part.book.sheet chunk ≡ true → Contains (entries first count) (entry_at part chunk)
  each_in first zero chunk low high so = absurd (omega (arith, low, high))
  each_in first (suc count) chunk low high so =
      by (has_unexpired now part.book.sheet first) refl (ℕ_discrete chunk first)
      (λ unlike. each_in (first + 1) count chunk (omega (arith, low, unlike)) (omega (arith, high)) so)
    where
      here : Dec (chunk ≡ first)
          → ((chunk ≡ first → ⊥) → Contains (entries (first + 1) count) (entry_at part chunk))
          → Contains (entry_at part first ∷ entries (first + 1) count) (entry_at part chunk)
      here (yes same) later =
          subst (λ c. Contains (entry_at part c ∷ entries (first + 1) count) (entry_at part chunk)) same
          (contains_first (entry_at part chunk) (entries (first + 1) count))
      here (no unlike) later =
          contains_more (entry_at part first) (entries (first + 1) count) (entry_at part chunk) (later unlike)

      by : (b : Bool) → has_unexpired now part.book.sheet first ≡ b → Dec (chunk ≡ first)
          → ((chunk ≡ first → ⊥) → Contains (entries (first + 1) count) (entry_at part chunk))
          → Contains (map (entry_at part) (cond b (first ∷ unexpired_among now part.book.sheet (first + 1) count)
          (unexpired_among now part.book.sheet (first + 1) count))) (entry_at part chunk)
      by true it which later = here which later
      by false it which later =
          later (λ same. absurd (cc (sym so ∙ (ap (has_unexpired now part.book.sheet) same ∙ it))))

  module _ (is : IsPart part.seed part.key_words part.book.sheet part.index) where
    -- no two have one key
    differ : (first count : ℕ) → KeysDiffer (entries first count)
    unfolding from_here
    differ first zero = tt
    differ first (suc count) =
        by (has_unexpired now part.book.sheet first) refl (differ (first + 1) count)
      where
        other_key : has_unexpired now part.book.sheet first ≡ true → (other : Entry)
            → Contains (entries (first + 1) count) other → (entry_at part first).key ≡ other.key → ⊥
        other_key so other has same =
            let one = from_here first so in let two = each_from (first + 1) count other has in
            let both : first ≡ two.chunk = is.agrees.once first two.chunk one.linked two.linked
            (same ∙ sym (ap (λ (e : Entry). e.key) two.is)) in
            omega (arith, both, two.behind)

        by : (b : Bool) → has_unexpired now part.book.sheet first ≡ b → KeysDiffer (entries (first + 1) count)
            → KeysDiffer (map (entry_at part) (cond b (first ∷ unexpired_among now part.book.sheet (first + 1) count)
            (unexpired_among now part.book.sheet (first + 1) count)))
        by true so later = (other_key so, later)
        by false so later = later

    -- what is kept and hasn't expired is the entry of a chunk of the class
    kept_in : (entry : Entry) → IsUnexpired now part entry → Contains (unexpired_entries now part) entry
    kept_in entry unexpired =
        let kept = unexpired.1 in let chunk = kept.chunk in let own = is.own chunk kept.under.linked in
        let low = owned_from part.book.sheet chunk own in
        let within = owned_within part.book.sheet part.index is.count chunk own in
        let fresh = ap (λ at. has_expired at now) kept.label ∙ unexpired.0 in
        let same : entry_at part chunk ≡ entry =
        ap₂ (λ k v. record { key = k; value = v; expires = last_label part.book.sheet chunk }) kept.under.key kept.value
        ∙ ap (λ e. record { key = entry.key; value = entry.value; expires = e }) kept.label in
        subst (Contains (unexpired_entries now part)) same
        (each_in part.book.sheet.first part.book.sheet.count chunk low (omega (arith, within, is.count))
        (linked_fresh now part.book.sheet chunk kept.under.linked fresh))

    -- the entries of all the class's chunks are those that haven't expired
    pub unexpired_are : AreUnexpired now (unexpired_entries now part) part
    unexpired_are = record {
      kept = λ entry has.
          let one = each_from part.book.sheet.first part.book.sheet.count entry has in
          subst (IsUnexpired now part) one.is (
            one.fresh,
            record {
              chunk = one.chunk;
              under = record { linked = one.linked; key = refl };
              value = refl;
              label = refl;
            },
          );
      all = kept_in;
      once = differ part.book.sheet.first part.book.sheet.count;
      order = refl;
    }

  -- the next chunk's entry is one more where it has one
  pub entries_more : (count : ℕ) → first_unexpired now part (suc count) ≡ first_unexpired now part count
      ++ cond (has_unexpired now part.book.sheet (part.book.sheet.first + count))
      (entry_at part (part.book.sheet.first + count) ∷ []) []
  entries_more count =
      let chunk = part.book.sheet.first + count in let so_far = unexpired_among now part.book.sheet part.book.sheet.first count in
      ap (map (entry_at part)) (among_more now part.book.sheet part.book.sheet.first count)
      ∙ (map-append (entry_at part) so_far (cond (has_unexpired now part.book.sheet chunk) (chunk ∷ []) [])
      ∙ ap (λ more. first_unexpired now part count ++ more) (one (has_unexpired now part.book.sheet chunk) chunk))
    where
      one : (b : Bool) (chunk : ℕ)
          → map (entry_at part) (cond b (chunk ∷ []) []) ≡ cond b (entry_at part chunk ∷ []) []
      one true chunk = refl
      one false chunk = refl
