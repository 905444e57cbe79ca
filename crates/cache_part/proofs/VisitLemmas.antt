-- Whether a chunk has an item that hasn't expired.
use Rattle.std.proofs.Common.{◌≡◌, ℕ, zero, suc, ◌+◌, Bool, true, false, ◌&&◌, not, [], ◌∷◌, ◌++◌, cond, filter, None, IsSome, is_some, refl, ap, ap₂, ◌∙◌, arith}
use Rattle.std.specs.List.{range_with_len}
use Rattle.std.proofs.lemmas.Bool.{and_parts}
use Rattle.std.proofs.lemmas.List.Elements.{filter-append}
use Rattle.bump_steps.specs.declared.views.ClassSheet.{ClassSheet}
use Rattle.cache_lists.specs.Expiring.{expired_at}
use Rattle.cache_lists.specs.Linked.{linked_at}
use Rattle.cache_part.specs.Visiting.{has_unexpired, unexpired_among}

module _ (now : ℕ) (class : ClassSheet) (chunk : ℕ) where
  -- it has one that is linked and hasn't expired
  pub linked_fresh : IsSome (linked_at class chunk) → expired_at now class chunk ≡ false
      → has_unexpired now class chunk ≡ true
  linked_fresh linked fresh = ap₂ (λ some expired. some && not expired) linked fresh

  -- it has none where nothing is linked
  pub none_linked : linked_at class chunk ≡ None → has_unexpired now class chunk ≡ false
  none_linked none = ap (λ at. is_some at && not (expired_at now class chunk)) none

  -- and none where it has expired
  pub none_fresh : expired_at now class chunk ≡ true → has_unexpired now class chunk ≡ false
  none_fresh expired =
      ap (λ b. is_some (linked_at class chunk) && not b) expired ∙ no (is_some (linked_at class chunk))
    where
      no : (b : Bool) → (b && false) ≡ false
      no true = refl
      no false = refl

-- so many numbers and one more
range_more : (first count : ℕ) → range_with_len first (suc count) ≡ range_with_len first count ++ (first + count) ∷ []
range_more first zero = let same : first ≡ first + 0 = omega arith in ap (λ n. n ∷ []) same
range_more first (suc count) =
    let same : first + 1 + count ≡ first + suc count = omega arith in
    ap (λ more. first ∷ more) (range_more (first + 1) count
    ∙ ap (λ n. range_with_len (first + 1) count ++ n ∷ []) same)

-- the next chunk is among them where it has one
pub among_more : (now : ℕ) (class : ClassSheet) (first count : ℕ) → unexpired_among now class first (suc count)
    ≡ unexpired_among now class first count
    ++ cond (has_unexpired now class (first + count)) ((first + count) ∷ []) []
among_more now class first count = ap (filter (has_unexpired now class)) (range_more first count)
    ∙ filter-append (has_unexpired now class) (range_with_len first count) ((first + count) ∷ [])

-- what has one is linked
pub linked_where : (now : ℕ) (class : ClassSheet) (chunk : ℕ) → has_unexpired now class chunk ≡ true
    → IsSome (linked_at class chunk)
linked_where now class chunk so = (and_parts (is_some (linked_at class chunk)) (not (expired_at now class chunk)) so).0
