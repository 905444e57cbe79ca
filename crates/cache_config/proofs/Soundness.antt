-- A configuration without faults is within its bounds, and so is its store.
use Rattle.std.proofs.Common.{◌≡◌, ℕ, zero, suc, ◌+◌, ◌*◌, ◌<◌, ◌≤◌, Bool, true, false, not, cond, ◌&&◌, ◌||◌, List, [], ◌∷◌, length, Option, Some, None, sym, ap, ap₂, ◌∙◌, arith, ne_eqb, refl, subst, le-leb}
use Rattle.std.specs.Prelude.{◌==◌, is_none, nat_le, nat_lt}
use Rattle.std.specs.List.{list_any, slice_get}
use Rattle.std.proofs.Math.Nat.{mul-le-mul_left, mul-le-mul_right, mul-suc, one-le-mul}
use Rattle.std.proofs.lemmas.Option.{slice_get_within}
use Rattle.std.proofs.lemmas.Bool.{and_parts, le-ltb, leb-true, ltb-false, not-false, or_parts}
use Rattle.bump_rules.specs.declared.configs.ClassConfig.{ClassConfig}
use Rattle.bump_rules.specs.declared.configs.ConfigFault.TheVariants as store
use Rattle.bump_rules.specs.Caches.{cache_refs}
use Rattle.bump_rules.specs.Configs.{chunks_of, first_fault_within, have_wrong_chunks, is_within, most_capacity, most_chunks, most_classes, most_workers, wide_most}
use Rattle.cache_config.specs.declared.config.CacheConfig.{CacheConfig}
use Rattle.cache_config.specs.declared.config.CacheFault.TheVariants.{Items, Spare, Shares, Parts, Readers, Ring}
use Rattle.cache_config.specs.Configs.{all_chunks, class_of, first_cache_fault, items_in, most_parts, most_readers}
use Rattle.cache_config.proofs.Evens.{share_some, shares_all, shares_before, shares_most}

-- a test for a fault that found none failed, and the tests behind it found none
clear : {A : Type 0} (b : Bool) (x : A) (o : Option A) → cond b (Some x) o ≡ None → (b ≡ false) × (o ≡ None)
clear true x o e = absurd (let u : ⊥ = cc e in u)
clear false x o e = (refl, e)

-- a number that doesn't test as out of its bounds is within them
within_of : (least most n : ℕ) → not (is_within least most n) ≡ false → (least ≤ n) × (n ≤ most)
within_of least most n e = let both = and_parts (nat_le least n) (nat_le n most) (not-false _ e) in
    (leb-true least n both.0, leb-true n most both.1)

-- the bounds of a configuration without faults
pub record IsSound (config : CacheConfig) : Type 0 where
  pub items_least : 1 ≤ config.items
  pub spare_least : 1 ≤ config.spare
  pub chunks_most : all_chunks config ≤ most_chunks
  pub parts_least : 1 ≤ config.parts
  pub parts_most : config.parts ≤ most_parts
  pub parts_few : config.parts ≤ config.items
  pub readers_least : 1 ≤ config.readers
  pub readers_most : config.readers ≤ most_readers
  pub workers_most : config.readers * config.parts ≤ most_workers
  pub ring_least : 1 ≤ config.ring
  pub ring_most : config.ring ≤ 65536

-- so many readers of so many parts have no more workers than a store may have
few_workers : (readers parts : ℕ) → readers ≤ most_readers → parts ≤ most_parts → readers * parts ≤ most_workers
few_workers readers parts few some =
    omega (arith, mul-le-mul_right parts few, some)

-- a configuration without faults is within them
pub sound : (config : CacheConfig) → first_cache_fault config ≡ None → IsSound config
sound config none =
    let no_items = clear (not (is_within 1 most_chunks config.items)) Items _ none in
    let no_spare = clear (nat_lt config.spare 1 || nat_lt most_chunks (all_chunks config)) Spare _ no_items.1 in
    let no_shares = clear (nat_lt 100 (config.hot + config.warm)) Shares _ no_spare.1 in
    let no_parts = clear (not (is_within 1 most_parts config.parts) || nat_lt config.items config.parts) Parts _
    no_shares.1 in
    let no_readers = clear (not (is_within 1 most_readers config.readers)) Readers _ no_parts.1 in
    let no_ring = clear (not (is_within 1 most_capacity config.ring)) Ring _ no_readers.1 in
    let spare = or_parts _ _ no_spare.0 in
    let parts = or_parts _ _ no_parts.0 in
    let readers = within_of 1 most_readers config.readers no_readers.0 in
    let count = within_of 1 most_parts config.parts parts.0 in
    let ring = within_of 1 65536 config.ring no_ring.0 in
    record {
      items_least = (within_of 1 most_chunks config.items no_items.0).0;
      spare_least = ltb-false config.spare 1 spare.0;
      chunks_most = ltb-false most_chunks (all_chunks config) spare.1;
      parts_least = count.0;
      parts_most = count.1;
      parts_few = ltb-false config.items config.parts parts.1;
      readers_least = readers.0;
      readers_most = readers.1;
      workers_most = few_workers config.readers config.parts readers.1 count.1;
      ring_least = ring.0;
      ring_most = ring.1;
    }

-- the spare chunks of so many parts
abbrev pub spare_before : ℕ → ℕ → ℕ
spare_before spare zero = 0
spare_before spare (suc part) = spare_before spare part + spare

-- are these
spare_is : (spare part : ℕ) → spare_before spare part ≡ spare * part
spare_is spare zero = omega arith
spare_is spare (suc part) = omega (arith, spare_is spare part, mul-suc spare part)

-- so many chunks the first parts have
abbrev pub chunks_in_first : CacheConfig → ℕ → ℕ
chunks_in_first config part = shares_before config.items config.parts part + spare_before config.spare part

-- one part more has its own
pub chunks_in_next : (config : CacheConfig) (part : ℕ)
    → chunks_in_first config part + (class_of config part).chunks ≡ chunks_in_first config (suc part)
chunks_in_next config part = omega arith

-- and the first ones no more
pub chunks_few : (config : CacheConfig) → IsSound config → (part : ℕ) → part ≤ config.parts
    → chunks_in_first config part ≤ most_chunks
chunks_few config is part low =
    let items : shares_before config.items config.parts part ≤ config.items =
    shares_most config.items config.parts part is.parts_least low in
    let spare : config.spare * part ≤ config.spare * config.parts = mul-le-mul_left config.spare low in
    omega (arith, items, spare, spare_is config.spare part, is.chunks_most)

-- classes that are those of the parts from one on have the parts' chunks
chunks_from : (config : CacheConfig) (from : ℕ) (classes : List ClassConfig)
    → ((i : ℕ) → i < length classes → slice_get classes i ≡ Some (class_of config (from + i)))
    → chunks_in_first config from + chunks_of classes ≡ chunks_in_first config (from + length classes)
chunks_from config from [] each =
    let same : from + 0 ≡ from = omega arith in
    let none : chunks_in_first config from + 0 ≡ chunks_in_first config from = omega arith in
    none ∙ ap (chunks_in_first config) (sym same)
chunks_from config from (class ∷ classes) each =
    let here : from + 0 ≡ from = omega arith in
    let first : class ≡ class_of config from =
    let e : Some class ≡ Some (class_of config (from + 0)) = each 0 (omega arith) in
    cc e ∙ ap (class_of config) here in
    let more : chunks_in_first config (suc from) + chunks_of classes
    ≡ chunks_in_first config (suc from + length classes) = chunks_from config (suc from) classes (λ i low.
    let next : from + suc i ≡ suc from + i = omega arith in
    each (suc i) (omega (arith, low)) ∙ ap (λ n. Some (class_of config n)) next) in
    let own : class.chunks ≡ (class_of config from).chunks = ap (λ (k : ClassConfig). k.chunks) first in
    let end : suc from + length classes ≡ from + suc (length classes) = omega arith in
    let sum : chunks_in_first config from + (class.chunks + chunks_of classes)
    ≡ chunks_in_first config (suc from) + chunks_of classes = omega (arith, own, chunks_in_next config from) in
    sum ∙ (more ∙ ap (chunks_in_first config) end)

-- each part has a chunk
some_chunks : (config : CacheConfig) → IsSound config → (part : ℕ) → part < config.parts
    → 1 ≤ (class_of config part).chunks
some_chunks config is part low =
    let some : 1 ≤ items_in config part =
    share_some config.items config.parts part is.parts_least is.parts_few in
    omega (arith, some)

-- where each class has some none has none
none_empty : (classes : List ClassConfig)
    → ((i : ℕ) (class : ClassConfig) → slice_get classes i ≡ Some class → 1 ≤ class.chunks)
    → list_any (λ (class : ClassConfig). class.chunks == 0) classes ≡ false
none_empty [] each = refl
none_empty (class ∷ classes) each =
    let some : 1 ≤ class.chunks = each 0 class refl in
    let unlike : class.chunks ≡ 0 → ⊥ = λ e. omega (arith, e, some) in
    ap₂ (λ a b. a || b) (ne_eqb class.chunks 0 unlike) (none_empty classes (λ i one at. each (suc i) one at))

-- a number within its bounds doesn't test as out of them
not_outside : (least most n : ℕ) → least ≤ n → n ≤ most → not (is_within least most n) ≡ false
not_outside least most n low high = ap₂ (λ a b. not (a && b)) (le-leb least n low) (le-leb n most high)

-- a test that fails leaves it to those behind it
passes : {A : Type 0} (b : Bool) (x : A) (o : Option A) → b ≡ false → is_none o ≡ true
    → is_none (cond b (Some x) o) ≡ true
passes true x o fails rest = absurd (let u : ⊥ = cc fails in u)
passes false x o fails rest = rest

-- a store of the parts' classes has no fault
pub valid_store : (config : CacheConfig) (classes : List ClassConfig) → IsSound config → length classes ≡ config.parts
    → ((part : ℕ) → part < config.parts → slice_get classes part ≡ Some (class_of config part))
    → is_none (first_fault_within wide_most (config.readers * config.parts) config.ring cache_refs 1 classes) ≡ true
valid_store config classes is count each =
    let workers : 1 ≤ config.readers * config.parts = one-le-mul is.readers_least is.parts_least in
    let none : list_any (λ (class : ClassConfig). class.chunks == 0) classes ≡ false =
    none_empty classes (λ i class at.
    let low : i < length classes = slice_get_within classes i class at in
    let within : i < config.parts = omega (arith, low, count) in
    let same : Some (class_of config i) ≡ Some class = sym (each i within) ∙ at in
    let own : class_of config i ≡ class = cc same in
    subst (λ (k : ClassConfig). 1 ≤ k.chunks) own (some_chunks config is i within)) in
    let all : chunks_in_first config 0 + chunks_of classes ≡ chunks_in_first config (0 + length classes) =
    chunks_from config 0 classes (λ i low.
    let within : i < config.parts = omega (arith, low, count) in
    let here : i ≡ 0 + i = omega arith in
    each i within ∙ ap (λ n. Some (class_of config n)) here) in
    let end : 0 + length classes ≡ config.parts = omega (arith, count) in
    let few : chunks_of classes ≤ most_chunks =
    let last : chunks_in_first config config.parts ≤ most_chunks = chunks_few config is config.parts (omega arith) in
    let same : chunks_in_first config (0 + length classes) ≡ chunks_in_first config config.parts =
    ap (chunks_in_first config) end in omega (arith, all, same, last) in
    passes (not (is_within 1 most_workers (config.readers * config.parts))) store.Workers _
    (not_outside 1 most_workers (config.readers * config.parts) workers is.workers_most)
    (passes (not (is_within 1 most_capacity config.ring)) store.Capacity _
    (not_outside 1 most_capacity config.ring is.ring_least is.ring_most)
    (passes (not (is_within 1 most_classes (length classes))) store.Classes _
    (not_outside 1 most_classes (length classes) (omega (arith, count, is.parts_least)) (omega (arith, count, is.parts_most)))
    (passes (have_wrong_chunks most_chunks classes) store.Chunks _
    (ap₂ (λ a b. a || b) none (le-ltb most_chunks (chunks_of classes) few)) refl)))
