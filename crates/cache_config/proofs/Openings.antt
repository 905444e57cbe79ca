-- What a cache is opened with.
use Rattle.std.proofs.Common.{◌≡◌, ℕ, zero, suc, ◌+◌, ◌<◌, ◌≤◌, List, [], ◌∷◌, length, Some, None, refl, sym, ap, ◌∙◌, arith}
use Rattle.std.specs.List.{slice_get}
use Rattle.bump_rules.specs.Configs.{most_chunks}
use Rattle.bump_rules.specs.declared.configs.ClassConfig.{ClassConfig}
use Rattle.bump_rules.specs.declared.configs.Config.{Config}
use Rattle.bump_class.specs.Books.{BookView, new_book}
use Rattle.bump_steps.specs.Rule.{class_sheets}
use Rattle.bump_unlocked.specs.UnlockedStore.{new_books}
use Rattle.cache_config.specs.declared.config.CacheConfig.{CacheConfig}
use Rattle.cache_config.specs.Configs.{IsStoreOf, class_of, first_cache_fault}
use Rattle.cache_config.specs.Making.{AreNewBooks}
use Rattle.cache_config.specs.Making.{chunks_before}
use Rattle.cache_config.proofs.Soundness.{chunks_few, chunks_in_first, chunks_in_next, sound}

-- how many chunks the first so many of these classes have
abbrev chunks_of_first : ℕ → List ClassConfig → ℕ
chunks_of_first zero classes = 0
chunks_of_first (suc count) [] = 0
chunks_of_first (suc count) (class ∷ classes) = class.chunks + chunks_of_first count classes

-- a new Book of the class in this place
record IsBookAt (books : List BookView) (place class first chunks : ℕ) : Type 0 where
  pub book : BookView
  pub at : slice_get books place ≡ Some book
  pub class_is : book.sheet.class ≡ class
  pub first_is : book.sheet.first ≡ first
  pub count_is : book.sheet.count ≡ chunks
  pub unused : book.sheet.history ≡ []

-- the Books of classes are new ones
book_at : (classes : List ClassConfig) (fresh class first workers place : ℕ) (one : ClassConfig)
    → slice_get classes place ≡ Some one
    → IsBookAt (new_books (class_sheets fresh class first classes) classes workers) place (class + place)
    (first + chunks_of_first place classes) one.chunks
book_at [] fresh class first workers place one at = absurd (let u : ⊥ = cc at in u)
book_at (own ∷ classes) fresh class first workers zero one at =
    let is : own ≡ one = cc at in record {
      book = new_book (record {
        class = class;
        first = first;
        count = own.chunks;
        fresh = fresh;
        history = [];
        labels = [];
        words = [];
        applying = None;
        steps = [];
      }) own workers;
      at = refl;
      class_is = omega arith;
      first_is = omega arith;
      count_is = ap (λ (k : ClassConfig). k.chunks) is;
      unused = refl;
    }
book_at (own ∷ classes) fresh class first workers (suc place) one at =
    let more = book_at classes fresh (class + 1) (first + own.chunks) workers place one at in record {
      book = more.book;
      at = more.at;
      class_is = more.class_is ∙ (omega arith);
      first_is = more.first_is ∙ (omega arith);
      count_is = more.count_is;
      unused = more.unused;
    }

-- they are as many as the classes
count_of_books : (classes : List ClassConfig) (fresh class first workers : ℕ)
    → length (new_books (class_sheets fresh class first classes) classes workers) ≡ length classes
count_of_books [] fresh class first workers = refl
count_of_books (own ∷ classes) fresh class first workers =
    ap suc (count_of_books classes fresh (class + 1) (first + own.chunks) workers)

-- the first so many of the parts' classes have the chunks of these parts
chunks_are : (config : CacheConfig) (from : ℕ) (classes : List ClassConfig) (count : ℕ) → count ≤ length classes
    → ((i : ℕ) → i < length classes → slice_get classes i ≡ Some (class_of config (from + i)))
    → chunks_in_first config from + chunks_of_first count classes ≡ chunks_in_first config (from + count)
chunks_are config from classes zero low each =
    let same : from + 0 ≡ from = omega arith in
    let none : chunks_in_first config from + 0 ≡ chunks_in_first config from = omega arith in
    none ∙ ap (chunks_in_first config) (sym same)
chunks_are config from [] (suc count) low each = absurd (omega (arith, low))
chunks_are config from (class ∷ classes) (suc count) low each =
    let here : from + 0 ≡ from = omega arith in
    let e : Some class ≡ Some (class_of config (from + 0)) = each 0 (omega arith) in
    let one : class ≡ class_of config (from + 0) = cc e in
    let first : class ≡ class_of config from = one ∙ ap (class_of config) here in
    let own : class.chunks ≡ (class_of config from).chunks = ap (λ (k : ClassConfig). k.chunks) first in
    let more : chunks_in_first config (suc from) + chunks_of_first count classes
    ≡ chunks_in_first config (suc from + count) =
    chunks_are config (suc from) classes count (omega (arith, low)) (λ i below.
    let next : from + suc i ≡ suc from + i = omega arith in
    each (suc i) (omega (arith, below)) ∙ ap (λ n. Some (class_of config n)) next) in
    let end : suc from + count ≡ from + suc count = omega arith in
    let sum : chunks_in_first config from + (class.chunks + chunks_of_first count classes)
    ≡ chunks_in_first config (suc from) + chunks_of_first count classes =
    omega (arith, own, chunks_in_next config from) in
    sum ∙ (more ∙ ap (chunks_in_first config) end)

-- what comes before a part, as one reckons
pub before_is : (config : CacheConfig) (part : ℕ) → chunks_before config part ≡ chunks_in_first config part
before_is config zero = refl
before_is config (suc part) = ap (λ n. n + (class_of config part).chunks) (before_is config part)
    ∙ chunks_in_next config part

-- the Books of a cache's store are those of new parts
pub books_new : (config : CacheConfig) (store : Config) (fresh workers : ℕ) (books : List BookView)
    → IsStoreOf config store → books ≡ new_books (class_sheets fresh 0 0 store.classes) store.classes workers
    → AreNewBooks config books
books_new config store fresh workers books is made = record {
  count = ap length made ∙ (count_of_books store.classes fresh 0 0 workers ∙ is.parts);
  each = λ part low.
      let it = book_at store.classes fresh 0 0 workers part (class_of config part) (is.class part low) in
      let at : 0 + part ≡ part = omega arith in
      let within : part ≤ length store.classes = omega (arith, low, is.parts) in
      let sum : chunks_in_first config 0 + chunks_of_first part store.classes ≡ chunks_in_first config (0 + part) =
      chunks_are config 0 store.classes part within (λ i below.
      let here : i ≡ 0 + i = omega arith in
      is.class i (omega (arith, below, is.parts)) ∙ ap (λ n. Some (class_of config n)) here) in
      let same : chunks_in_first config (0 + part) ≡ chunks_in_first config part =
      ap (chunks_in_first config) at in (
        it.book,
        ap (λ (bs : List BookView). slice_get bs part) made ∙ it.at,
        record {
          class = it.class_is ∙ at;
          first = it.first_is ∙ (sum ∙ (same ∙ sym (before_is config part)));
          chunks = it.count_is;
          unused = it.unused;
        },
      );
}

-- one part more has its own behind those before it
pub before_next : (config : CacheConfig) (part : ℕ)
    → chunks_before config part + (class_of config part).chunks ≡ chunks_before config (part + 1)
before_next config part =
    let next : suc part ≡ part + 1 = omega arith in ap (chunks_before config) next

-- and they fit into a store
pub room_behind : (config : CacheConfig) (part : ℕ) → first_cache_fault config ≡ None → part < config.parts
    → chunks_before config part + (class_of config part).chunks ≤ most_chunks
room_behind config part none low =
    let is = sound config none in
    let few : chunks_in_first config (suc part) ≤ most_chunks = chunks_few config is (suc part) (omega (arith, low)) in
    let same : chunks_before config (suc part) ≡ chunks_in_first config (suc part) = before_is config (suc part) in
    omega (arith, few, same)
