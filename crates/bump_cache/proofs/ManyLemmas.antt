-- Gets of many keys, one after the other.
use Rattle.std.proofs.Common.{◌≡◌, ℕ, zero, suc, ◌+◌, ◌<◌, List, [], ◌∷◌, length, get_or, set, Option, refl, subst, arith}
use Rattle.bump_steps.specs.Rule.{RowPredicate}
use Rattle.bump_cache.specs.Many.{GetsEach, GetsOne}
use Rattle.bump_cache.specs.Readers.{CacheReaderView}

module _ {K V : Type 0} (law : RowPredicate) (key_words : K → List ℕ) (value_words : V → List ℕ) (now : ℕ) where
  -- the first so many keys were got
  abbrev pub GetsFirst : ℕ → List K → List (Option V) → CacheReaderView → CacheReaderView → Type 0
  GetsFirst zero keys answers before after = after ≡ before
  GetsFirst (suc count) (key ∷ keys) (answer ∷ answers) before after = (between : CacheReaderView)
      × GetsOne law key_words value_words now key answer before between × GetsFirst count keys answers between after
  GetsFirst (suc count) keys answers before after = ⊥

  -- one more was got, and its answer stands in its place
  gets_more : (count : ℕ) (before half after : CacheReaderView) (keys : List K) (answers : List (Option V)) (none : K)
      (answer : Option V) → count < length keys → count < length answers → GetsFirst count keys answers before half
      → GetsOne law key_words value_words now (get_or keys count none) answer half after
      → GetsFirst (suc count) keys (set answers count answer) before after
  gets_more count before half after [] answers none answer within room first one =
      absurd (let past : ⊥ = omega (arith, within) in past)
  gets_more count before half after (key ∷ keys) [] none answer within room first one =
      absurd (let past : ⊥ = omega (arith, room) in past)
  gets_more zero before half after (key ∷ keys) (other ∷ answers) none answer within room first one = (
    after,
    subst (λ (from : CacheReaderView). GetsOne law key_words value_words now key answer from after) first one,
    refl,
  )
  gets_more (suc count) before half after (key ∷ keys) (other ∷ answers) none answer within room first one = (
    first.0,
    first.1,
    gets_more count first.0 half after keys answers none answer (omega (arith, within)) (omega (arith, room)) first.2
        one,
  )

  -- the next key was got, as a loop counts
  pub gets_next : (count : ℕ) (before half after : CacheReaderView) (keys : List K) (answers : List (Option V)) (key :
      K)
      (answer : Option V) → count < length keys → count < length answers → key ≡ get_or keys count key
      → GetsFirst count keys answers before half → GetsOne law key_words value_words now key answer half after
      → GetsFirst (count + 1) keys (set answers count answer) before after
  gets_next count before half after keys answers key answer within room same first one =
      let one_more : suc count ≡ count + 1 = omega arith in
      subst (λ n. GetsFirst n keys (set answers count answer) before after) one_more
      (gets_more count before half after keys answers key answer within room first
      (subst (λ k. GetsOne law key_words value_words now k answer half after) same one))

  -- where all were got, each has its answer
  pub gets_all : (before after : CacheReaderView) (keys : List K) (answers : List (Option V)) → length answers ≡
      length keys
      → GetsFirst (length keys) keys answers before after
      → GetsEach law key_words value_words now keys answers before after
  gets_all before after [] [] even first = first
  gets_all before after [] (answer ∷ answers) even first = absurd (let past : ⊥ = omega (arith, even) in past)
  gets_all before after (key ∷ keys) [] even first = absurd first
  gets_all before after (key ∷ keys) (answer ∷ answers) even first =
      (first.0, first.1, gets_all first.0 after keys answers (omega (arith, even)) first.2)
