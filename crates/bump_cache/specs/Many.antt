-- What gets of many keys come to.
use Rattle.std.specs.Prelude.{◌≡◌, ℕ, List, [], ◌∷◌, Option, IfSome, IfNone}
use Rattle.bump_steps.specs.Rule.{RowPredicate}
use Rattle.cache_readers.specs.Readers.{CountsHit, Misses}
use Rattle.bump_cache.specs.Readers.{CacheReaderView, FindsValue, InPart, KeepsRings, MissesKey}

-- A get of a key has this answer: a value, found in the key's part and counted there as a hit; or None, and the miss is
-- counted.
pub record GetsOne {K V : Type 0} (law : RowPredicate) (key_words : K → List ℕ) (value_words : V → List ℕ) (now : ℕ)
    (key : K) (answer : Option V) (before after : CacheReaderView) : Type 0 where
  pub found : IfSome answer (λ value. InPart (FindsValue law (key_words key) (value_words value) now) (key_words key)
      before after)
  pub counted : IfSome answer (λ value. InPart CountsHit (key_words key) before after)
  pub missed : IfNone answer (InPart (Misses (key_words key) now) (key_words key) before after)
  pub absent : IfNone answer (InPart (MissesKey before.seed (key_words key) now) (key_words key) before after)
  pub ring : KeepsRings before after

-- each key is got, one after the other, and has the answer in its place; there are as many answers as keys
abbrev pub GetsEach : {K V : Type 0} → RowPredicate → (K → List ℕ) → (V → List ℕ) → ℕ → List K → List (Option V)
    → CacheReaderView → CacheReaderView → Type 0
GetsEach law key_words value_words now [] [] before after = after ≡ before
GetsEach law key_words value_words now (key ∷ keys) (answer ∷ answers) before after = (between : CacheReaderView)
    × GetsOne law key_words value_words now key answer before between
    × GetsEach law key_words value_words now keys answers between after
GetsEach law key_words value_words now keys answers before after = ⊥
