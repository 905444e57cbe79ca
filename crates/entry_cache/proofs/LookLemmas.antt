-- What looks come to.
use Rattle.std.proofs.Common.{◌≡◌, ℕ, suc, ◌+◌, ◌<◌, Bool, true, Option, None, Some, IfSome, IsSomeAnd, is_some, true≢false, sym, subst, arith}
use Rattle.bump_cache.specs.Readers.{CacheReaderView}
use Rattle.entry_cache.specs.Entries.{EntryView, FoundView, IsLack}
use Rattle.entry_cache.specs.Looking.{FindsThere, LooksAgain, LooksUntil, MissesEntry}
use Rattle.entry_cache.specs.declared.misses.EntryMiss.{EntryMiss}
use Rattle.entry_cache.specs.declared.misses.EntryMiss.TheVariants as miss

-- its entry was gone, too
pub looks_more : (Finds : ℕ → CacheReaderView → CacheReaderView → Type 0) (count place : ℕ)
    (before between after : CacheReaderView) → LooksAgain Finds count before between → Finds place between after
    → LooksAgain Finds (count + 1) before after
looks_more Finds count place before between after so_far one =
    let more : suc count ≡ count + 1 = omega arith in
    subst (λ n. LooksAgain Finds n before after) more (between, place, so_far, one)

-- what was found at this place lies there
there : {K V : Type 0} (Finds : ℕ → CacheReaderView → CacheReaderView → Type 0)
    (Holds : ℕ → EntryView K V → Type 0) (Is : EntryView K V → Type 0) (before after : CacheReaderView) (place : ℕ)
    (entry : Option (EntryView K V)) → LooksUntil Finds (Finds place) before after → IsSomeAnd entry Is
    → IsSomeAnd entry (λ one. ∥ Holds place one ∥₁) → LooksUntil Finds (FindsThere Finds Holds Is) before after
there Finds Holds Is before after place None looks is law = absurd is
there Finds Holds Is before after place (Some entry) looks is law = record {
  count = looks.count;
  few = looks.few;
  between = looks.between;
  again = looks.again;
  ends = record { place = place; finds = looks.ends; lies = record { entry = entry; law = law; is = is } };
}

-- what a peek found lay at the place of the row that its last look found
pub finds_there : {K V : Type 0} (Finds : ℕ → CacheReaderView → CacheReaderView → Type 0)
    (Holds : ℕ → EntryView K V → Type 0) (Is : EntryView K V → Type 0) (before after : CacheReaderView)
    (result : Option (FoundView K V)) → is_some result ≡ true
    → IfSome result (λ (it : FoundView K V). LooksUntil Finds (Finds it.place) before after)
    → IfSome result (λ (it : FoundView K V). IsSomeAnd it.entry Is)
    → IfSome result (λ (it : FoundView K V). IsSomeAnd it.entry (λ entry. ∥ Holds it.place entry ∥₁))
    → LooksUntil Finds (FindsThere Finds Holds Is) before after
finds_there Finds Holds Is before after None found looks is law = absurd (true≢false (sym found))
finds_there Finds Holds Is before after (Some it) found looks is law =
    there Finds Holds Is before after it.place it.entry looks is law

-- what the last of a few looks found isn't what is asked for, for this reason
pub misses_there : {K V : Type 0} (Finds : ℕ → CacheReaderView → CacheReaderView → Type 0)
    (Misses : CacheReaderView → CacheReaderView → Type 0) (Holds : ℕ → EntryView K V → Type 0) (asks : K → Bool)
    (now : ℕ) (why : EntryMiss) (place count : ℕ) (before between after : CacheReaderView) → count < 1000
    → LooksAgain Finds count before between → Finds place between after → IsLack (Holds place) asks now why
    → MissesEntry Finds Misses Holds asks now why before after
misses_there Finds Misses Holds asks now miss.NoRow place count before between after few again finds lack = absurd lack
misses_there Finds Misses Holds asks now miss.Gone place count before between after few again finds lack = absurd lack
misses_there Finds Misses Holds asks now miss.Other place count before between after few again finds lack = record {
  count = count;
  few = few;
  between = between;
  again = again;
  ends = record { place = place; finds = finds; lies = lack };
}
misses_there Finds Misses Holds asks now miss.Expired place count before between after few again finds lack = record {
  count = count;
  few = few;
  between = between;
  again = again;
  ends = record { place = place; finds = finds; lies = lack };
}
