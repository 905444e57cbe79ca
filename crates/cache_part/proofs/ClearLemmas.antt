-- All items end, chunk by chunk.
use Rattle.std.proofs.Common.{◌≡◌, ℕ, ◌+◌, ◌<◌, ◌≤◌, Bool, true, false, ◌==◌, List, Option, Some, None, IsSome, is_some, if◌then◌else◌, length, slice_set, refl, sym, ap, ◌∙◌, subst, eq-eqb, below_more, arith}
use Rattle.bump_class.specs.Books.{BookView}
use Rattle.bump_steps.specs.Views.{last_word}
use Rattle.cache_lists.specs.Counts.{CountedView}
use Rattle.cache_lists.specs.Items.{EndsAt, IsSameClass}
use Rattle.cache_lists.specs.Linked.{linked_at}
use Rattle.cache_index.specs.Views.{Led, led_at, IndexView}
use Rattle.keyed_hash.specs.declared.seed.Seed.{Seed}
use Rattle.cache_part.specs.Parts.{generation_led, IsPart}
use Rattle.cache_part.proofs.PartLemmas.{first_kept, linked_within, part_ended}

-- what isn't linked isn't behind an end either
none_without : (linked : Option ℕ) (b : Bool) → linked ≡ None → (if b then None else linked) ≡ None
none_without linked true none = refl
none_without linked false none = none

-- nothing is linked at a chunk whose item ended
pub ended_here : (chunk : ℕ) (before after : BookView) → EndsAt chunk before after → linked_at after.sheet chunk ≡ None
ended_here chunk before after ends = ends.linked chunk
    ∙ ap (λ b. if b then None else linked_at before.sheet chunk) (eq-eqb chunk chunk refl)

-- nor at one at which nothing was
ended_there : (chunk c : ℕ) (before after : BookView) → EndsAt chunk before after → linked_at before.sheet c ≡ None
    → linked_at after.sheet c ≡ None
ended_there chunk c before after ends none = ends.linked c ∙ none_without (linked_at before.sheet c) (chunk == c) none

module _ (seed : Seed) (key_words : ℕ) (book : BookView) (index : List (Option Led))
    (is : IsPart seed key_words book.sheet index) where
  -- nothing is linked where the index leads to nothing
  pub unled_empty : (chunk : ℕ) → is_some (led_at index chunk) ≡ false → linked_at book.sheet chunk ≡ None
  unled_empty chunk = by (led_at index chunk) (is.agrees.leads chunk)
    where
      by : (at : Option Led) → generation_led at ≡ linked_at book.sheet chunk → is_some at ≡ false
          → linked_at book.sheet chunk ≡ None
      by None leads none = sym leads
      by (Some led) leads none = absurd (cc none)

  -- nothing is linked where nothing is at the chunks of the index
  pub empty_all : ((c : ℕ) → c < length index → linked_at book.sheet c ≡ None) → (c : ℕ) → linked_at book.sheet c ≡ None
  empty_all below c = by (linked_at book.sheet c) refl
    where
      by : (at : Option ℕ) → linked_at book.sheet c ≡ at → linked_at book.sheet c ≡ None
      by None e = e
      by (Some generation) e =
          below c (linked_within seed key_words book book index is c (subst IsSome (sym e) refl))

-- nothing is linked at the chunks below this one, which isn't before the class's first; they have their words still,
-- and nothing was evicted
pub record ClearedTo (seed : Seed) (key_words end : ℕ) (before after : CountedView) (index : IndexView) : Type 0 where
  pub part : IsPart seed key_words after.book.sheet index.table
  pub first : index.first ≡ after.book.sheet.first
  pub from : after.book.sheet.first ≤ end
  pub empty : (c : ℕ) → c < end → linked_at after.book.sheet c ≡ None
  pub words : (i c : ℕ) → last_word i after.book.sheet c ≡ last_word i before.book.sheet c
  pub class : IsSameClass before.book after.book
  pub evictions : after.evictions ≡ before.evictions

module _ (seed : Seed) (key_words chunk : ℕ) (before now : CountedView) (index : IndexView)
    (so_far : ClearedTo seed key_words chunk before now index) where
  -- the item of the next chunk ends
  pub cleared_more : (left : CountedView) (to : IndexView) → EndsAt chunk now.book left.book
      → to.table ≡ slice_set index.table chunk None → to.first ≡ index.first → left.evictions ≡ now.evictions
      → ClearedTo seed key_words (chunk + 1) before left to
  cleared_more left to ends table first evictions = record {
    part = subst (IsPart seed key_words left.book.sheet) (sym table)
        (part_ended seed key_words now.book left.book index.table so_far.part chunk ends);
    first = first ∙ first_kept index.first now.book left.book ends.class so_far.first;
    from = omega (arith, so_far.from, ends.class.first);
    empty = below_more _ _ (λ c low. ended_there chunk c now.book left.book ends (so_far.empty c low))
        (ended_here chunk now.book left.book ends);
    words = λ i c. ends.words i c ∙ so_far.words i c;
    class = record {
      first = ends.class.first ∙ so_far.class.first;
      count = ends.class.count ∙ so_far.class.count;
    };
    evictions = evictions ∙ so_far.evictions;
  }

  -- or it has none
  pub cleared_still : is_some (led_at index.table chunk) ≡ false → ClearedTo seed key_words (chunk + 1) before now index
  cleared_still none = record {
    part = so_far.part;
    first = so_far.first;
    from = omega (arith, so_far.from);
    empty = below_more _ _ so_far.empty
        (unled_empty seed key_words now.book index.table so_far.part chunk none);
    words = so_far.words;
    class = so_far.class;
    evictions = so_far.evictions;
  }
