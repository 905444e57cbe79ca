-- What a shelf did with words, told of byte strings.
use Rattle.std.proofs.Common.{◌≡◌, ℕ, Bool, true, false, not, List, get_or, Some, refl, sym, ap, ◌∙◌}
use Rattle.bump_steps.specs.Rule.{RowPredicate}
use Rattle.bump_steps.specs.Views.{last_label}
use Rattle.cache_part.specs.Keys.{value_at}
use Rattle.cache_part.specs.Parts.{PartView, IsPart}
use Rattle.cache_shelf.specs.Entries.{HadAt}
use Rattle.cache_shelf.specs.Putting.{RemovesEntry}
use Rattle.cache_shelf.specs.Shelves.{ShelfView, with_ended}
use Rattle.bump_rules.specs.Expiry.{has_expired}
use Rattle.cache_handles.specs.Looking.{HadIf, RemovesKey}

-- what was read of an item tells whether the key had something that hadn't expired
had_if : (law : RowPredicate) (key : List ℕ) (chunk now : ℕ) (from words : List ℕ) (expired : Bool) (part : PartView)
    → IsPart part.seed part.key_words part.book.sheet part.index → HadAt true law key chunk from words part
    → expired ≡ has_expired (get_or words 0 0) now → HadIf (not expired) key now part
had_if law key chunk now from words true part is had told = λ value expires kept.
    let same : last_label part.book.sheet chunk ≡ expires = ap (last_label part.book.sheet)
    (is.agrees.once chunk kept.chunk had.under.linked kept.under.linked (had.under.key ∙ sym kept.under.key)) ∙ kept.label in
    let first : get_or words 0 0 ≡ last_label part.book.sheet chunk = ap (λ (all : List ℕ). get_or all 0 0) had.told in
    ap (λ (at : ℕ). has_expired at now) (sym (first ∙ same)) ∙ sym told
had_if law key chunk now from words false part is had told =
    let first : get_or words 0 0 ≡ last_label part.book.sheet chunk = ap (λ (all : List ℕ). get_or all 0 0) had.told in (
      value_at part.key_words part.value_words part.book.sheet chunk,
      (
        last_label part.book.sheet chunk,
        ap (λ (at : ℕ). has_expired at now) (sym first) ∙ sym told,
        record { chunk = chunk; under = had.under; value = refl; label = refl },
      ),
    )

-- a key's item was removed
pub removes_key : (law : RowPredicate) (key : List ℕ) (chunk now : ℕ) (from words : List ℕ) (expired : Bool)
    (before after : ShelfView) → IsPart before.part.seed before.part.key_words before.part.book.sheet before.part.index
    → RemovesEntry law key (Some chunk) from words before.part after.part
    → expired ≡ has_expired (get_or words 0 0) now → after ≡ with_ended after before
    → RemovesKey key now (not expired) before after
removes_key law key chunk now from words expired before after is removes told same = record {
  old = had_if law key chunk now from words expired before.part is removes.had told;
  gone = removes.gone;
  others = removes.others;
  ends = (Some chunk, removes.removes);
  same = same;
}
