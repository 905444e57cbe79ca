-- The words of chunks behind the beginning of a life.
use Rattle.std.proofs.Common.{◌≡◌, ℕ, zero, suc, Bool, true, false, ◌==◌, List, [], ◌∷◌, ◌++◌, eqb, if◌then◌else◌, refl, sym, ap, ◌∙◌, subst, arith, append_assoc, append-nil}
use Rattle.bump_rules.specs.declared.items.ItemId.{ItemId}
use Rattle.bump_rules.specs.declared.places.Start.{Start}
use Rattle.bump_rules.specs.declared.labels.LabelStep.TheVariants.{Stored}
use Rattle.bump_rules.specs.Labels.{label_word}
use Rattle.bump_steps.specs.declared.views.ClassSheet.{ClassSheet}
use Rattle.bump_steps.specs.declared.views.WordStep.{WordStep}
use Rattle.bump_steps.specs.declared.views.WordStep.TheVariants.{Put}
use Rattle.bump_steps.specs.Views.{last_word, of_word}
use Rattle.bump_steps.proofs.LabelLists.{word_stored, word_linked, of_word_put, of_word_begun}
use Rattle.bump_class.specs.Books.{BookView}
use Rattle.bump_class.specs.Changes.{puts, class_with_item, class_with_words, book_with_words}
use Rattle.bump_class.proofs.Widening.{just_stored, last_put}
use Rattle.cache_lists.specs.Items.{HasRow}

-- further words that are stored for a chunk leave those of each other
puts_elsewhere : (c d i j : ℕ) (xs : List ℕ) (ws : List WordStep) → (d == c) ≡ false
    → label_word c 0 (of_word j (ws ++ puts d i xs)) ≡ label_word c 0 (of_word j ws)
puts_elsewhere c d i j [] ws other = ap (λ (l : List WordStep). label_word c 0 (of_word j l)) (append-nil ws)
puts_elsewhere c d i j (x ∷ xs) ws other = ap (λ (l : List WordStep). label_word c 0 (of_word j l))
    (sym (append_assoc ws (Put d i x ∷ []) (puts d (suc i) xs)))
    ∙ puts_elsewhere c d (suc i) j xs (ws ++ Put d i x ∷ []) other
    ∙ ap (label_word c 0) (of_word_put j ws d i x) ∙ by (eqb i j)
  where
    by : (b : Bool) → label_word c 0 (if b then of_word j ws ++ Stored d x ∷ [] else of_word j ws)
        ≡ label_word c 0 (of_word j ws)
    by true = word_stored c 0 (of_word j ws) d x
        ∙ ap (λ (b : Bool). if b then x else label_word c 0 (of_word j ws)) other
    by false = refl

-- so does the beginning of a life at the chunk
pub row_elsewhere : (begins : Start) (class : ClassSheet) (item : ItemId) (label : ℕ) (words : List ℕ) (now i c : ℕ)
    → (item.chunk == c) ≡ false
    → last_word i (class_with_item begins item label now (class_with_words item.chunk 0 words class)) c
    ≡ last_word i class c
row_elsewhere begins class item label words now zero c other =
    word_linked c 0 (class.labels ++ Stored item.chunk label ∷ []) item
    ∙ word_stored c 0 class.labels item.chunk label
    ∙ ap (λ (b : Bool). if b then label else label_word c 0 class.labels) other
row_elsewhere begins class item label words now (suc j) c other =
    ap (label_word c 0) (of_word_begun j (class.words ++ puts item.chunk 0 words) item)
    ∙ word_linked c 0 (of_word j (class.words ++ puts item.chunk 0 words)) item
    ∙ puts_elsewhere c item.chunk 0 j words class.words other

-- and its chunk has the row that was given
pub row_given : (begins : Start) (book left : BookView) (item : ItemId) (label : ℕ) (words : List ℕ) (now : ℕ)
    → left ≡ book_with_words begins item label words now book → HasRow item.chunk label words left
row_given begins book left item label words now after = subst (HasRow item.chunk label words) (sym after) (
  word_linked item.chunk 0 (book.sheet.labels ++ Stored item.chunk label ∷ []) item
      ∙ just_stored item.chunk book.sheet.labels label,
  λ j low. ap (label_word item.chunk 0) (of_word_begun j (book.sheet.words ++ puts item.chunk 0 words) item)
      ∙ word_linked item.chunk 0 (of_word j (book.sheet.words ++ puts item.chunk 0 words)) item
      ∙ ap (λ (n : ℕ). label_word item.chunk 0 (of_word n (book.sheet.words ++ puts item.chunk 0 words))) (omega arith)
      ∙ last_put item.chunk 0 j words book.sheet.words low,
)
