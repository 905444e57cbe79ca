-- Loads, one after the other.
use Rattle.std.proofs.Common.{◌≡◌, ℕ, None, Err, refl, sym, ap, ◌∙◌, subst}
use Rattle.bump_rules.specs.declared.items.Head.{Head}
use Rattle.bump_rules.specs.declared.items.ItemId.{ItemId}
use Rattle.bump_class.specs.declared.ending.UnlinkRefusal.{UnlinkRefusal}
use Rattle.bump_class.specs.declared.ending.UnlinkRefusal.TheVariants.{NoSuchChunk, NotLinked}
use Rattle.bump_class.specs.Books.{BookView}
use Rattle.bump_class.specs.Changes.{book_after_load, book_after_see_label}
use Rattle.bump_class.specs.Ends.{Unlinks}
use Rattle.cache_lists.specs.Flows.{Flows}
use Rattle.cache_lists.specs.Items.{KeepsItems}
use Rattle.cache_lists.specs.Looks.{LooksOnly, with_steps}
use Rattle.cache_lists.specs.Segments.{SameSegments}
use Rattle.cache_lists.proofs.Segments.{same_still}
use Rattle.cache_lists.proofs.Ways.{still}

-- loads keep the items
pub looks_keep : (book left : BookView) → LooksOnly book left → KeepsItems book left
looks_keep book left looks = subst (KeepsItems book) (sym looks) (record {
  class = record { first = refl; count = refl };
  linked = λ c. refl;
  words = λ i c. refl;
})

-- and more loads are loads
pub looks_then : (book between left : BookView) → LooksOnly book between → LooksOnly between left → LooksOnly book left
looks_then book between left one other = other ∙ ap (with_steps left.sheet.steps) one

-- they leave each list as it was
pub looks_same : (book left : BookView) → LooksOnly book left → SameSegments book.lists left.lists
looks_same book left looks = same_still book.lists left.lists (ap (λ (b : BookView). b.lists) looks)

-- and count nothing
pub looks_flow : (book left : BookView) → LooksOnly book left → Flows None book left
looks_flow book left looks = still book left (ap (λ (b : BookView). b.sheet.fresh) looks)
    (ap (λ (b : BookView). b.sheet.history) looks)

-- a load of a head is one
pub head_looks : (book left : BookView) (chunk : ℕ) (head : Head) → left ≡ book_after_load chunk head book
    → LooksOnly book left
head_looks book left chunk head is = subst (LooksOnly book) (sym is) refl

-- so is a load of a label
pub label_looks : (book left : BookView) (chunk label : ℕ) → left ≡ book_after_see_label chunk label book
    → LooksOnly book left
label_looks book left chunk label is = subst (LooksOnly book) (sym is) refl

-- and an unlink that is refused
pub refused_looks : (book left : BookView) (item : ItemId) (refusal : UnlinkRefusal)
    → Unlinks book item (Err refusal) left → LooksOnly book left
refused_looks book left item NoSuchChunk is = subst (LooksOnly book) (sym is) refl
refused_looks book left item NotLinked (found, looks) = head_looks book left item.chunk found looks.after
