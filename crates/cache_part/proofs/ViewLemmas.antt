-- What of a part's view stays.
use Rattle.std.proofs.Common.{◌≡◌, ℕ, List, Option, None, Some, IfNone, IfSome, ap, ap₂, ◌∙◌, subst}
use Rattle.bump_rules.specs.Lists.{all_without}
use Rattle.cache_lists.specs.declared.evictions.Evictions.{Evictions}
use Rattle.cache_lists.specs.Counts.{CountedView}
use Rattle.cache_lists.specs.Items.{EndsAt}
use Rattle.cache_lists.specs.Segments.{SameSegments}
use Rattle.cache_index.specs.Views.{Led, IndexView}
use Rattle.cache_part.specs.Looks.{LooksOnly}
use Rattle.cache_part.specs.Parts.{PartView, IsUnder, IsUnknown, counted}
use Rattle.cache_part.specs.Putting.{Removes}

-- a part with other lists and another index
abbrev pub with_both : PartView → CountedView → List (Option Led) → PartView
with_both part lists index = record part {
  book = lists.book;
  flow = lists.flow;
  evictions = lists.evictions;
  index = index;
}

-- where the Book alone changes
pub book_alone : (part now : PartView) (left : CountedView) (to : List (Option Led)) → part ≡ now
    → left ≡ record (counted part) { book = left.book } → to ≡ part.index
    → with_both part left to ≡ record now { book = left.book }
book_alone part now left to is rest same =
    ap₂ (with_both part) rest same ∙ ap (λ (v : PartView). record v { book = left.book }) is

-- where the evictions stay
pub evictions_stay : (part now : PartView) (left : CountedView) (to : List (Option Led)) → part ≡ now
    → left.evictions ≡ part.evictions
    → with_both part left to ≡ record now { book = left.book; flow = left.flow; index = to }
evictions_stay part now left to is same =
    ap (λ (e : Evictions). record part { book = left.book; flow = left.flow; evictions = e; index = to }) same
    ∙ ap (λ (v : PartView). record v { book = left.book; flow = left.flow; index = to }) is

-- and the index too
pub index_stays : (part now : PartView) (left : CountedView) (to : List (Option Led)) → part ≡ now
    → left.evictions ≡ part.evictions → to ≡ part.index
    → with_both part left to ≡ record now { book = left.book; flow = left.flow }
index_stays part now left to is same still =
    ap₂ (λ (e : Evictions) (i : List (Option Led)).
    record part { book = left.book; flow = left.flow; evictions = e; index = i }) same still
    ∙ ap (λ (v : PartView). record v { book = left.book; flow = left.flow }) is

-- how many words a key has, and what a part may have, stays
pub both_stay : (part now : PartView) (left : CountedView) (to : List (Option Led)) → part ≡ now
    → with_both part left to ≡ record now {
      book = left.book;
      flow = left.flow;
      evictions = left.evictions;
      index = to;
    }
both_stay part now left to is = ap (λ (v : PartView). with_both v left to) is

-- and where the next turn of looks begins may change too
pub cursor_moves : (part now : PartView) (left : CountedView) (to : List (Option Led)) (cursor : ℕ) → part ≡ now
    → record (with_both part left to) { cursor = cursor } ≡ record now {
      book = left.book;
      flow = left.flow;
      evictions = left.evictions;
      index = to;
      cursor = cursor;
    }
cursor_moves part now left to cursor is = ap (λ (v : PartView). record (with_both v left to) { cursor = cursor }) is

-- where nothing is told the Book alone changes
pub none_changes : (told : Option ℕ) (part now : PartView) (left : CountedView) (from to : IndexView) → part ≡ now
    → IfNone told (left ≡ record (counted part) { book = left.book }) → IfNone told (to ≡ from)
    → from.table ≡ part.index → IfNone told (with_both part left to.table ≡ record now { book = left.book })
none_changes None part now left from to is rest same at =
    book_alone part now left to.table is rest (ap (λ (i : IndexView). i.table) same ∙ at)
none_changes (Some chunk) part now left from to is rest same at = tt

-- what is told of a removal's answer, both ways
pub removes_item : (told : Option ℕ) (key : List ℕ) (before after : PartView)
    → IfSome told (λ chunk. IsUnder key chunk before) → IfSome told (λ chunk. EndsAt chunk before.book after.book)
    → IfSome told (λ chunk. SameSegments (all_without chunk before.book.lists) after.book.lists)
    → IfNone told (IsUnknown key before) → IfNone told (LooksOnly before.book after.book)
    → IfNone told (after ≡ record before { book = after.book }) → Removes key told before after
removes_item None key before after found ends lists none looks rest = (none, record { looks = looks; rest = rest })
removes_item (Some chunk) key before after found ends lists none looks rest =
    record { under = found; ends = ends; lists = lists }

-- a fact of a part before a call and behind it is one of what was seen of it before
pub seen_from : (Fact : PartView → PartView → Type 0) (part now after : PartView) → part ≡ now → Fact part after
    → Fact now after
seen_from Fact part now after is fact = subst (λ v. Fact v after) is fact
