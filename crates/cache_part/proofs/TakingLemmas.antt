-- What loads leave of items that have expired, and what the end of one is behind them.
use Rattle.std.proofs.Common.{◌≡◌, ℕ, true, Option, None, Some, IsSome, IfSome, IfNone, sym, ap, ◌∙◌, subst}
use Rattle.bump_rules.specs.Lists.{all_without}
use Rattle.bump_class.specs.Books.{BookView}
use Rattle.cache_lists.specs.Counts.{CountedView}
use Rattle.cache_lists.specs.Expiring.{expired_at}
use Rattle.cache_lists.specs.Items.{EndsAt}
use Rattle.cache_lists.specs.Linked.{linked_at}
use Rattle.cache_lists.specs.Looks.{LooksOnly}
use Rattle.cache_lists.specs.Segments.{SameSegments}
use Rattle.cache_lists.proofs.Standings.{kept_ends}
use Rattle.cache_index.specs.Views.{IndexView}
use Rattle.cache_part.specs.Expiring.{EndsBehindLook, HasNoneExpired}
use Rattle.cache_part.specs.Parts.{PartView, counted}
use Rattle.cache_part.specs.Taking.{EndsTaken, HasExpired}
use Rattle.cache_part.proofs.LookLemmas.{looks_keep}
use Rattle.cache_part.proofs.ViewLemmas.{book_alone, with_both}

-- what has no expired item behind loads had none before them
pub none_before : (now chunk : ℕ) (before seen : BookView) → LooksOnly before seen → HasNoneExpired now chunk seen
    → HasNoneExpired now chunk before
none_before now chunk before seen looks none = subst (HasNoneExpired now chunk) looks none

-- and what has one had it
pub has_before : (now chunk : ℕ) (before seen : BookView) → LooksOnly before seen → HasExpired now chunk seen
    → HasExpired now chunk before
has_before now chunk before seen looks has = record {
  linked = subst (λ (b : BookView). IsSome (linked_at b.sheet chunk)) looks has.linked;
  expired = subst (λ (b : BookView). expired_at now b.sheet chunk ≡ true) looks has.expired;
}

-- and has it still
pub has_behind : (now chunk : ℕ) (before seen : BookView) → LooksOnly before seen → HasExpired now chunk before
    → HasExpired now chunk seen
has_behind now chunk before seen looks has = record {
  linked = subst (λ (b : BookView). IsSome (linked_at b.sheet chunk)) (sym looks) has.linked;
  expired = subst (λ (b : BookView). expired_at now b.sheet chunk ≡ true) (sym looks) has.expired;
}

-- an item that ends behind loads ends
pub behind_ends : (chunk now : ℕ) (before after : CountedView) → EndsBehindLook chunk now before after
    → EndsAt chunk before.book after.book
behind_ends chunk now before after did = kept_ends before.book did.seen after.book chunk
    (looks_keep before.book did.seen did.looks) did.ends.ends.ends

-- and the others stay in their lists
pub behind_others : (chunk now : ℕ) (before after : CountedView) → EndsBehindLook chunk now before after
    → SameSegments (all_without chunk before.book.lists) after.book.lists
behind_others chunk now before after did =
    subst (λ (b : BookView). SameSegments (all_without chunk b.lists) after.book.lists) did.looks did.ends.ends.others

-- the item that was taken ended
pub taken_at : (taken : Option ℕ) (now : ℕ) (before after : CountedView)
    → IfSome taken (λ chunk. EndsBehindLook chunk now before after)
    → IfSome taken (λ chunk. EndsAt chunk before.book after.book)
taken_at None now before after did = tt
taken_at (Some chunk) now before after did = behind_ends chunk now before after did

-- and the others stay in their lists
pub taken_others : (taken : Option ℕ) (now : ℕ) (before after : CountedView)
    → IfSome taken (λ chunk. EndsBehindLook chunk now before after)
    → IfSome taken (λ chunk. SameSegments (all_without chunk before.book.lists) after.book.lists)
taken_others None now before after did = tt
taken_others (Some chunk) now before after did = behind_others chunk now before after did

-- what was done with the lists and the index, told of the part
pub taken_ends : (taken : Option ℕ) (now : ℕ) (part before : PartView) (left : CountedView) (from to : IndexView)
    (cursor : ℕ) → part ≡ before → IfSome taken (λ chunk. EndsBehindLook chunk now (counted part) left)
    → IfNone taken (LooksOnly part.book left.book) → IfNone taken (left ≡ record (counted part) { book = left.book })
    → IfNone taken (to ≡ from) → from.table ≡ part.index
    → EndsTaken taken now before (record (with_both part left to.table) { cursor = cursor })
taken_ends None now part before left from to cursor is ends looks rest same at = record {
  looks = subst (λ (v : PartView). LooksOnly v.book left.book) is looks;
  rest = ap (λ (v : PartView). record v { cursor = cursor })
      (book_alone part before left to.table is rest (ap (λ (i : IndexView). i.table) same ∙ at));
}
taken_ends (Some chunk) now part before left from to cursor is ends looks rest same at =
    subst (λ (v : PartView). EndsBehindLook chunk now (counted v) left) is ends
