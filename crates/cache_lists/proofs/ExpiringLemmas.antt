-- The end of an item that has expired, behind a look at its label.
use Rattle.std.proofs.Common.{◌≡◌, ℕ, Bool, true, false, None, Some, refl, sym, ap, ◌∙◌, subst, inl, inr}
use Rattle.bump_rules.specs.declared.places.Place.TheVariants.{Dying}
use Rattle.bump_rules.specs.declared.places.Segment.{Segment}
use Rattle.bump_rules.specs.Lists.{Lists, all_without}
use Rattle.bump_rules.specs.Places.{place_of}
use Rattle.bump_steps.specs.Views.{last_label}
use Rattle.bump_class.specs.Books.{BookView}
use Rattle.bump_class.specs.Changes.{book_after_see_label}
use Rattle.bump_rules.specs.Expiry.{has_expired}
use Rattle.cache_lists.specs.Counts.{CountedView, noted, with_crawled}
use Rattle.cache_lists.specs.Ends.{EndsLinked}
use Rattle.cache_lists.specs.Expiring.{EndsExpired}
use Rattle.cache_lists.specs.Items.{ShowsMarks}
use Rattle.cache_lists.specs.Linked.{linked_at}
use Rattle.cache_lists.specs.Looks.{LooksOnly}
use Rattle.cache_lists.specs.Segments.{SameSegments}
use Rattle.cache_lists.proofs.LookLemmas.{label_looks, looks_keep, looks_same, looks_then}
use Rattle.cache_lists.proofs.RescueLemmas.{same_counted}
use Rattle.cache_lists.proofs.Segments.{same_then}
use Rattle.cache_lists.proofs.Standings.{ends_kept, kept_ends}

-- a Book that counts, whose Book's label of a chunk was looked at
abbrev pub SeesLabel : ℕ → ℕ → CountedView → CountedView → Type 0
SeesLabel chunk label before after =
    after ≡ record before { book = book_after_see_label chunk label before.book }

-- its Book was looked at
seen_looks : (chunk label : ℕ) (before after : CountedView) → SeesLabel chunk label before after
    → LooksOnly before.book after.book
seen_looks chunk label before after seen =
    label_looks before.book after.book chunk label (ap (λ (v : CountedView). v.book) seen)

-- where the label isn't of an item that has expired none is found
pub finds_unexpired : (chunk now label : ℕ) (before after : CountedView) → SeesLabel chunk label before after
    → label ≡ last_label before.book.sheet chunk → has_expired label now ≡ false
    → EndsExpired chunk now false before after
finds_unexpired chunk now label before after seen is fresh = record {
  none = inr (ap (λ l. has_expired l now) (sym is) ∙ fresh);
  looks = seen_looks chunk label before after seen;
  rest = same_counted after (record before { book = after.book }) refl (ap (λ (v : CountedView). v.flow) seen)
      (ap (λ (v : CountedView). v.evictions) seen);
}

-- and where none is linked
pub finds_unlinked : (chunk now label : ℕ) (before seen after : CountedView) → SeesLabel chunk label before seen
    → EndsLinked chunk None seen.book after.book → after.flow ≡ seen.flow → after.evictions ≡ seen.evictions
    → EndsExpired chunk now false before after
finds_unlinked chunk now label before seen after sees ends flow evictions = record {
  none = inl (ap (λ (v : CountedView). linked_at v.book.sheet chunk) (sym sees) ∙ ends.not_linked);
  looks = looks_then before.book seen.book after.book (seen_looks chunk label before seen sees) ends.looks;
  rest = same_counted after (record before { book = after.book }) refl (flow ∙ ap (λ (v : CountedView). v.flow) sees)
      (evictions ∙ ap (λ (v : CountedView). v.evictions) sees);
}

-- an end between looks is one
ends_amid : (chunk : ℕ) (from : Segment) (before seen ended after : BookView) → LooksOnly before seen
    → EndsLinked chunk (Some from) seen ended → LooksOnly ended after → EndsLinked chunk (Some from) before after
ends_amid chunk from before seen ended after looks ends more = record {
  ends = ends_kept before ended after chunk (kept_ends before seen ended chunk (looks_keep before seen looks) ends.ends)
      (looks_keep ended after more);
  others = same_then (all_without chunk before.lists) ended.lists after.lists
      (subst (λ (l : Lists). SameSegments (all_without chunk l) ended.lists) (ap (λ (b : BookView). b.lists) looks)
      ends.others) (looks_same ended after more);
  not_linked = tt;
  kept = tt;
  same = tt;
  looks = tt;
}

-- an expired item that is linked ends, and is counted
pub ends_found : (chunk now label : ℕ) (from : Segment) (fetched active : Bool) (before seen ended after : CountedView)
    → SeesLabel chunk label before seen → label ≡ last_label before.book.sheet chunk → has_expired label now ≡ true
    → EndsLinked chunk (Some from) seen.book ended.book → ended.flow ≡ noted (Some (place_of from, Dying)) seen.flow
    → ended.evictions ≡ seen.evictions → LooksOnly ended.book after.book → after.flow ≡ ended.flow
    → ShowsMarks chunk fetched active after.book → after.evictions ≡ with_crawled fetched ended.evictions
    → EndsExpired chunk now true before after
ends_found chunk now label from fetched active before seen ended after sees is expired ends flow evictions looks same marks counted = record {
  expired = ap (λ l. has_expired l now) (sym is) ∙ expired;
  from = from;
  ends = ends_amid chunk from before.book seen.book ended.book after.book (seen_looks chunk label before seen sees) ends
      looks;
  flow = same ∙ (flow ∙ ap (λ (v : CountedView). noted (Some (place_of from, Dying)) v.flow) sees);
  fetched = fetched;
  active = active;
  marks = marks;
  evictions = counted
      ∙ ap (with_crawled fetched) (evictions ∙ ap (λ (v : CountedView). v.evictions) sees);
}
