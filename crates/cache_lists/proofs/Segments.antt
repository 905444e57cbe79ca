-- What changes of a Book leave of the lists of its linked items.
use Rattle.std.proofs.Common.{◌≡◌, ◌≢◌, ℕ, ◌<◌, ◌==◌, ◌&&◌, Bool, true, false, cond, List, [], ◌∷◌, Option, Some, None, IfSome, Ok, option_map, if◌then◌else◌, refl, sym, ap, ◌∙◌, subst, eq-eqb, arith}
use Rattle.bump_links.specs.Lists.{times, without}
use Rattle.bump_links.proofs.ListsLemmas.{apart-from_times, without-absent, times-without_same}
use Rattle.bump_rules.specs.declared.bumps.Ended.{Ended}
use Rattle.bump_rules.specs.declared.history.Change.TheVariants as change
use Rattle.bump_rules.specs.declared.commands.Pulled.{Pulled}
use Rattle.bump_rules.specs.declared.items.Head.{Head}
use Rattle.bump_rules.specs.declared.items.ItemId.{ItemId}
use Rattle.bump_rules.specs.declared.places.Limits.{Limits}
use Rattle.bump_rules.specs.declared.places.Place.{Place}
use Rattle.bump_rules.specs.declared.places.Place.TheVariants.{Hot, Warm, Cold, Temp, Dying, Unused, Retired}
use Rattle.bump_rules.specs.declared.places.Segment.{Segment}
use Rattle.bump_rules.specs.declared.places.Tail.{Tail}
use Rattle.bump_rules.specs.declared.places.Tail.TheVariants as tail
use Rattle.bump_rules.specs.History.{subject, target, freed_change, replay, is_place, place_of}
use Rattle.bump_rules.specs.Lawful.{bit}
use Rattle.bump_rules.specs.Lists.{Lists, list_at, all_without, to_front}
use Rattle.bump_rules.specs.Lives.{life}
use Rattle.bump_rules.specs.Places.{is_segment_place}
use Rattle.bump_rules.specs.Sweeps.{unheld, swept_changes, swept_of}
use Rattle.bump_rules.specs.Tables.{pulled_to, is_unheld}
use Rattle.bump_rules.proofs.PlainLists.{times_same, times_rest}
use Rattle.bump_rules.proofs.SixLists.{list_at_without, list_at_front}
use Rattle.bump_rules.proofs.Standings.{same_place}
use Rattle.bump_steps.specs.Applications.{life_in}
use Rattle.bump_steps.specs.Views.{owns, standing}
use Rattle.bump_class.specs.Books.{BookView}
use Rattle.bump_class.specs.Changes.{book_after_unlink}
use Rattle.bump_class.specs.Ends.{EndsItem, Unlinks}
use Rattle.bump_class.specs.Pulls.{PullsAt, PullsAtBy, MovesItemBy, book_after_pull_to}
use Rattle.bump_class.specs.Sweeps.{SweepsThese}
use Rattle.cache_lists.specs.Linked.{linked_at}
use Rattle.cache_lists.specs.Segments.{SameSegments}
use Rattle.cache_lists.specs.Looks.{with_steps}
use Rattle.cache_lists.proofs.PullLemmas.{pulled_after}
use Rattle.cache_lists.proofs.Standings.{Stands, freed_nowhere, listed_there}

-- ---- lists without a chunk

-- what is taken out twice is taken out once
pub without_twice : (c : ℕ) (xs : List ℕ) → without c (without c xs) ≡ without c xs
without_twice c xs = without-absent c (without c xs) (apart-from_times c (without c xs) (times-without_same c xs))

-- what isn't there isn't taken out
pub without_none : (c : ℕ) (xs : List ℕ) → times c xs ≡ 0 → without c xs ≡ xs
without_none c xs none = without-absent c xs (apart-from_times c xs none)

-- a chunk that was put in front, and taken out, is out
pub front_without : (c : ℕ) (p q : Place) (lists : Lists)
    → without c (list_at (to_front c p lists) q) ≡ without c (list_at lists q)
front_without c p q lists = ap (without c) (list_at_front c p q lists) ∙ by (is_place p q)
  where
    by : (b : Bool) → without c (cond b (c ∷ without c (list_at lists q)) (without c (list_at lists q)))
        ≡ without c (list_at lists q)
    by true = rw (eq-eqb c c refl) (without_twice c (list_at lists q))
    by false = without_twice c (list_at lists q)

-- a chunk that goes elsewhere leaves a list without it
pub front_elsewhere : (c : ℕ) (p q : Place) (lists : Lists) → is_place p q ≡ false
    → list_at (to_front c p lists) q ≡ without c (list_at lists q)
front_elsewhere c p q lists other = list_at_front c p q lists
    ∙ ap (λ b. cond b (c ∷ without c (list_at lists q)) (without c (list_at lists q))) other

-- ---- the same segments

-- they are where nothing changed
pub same_still : (before after : Lists) → after ≡ before → SameSegments before after
same_still before after is place segment = ap (λ (l : Lists). list_at l place) is

-- and where one change comes behind the other
pub same_then : (before between after : Lists) → SameSegments before between → SameSegments between after
    → SameSegments before after
same_then before between after one other place segment = other place segment ∙ one place segment

-- ---- what single changes leave

-- a segment's place is neither DYING nor where freed chunks go
no_dying : (q : Place) → is_segment_place q ≡ true → is_place Dying q ≡ false
no_dying Hot segment = refl
no_dying Warm segment = refl
no_dying Cold segment = refl
no_dying Temp segment = refl
no_dying Dying segment = absurd (cc segment)
no_dying Unused segment = refl
no_dying Retired segment = refl

no_freed : (item : ItemId) (q : Place) → is_segment_place q ≡ true → is_place (target (freed_change item)) q ≡ false
no_freed item q segment = by (item.generation == 4294967295) q segment
  where
    by : (b : Bool) (r : Place) → is_segment_place r ≡ true
        → is_place (target (if b then change.Retired item else change.Swept item)) r ≡ false
    by true Hot s = refl
    by true Warm s = refl
    by true Cold s = refl
    by true Temp s = refl
    by true Dying s = refl
    by true Unused s = refl
    by true Retired s = absurd (cc s)
    by false Hot s = refl
    by false Warm s = refl
    by false Cold s = refl
    by false Temp s = refl
    by false Dying s = refl
    by false Unused s = absurd (cc s)
    by false Retired s = refl

-- an end leaves each segment without the chunk
pub ends_others : (book left : BookView) (chunk : ℕ) (ended : Ended) (last behind : Head)
    → EndsItem book chunk ended left last behind → SameSegments (all_without chunk book.lists) left.lists
ends_others book left chunk ended last behind ends place segment =
    ap (λ (b : BookView). list_at b.lists place) ends.after
    ∙ (by (is_unheld behind) ∙ sym (list_at_without chunk place book.lists))
  where
    unlinked : BookView
    unlinked = book_after_unlink chunk last book

    out : list_at unlinked.lists place ≡ without chunk (list_at book.lists place)
    out = front_elsewhere chunk Dying place book.lists (no_dying place segment)

    by : (b : Bool) → list_at (if b then to_front chunk (target (freed_change (life_in unlinked.sheet chunk))) unlinked.lists
        else unlinked.lists) place ≡ without chunk (list_at book.lists place)
    by true = front_elsewhere chunk (target (freed_change (life_in unlinked.sheet chunk))) place unlinked.lists
        (no_freed (life_in unlinked.sheet chunk) place segment)
        ∙ (ap (without chunk) out ∙ without_twice chunk (list_at book.lists place))
    by false = out

-- an unlink too
pub unlinks_others : (book left : BookView) (item : ItemId) (ended : Ended) → Unlinks book item (Ok ended) left
    → SameSegments (all_without item.chunk book.lists) left.lists
unlinks_others book left item ended (looked, found, last, behind, looks, ends) =
    subst (λ (b : BookView). SameSegments (all_without item.chunk b.lists) left.lists) looks.after
    (ends_others looked left item.chunk ended last behind ends)

-- and an evict that tells this item
pub evict_others : (book left : BookView) (answer : Pulled) (item : ItemId) (at : Option ℕ)
    → PullsAt book tail.Evict at answer left → at ≡ Some item.chunk
    → SameSegments (all_without item.chunk book.lists) left.lists
evict_others book left answer item None pulls is = absurd (cc is)
evict_others book left answer item (Some chunk) pulls is =
    let same : chunk ≡ item.chunk = cc is in
    subst (λ c. SameSegments (all_without c book.lists) left.lists) same
    (ends_others book left chunk pulls.0 pulls.1 pulls.2 pulls.3.ends)

-- a pull leaves all but its chunk in place
pub moves_others : (limits : Limits) (book left : BookView) (from : Tail) (chunk : ℕ) (answer : Pulled) (cleared moved : Head)
    → MovesItemBy limits book from chunk answer left cleared moved
    → SameSegments (all_without chunk book.lists) (all_without chunk left.lists)
moves_others limits book left from chunk answer cleared moved moves =
    subst (λ (b : BookView). SameSegments (all_without chunk book.lists) (all_without chunk b.lists))
    (sym (pulled_after limits book left from chunk answer cleared moved moves)) (by (pulled_to answer))
  where
    open_book : BookView
    open_book = with_steps moves.looked.sheet.steps book

    by : (to : Option Segment) → SameSegments (all_without chunk book.lists)
        (all_without chunk (book_after_pull_to from chunk to moved open_book).lists)
    by None place segment = refl
    by (Some to) place segment = list_at_without chunk place (to_front chunk (place_of to) book.lists)
        ∙ (front_without chunk (place_of to) place book.lists ∙ sym (list_at_without chunk place book.lists))

pub pulls_others : (limits : Limits) (book left : BookView) (from : Tail) (answer : Pulled) → from ≢ tail.Evict → (at : Option ℕ)
    → PullsAtBy limits book from at answer left
    → IfSome at (λ chunk. SameSegments (all_without chunk book.lists) (all_without chunk left.lists))
pulls_others limits book left from answer ne None pulls = tt
pulls_others limits book left tail.Hot answer ne (Some chunk) pulls = moves_others limits book left tail.Hot chunk answer pulls.0 pulls.1 pulls.2
pulls_others limits book left tail.Warm answer ne (Some chunk) pulls = moves_others limits book left tail.Warm chunk answer pulls.0 pulls.1 pulls.2
pulls_others limits book left tail.Cold answer ne (Some chunk) pulls = moves_others limits book left tail.Cold chunk answer pulls.0 pulls.1 pulls.2
pulls_others limits book left tail.Evict answer ne (Some chunk) pulls = absurd (ne refl)

-- by the item that a pull tells
pub told_others : (book left : BookView) (at : Option ℕ) (told : Option ItemId) → told ≡ option_map (life_in book.sheet) at
    → IfSome at (λ chunk. SameSegments (all_without chunk book.lists) (all_without chunk left.lists))
    → IfSome told (λ (item : ItemId). SameSegments (all_without item.chunk book.lists) (all_without item.chunk left.lists))
told_others book left None told e some =
    subst (λ t. IfSome t (λ (item : ItemId). SameSegments (all_without item.chunk book.lists) (all_without item.chunk left.lists))) (sym e) tt
told_others book left (Some chunk) told e some =
    subst (λ t. IfSome t (λ (item : ItemId). SameSegments (all_without item.chunk book.lists) (all_without item.chunk left.lists))) (sym e) some

-- a sweep leaves a list in which none of its chunks stands
swept_list : (heads : ℕ → Head) (q : Place) → is_segment_place q ≡ true → (lists : Lists) (cs : List ℕ)
    → ((c : ℕ) → 0 < times c cs → times c (list_at lists q) ≡ 0)
    → list_at (replay lists (swept_of heads cs)) q ≡ list_at lists q
swept_list heads q segment lists [] none = refl
swept_list heads q segment lists (d ∷ cs) none =
    by (is_unheld (heads d)) (λ l n. swept_list heads q segment l cs n)
  where
    item : ItemId
    item = life d (heads d).generation

    rest_none : (e : ℕ) → 0 < times e cs → times e (list_at lists q) ≡ 0
    rest_none e some = none e (omega (arith, times_rest e d cs, some))

    next : Lists
    next = to_front (subject (freed_change item)).chunk (target (freed_change item)) lists

    one : list_at next q ≡ list_at lists q
    one = front_elsewhere (subject (freed_change item)).chunk (target (freed_change item)) q lists (no_freed item q segment)
        ∙ (ap (λ (l : ItemId). without l.chunk (list_at lists q)) (freed_nowhere item).1
        ∙ without_none d (list_at lists q) (none d (omega (arith, times_same d d cs refl))))

    by : (b : Bool)
        → ((l : Lists) → ((e : ℕ) → 0 < times e cs → times e (list_at l q) ≡ 0)
        → list_at (replay l (swept_of heads cs)) q ≡ list_at l q)
        → list_at (replay lists (swept_changes heads (if b then d ∷ unheld heads cs else unheld heads cs))) q
        ≡ list_at lists q
    by true rest = rest next (λ e some. ap (times e) one ∙ rest_none e some) ∙ one
    by false rest = rest lists rest_none

-- a chunk stands in one list
pub stands_once : (book : BookView) → Stands book → (c : ℕ) (p q : Place) → (standing book.sheet c).0 ≡ p
    → is_place p q ≡ false → times c (list_at book.lists q) ≡ 0
stands_once book stands c p q is other = stands c q
    ∙ (ap (λ r. bit (owns c book.sheet && is_place r q)) is ∙ (ap (λ b. bit (owns c book.sheet && b)) other ∙ by (owns c book.sheet)))
  where
    by : (b : Bool) → bit (b && false) ≡ 0
    by true = refl
    by false = refl

-- a sweep leaves the segments
pub sweeps_segments : (book left : BookView) (freed_chunks : ℕ) (heads : ℕ → Head) (looked : List ℕ) → Stands book
    → ((c : ℕ) → 0 < times c looked → 0 < times c book.lists.dying) → SweepsThese looked book freed_chunks left heads
    → SameSegments book.lists left.lists
sweeps_segments book left freed_chunks heads looked stands dying sweeps place segment =
    ap (λ (b : BookView). list_at b.lists place) sweeps.after
    ∙ swept_list heads place segment book.lists looked
    (λ c some. stands_once book stands c Dying place (listed_there book stands c Dying (dying c some)).1 (no_dying place segment))

-- where no item is linked at a chunk, it stands in no segment
pub unlinked_apart : (book : BookView) (chunk : ℕ) → Stands book → linked_at book.sheet chunk ≡ None
    → SameSegments (all_without chunk book.lists) book.lists
unlinked_apart book chunk stands none place segment =
    sym (list_at_without chunk place book.lists ∙ without_none chunk (list_at book.lists place)
    (stands_once book stands chunk (standing book.sheet chunk).0 place refl (by (is_place (standing book.sheet chunk).0 place) refl)))
  where
    by : (b : Bool) → is_place (standing book.sheet chunk).0 place ≡ b → is_place (standing book.sheet chunk).0 place ≡ false
    by false is = is
    by true is =
        let linked : linked_at book.sheet chunk ≡ Some (standing book.sheet chunk).1 =
        ap (λ p. if is_segment_place p then Some (standing book.sheet chunk).1 else None) (same_place (standing book.sheet chunk).0 place is)
        ∙ ap (λ b. if b then Some (standing book.sheet chunk).1 else None) segment in
        absurd (cc (sym none ∙ linked))
