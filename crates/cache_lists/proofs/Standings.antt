-- Where changes of a Book leave its items.
use Rattle.std.proofs.Common.{◌≡◌, ◌≢◌, ℕ, ◌<◌, Bool, true, false, cond, ◌==◌, ◌&&◌, not, nat_lt, length, option_map, IfSome, IfNone, ◌+◌, List, [], ◌∷◌, ◌++◌, Option, Some, None, if◌then◌else◌, refl, sym, ap, ap₂, ◌∙◌, subst, eqb, eqb-true, eq-eqb, arith, append-nil, append_assoc, Ok}
use Rattle.std.proofs.lemmas.Bool.{and_parts}
use Rattle.bump_links.specs.Lists.{times, last_of, first_of}
use Rattle.bump_rules.specs.declared.history.Change.{Change}
use Rattle.bump_rules.specs.declared.history.Change.TheVariants as change
use Rattle.bump_rules.specs.declared.history.Cause.TheVariants as cause
use Rattle.bump_rules.specs.declared.items.Head.{Head}
use Rattle.bump_rules.specs.declared.items.ItemId.{ItemId}
use Rattle.bump_rules.specs.declared.bumps.Ended.{Ended}
use Rattle.bump_rules.specs.declared.bumps.Ended.TheVariants as ended
use Rattle.bump_rules.specs.declared.commands.Pulled.{Pulled}
use Rattle.bump_rules.specs.declared.commands.Pulled.TheVariants as pulled
use Rattle.bump_rules.specs.declared.places.Limits.{Limits}
use Rattle.bump_rules.specs.declared.places.Place.{Place}
use Rattle.bump_rules.specs.declared.places.Place.TheVariants.{Hot, Warm, Cold, Temp, Dying, Unused, Retired}
use Rattle.bump_rules.specs.declared.places.Segment.{Segment}
use Rattle.bump_rules.specs.declared.places.Segment.TheVariants as segment
use Rattle.bump_rules.specs.declared.places.Start.{Start}
use Rattle.bump_rules.specs.declared.places.Tail.{Tail}
use Rattle.bump_rules.specs.declared.places.Tail.TheVariants as tail
use Rattle.bump_rules.specs.History.{subject, target, standing_in, is_place, place_of, freed_change, is_between}
use Rattle.bump_rules.specs.Lawful.{bit, Shows}
use Rattle.bump_rules.specs.Lists.{Lists, list_at}
use Rattle.bump_rules.specs.Lives.{life}
use Rattle.bump_rules.specs.Places.{first_segment, is_segment_place, segment_places}
use Rattle.bump_rules.specs.Starts.{begun_change}
use Rattle.std.specs.List.{list_any}
use Rattle.bump_class.specs.declared.ending.UnlinkRefusal.{UnlinkRefusal}
use Rattle.bump_class.specs.declared.ending.UnlinkRefusal.TheVariants.{NoSuchChunk, NotLinked}
use Rattle.bump_rules.specs.Sweeps.{unheld, swept_changes, swept_of}
use Rattle.bump_rules.specs.Tables.{segment_of, pulled_to, last_pulled, is_unheld, evicted_as, pulled_of, is_over}
use Rattle.bump_rules.proofs.Beginnings.{begun_subject, begun_target}
use Rattle.bump_rules.proofs.Laws.{bit_some}
use Rattle.bump_rules.proofs.PlainLists.{last_there, first_there, times_same, times_rest}
use Rattle.bump_rules.proofs.Replay.{standing_push}
use Rattle.bump_rules.proofs.Standings.{same_place}
use Rattle.bump_steps.specs.declared.views.ClassSheet.{ClassSheet}
use Rattle.bump_steps.specs.Applications.{life_in}
use Rattle.bump_steps.specs.Views.{standing, owns, last_word}
use Rattle.bump_class.specs.Books.{BookView}
use Rattle.bump_class.specs.Pulls.{PullsAt, PullsAtBy, PullsItem, MovesItemBy, book_after_pull_to}
use Rattle.bump_class.specs.Changes.{book_after_unlink, book_after_load, book_with_words}
use Rattle.bump_class.specs.Links.{linked_item, item_of, next_life}
use Rattle.bump_class.specs.Sweeps.{SweepsThese}
use Rattle.bump_steps.specs.Lives.{class_after_sweep, class_after_load}
use Rattle.bump_word.specs.Words.{word_of}
use Rattle.bump_class.specs.Ends.{EndsItem, book_after_end, unlink_refusal, is_linked, is_in_segment, Unlinks}
use Rattle.cache_lists.specs.Linked.{linked_standing, linked_at}
use Rattle.cache_lists.specs.Items.{IsSameClass, KeepsItems, EndsAt, BeginsAt}
use Rattle.bump_rules.specs.Commands.{item_told}
use Rattle.cache_lists.specs.Looks.{with_steps}
use Rattle.cache_lists.proofs.PullLemmas.{pulled_after}
use Rattle.cache_lists.proofs.Rows.{row_elsewhere}

-- where one more entry of a history leaves the items
pub linked_push : (fresh : ℕ) (history : List Change) (e : Change) (c : ℕ)
    → linked_standing (standing_in fresh (history ++ e ∷ []) c)
    ≡ (if (subject e).chunk == c then linked_standing (target e, (subject e).generation)
    else linked_standing (standing_in fresh history c))
linked_push fresh history e c = ap linked_standing (standing_push c (Unused, fresh) history e) ∙ by ((subject e).chunk == c)
  where
    by : (b : Bool) → linked_standing (cond b (target e, (subject e).generation) (standing_in fresh history c))
        ≡ (if b then linked_standing (target e, (subject e).generation) else linked_standing (standing_in fresh history c))
    by true = refl
    by false = refl

-- an entry that leaves its chunk with what is linked there changes nothing
pub linked_same : (fresh : ℕ) (history : List Change) (e : Change)
    → linked_standing (target e, (subject e).generation) ≡ linked_standing (standing_in fresh history (subject e).chunk)
    → (c : ℕ) → linked_standing (standing_in fresh (history ++ e ∷ []) c) ≡ linked_standing (standing_in fresh history c)
linked_same fresh history e same c = linked_push fresh history e c ∙ by ((subject e).chunk == c) refl
  where
    by : (b : Bool) → ((subject e).chunk == c) ≡ b
        → (if b then linked_standing (target e, (subject e).generation) else linked_standing (standing_in fresh history c))
        ≡ linked_standing (standing_in fresh history c)
    by true is = same ∙ ap (λ d. linked_standing (standing_in fresh history d)) (eqb-true (subject e).chunk c is)
    by false is = refl

-- a segment's place is one
pub segment_linked : (s : Segment) (generation : ℕ) → linked_standing (place_of s, generation) ≡ Some generation
segment_linked segment.Hot generation = refl
segment_linked segment.Warm generation = refl
segment_linked segment.Cold generation = refl
segment_linked segment.Temp generation = refl

-- what is freed isn't linked, and the entry speaks of that life
pub freed_nowhere : (item : ItemId) → (linked_standing (target (freed_change item), (subject (freed_change item)).generation) ≡ None)
    × (subject (freed_change item) ≡ item)
freed_nowhere item = by (item.generation == 4294967295)
  where
    by : (b : Bool) → (linked_standing (
      target (if b then change.Retired item else change.Swept item),
      (subject (if b then change.Retired item else change.Swept item)).generation,
    ) ≡ None)
        × (subject (if b then change.Retired item else change.Swept item) ≡ item)
    by true = (refl, refl)
    by false = (refl, refl)

-- what a Book promises of its lists
abbrev pub Stands : BookView → Type 0
Stands book = (c : ℕ) (q : Place) → times c (list_at book.lists q) ≡ bit (owns c book.sheet && is_place (standing book.sheet c).0 q)

-- what stands in a list is of the class, and has that place
pub listed_there : (book : BookView) → Stands book → (c : ℕ) (q : Place) → 0 < times c (list_at book.lists q)
    → (owns c book.sheet ≡ true) × ((standing book.sheet c).0 ≡ q)
listed_there book stands c q some =
    let both = and_parts (owns c book.sheet) (is_place (standing book.sheet c).0 q) (bit_some _ (subst (λ n. 0 < n) (stands c q) some)) in
    (both.0, same_place (standing book.sheet c).0 q both.1)

-- what stands at a segment's place is linked
pub stands_linked : (class : ClassSheet) (chunk : ℕ) (s : Segment) → (standing class chunk).0 ≡ place_of s
    → linked_at class chunk ≡ Some (standing class chunk).1
stands_linked class chunk s is =
    ap (λ p. linked_standing (p, (standing class chunk).1)) is ∙ segment_linked s (standing class chunk).1

-- what stands elsewhere isn't
pub stands_elsewhere : (class : ClassSheet) (chunk : ℕ) (q : Place) → (standing class chunk).0 ≡ q → is_segment_place q ≡ false
    → linked_at class chunk ≡ None
stands_elsewhere class chunk q is no_segment =
    ap (λ p. if is_segment_place p then Some (standing class chunk).1 else None) is
    ∙ ap (λ b. if b then Some (standing class chunk).1 else None) no_segment

-- a pull that moves an item keeps the items
pub moves_keep : (limits : Limits) (book left : BookView) (from : Tail) (chunk : ℕ) (answer : Pulled) (cleared moved : Head)
    → MovesItemBy limits book from chunk answer left cleared moved → (standing book.sheet chunk).0 ≡ place_of (segment_of from)
    → KeepsItems book left
moves_keep limits book left from chunk answer cleared moved moves is =
    subst (KeepsItems book) (sym (pulled_after limits book left from chunk answer cleared moved moves)) (by (pulled_to answer))
  where
    by : (to : Option Segment) → KeepsItems book
        (book_after_pull_to from chunk to moved (with_steps moves.looked.sheet.steps book))
    by None = record { class = record { first = refl; count = refl }; linked = λ c. refl; words = λ i c. refl }
    by (Some to) = record {
      class = record { first = refl; count = refl };
      linked = linked_same book.sheet.fresh book.sheet.history (change.Moved (life_in book.sheet chunk) (segment_of from) to cause.Pull)
          (segment_linked to (standing book.sheet chunk).1 ∙ sym (stands_linked book.sheet chunk (segment_of from) is));
      words = λ i c. refl;
    }

-- a pull that isn't an evict keeps the items
pub pulls_keep : (limits : Limits) (book left : BookView) (from : Tail) (answer : Pulled) → Stands book → from ≢ tail.Evict
    → (at : Option ℕ) → at ≡ last_pulled from book.lists → PullsAtBy limits book from at answer left → KeepsItems book left
pulls_keep limits book left from answer stands ne None is pulls =
    subst (KeepsItems book) (sym pulls.1) (record { class = record { first = refl; count = refl }; linked = λ c. refl; words = λ i c. refl })
pulls_keep limits book left tail.Hot answer stands ne (Some chunk) is pulls = moves_keep limits book left tail.Hot chunk answer pulls.0 pulls.1 pulls.2
    (listed_there book stands chunk Hot (last_there chunk book.lists.hot (sym is))).1
pulls_keep limits book left tail.Warm answer stands ne (Some chunk) is pulls = moves_keep limits book left tail.Warm chunk answer pulls.0 pulls.1 pulls.2
    (listed_there book stands chunk Warm (last_there chunk book.lists.warm (sym is))).1
pulls_keep limits book left tail.Cold answer stands ne (Some chunk) is pulls = moves_keep limits book left tail.Cold chunk answer pulls.0 pulls.1 pulls.2
    (listed_there book stands chunk Cold (last_there chunk book.lists.cold (sym is))).1
pulls_keep limits book left tail.Evict answer stands ne (Some chunk) is pulls = absurd (ne refl)

-- the end of a life
pub ends_at : (book left : BookView) (chunk : ℕ) (ended : Ended) (last behind : Head)
    → EndsItem book chunk ended left last behind → owns chunk book.sheet ≡ true
    → (generation : ℕ) × (linked_at book.sheet chunk ≡ Some generation) → EndsAt chunk book left
ends_at book left chunk ended last behind ends own was = subst (EndsAt chunk book) (sym ends.after) (by (behind.refs == 0))
  where
    unlinked : List Change
    unlinked = book.sheet.history ++ change.Unlinked (life chunk (standing book.sheet chunk).1) ∷ []

    Left : Bool → BookView
    Left b = record (book_after_unlink chunk last book) {
      sheet = if b then class_after_sweep chunk (word_of behind) (book_after_unlink chunk last book).sheet
          else class_after_load chunk (word_of behind) (book_after_unlink chunk last book).sheet;
      lists = (book_after_end chunk last behind book).lists;
    }

    after_unlink : (c : ℕ) → linked_standing (standing_in book.sheet.fresh unlinked c)
        ≡ (if chunk == c then None else linked_at book.sheet c)
    after_unlink c = linked_push book.sheet.fresh book.sheet.history (change.Unlinked (life chunk (standing book.sheet chunk).1)) c

    generation : ℕ
    generation = (standing_in book.sheet.fresh unlinked chunk).1

    nowhere : linked_standing (standing_in book.sheet.fresh unlinked chunk) ≡ None
    nowhere = after_unlink chunk ∙ ap (λ b. if b then None else linked_at book.sheet chunk) (eq-eqb chunk chunk refl)

    freed : (c : ℕ) → linked_standing (standing_in book.sheet.fresh (unlinked ++ freed_change (life chunk generation) ∷ []) c)
        ≡ linked_standing (standing_in book.sheet.fresh unlinked c)
    freed = linked_same book.sheet.fresh unlinked (freed_change (life chunk generation))
        ((freed_nowhere (life chunk generation)).0
        ∙ sym (ap (λ (l : ItemId). linked_standing (standing_in book.sheet.fresh unlinked l.chunk)) (freed_nowhere (life chunk generation)).1 ∙ nowhere))

    by : (b : Bool) → EndsAt chunk book (Left b)
    by true = record { class = record { first = refl; count = refl }; own = own; was = was; linked = λ c. freed c ∙ after_unlink c; words = λ i c. refl }
    by false = record { class = record { first = refl; count = refl }; own = own; was = was; linked = after_unlink; words = λ i c. refl }

-- the item of this chunk ends by an evict
pub evicts_at : (book left : BookView) (answer : Pulled) (chunk : ℕ) → Stands book → last_of book.lists.cold ≡ Some chunk
    → PullsItem book tail.Evict chunk answer left → EndsAt chunk book left
evicts_at book left answer chunk stands is pulls =
    let there = listed_there book stands chunk Cold (last_there chunk book.lists.cold is) in
    ends_at book left chunk pulls.0 pulls.1 pulls.2 pulls.3.ends there.0
    ((standing book.sheet chunk).1, stands_linked book.sheet chunk segment.Cold there.1)

-- a sweep keeps the items
swept_keep : (fresh : ℕ) (heads : ℕ → Head) (history : List Change) (cs : List ℕ)
    → ((c : ℕ) → 0 < times c cs → linked_standing (standing_in fresh history c) ≡ None) → (c : ℕ)
    → linked_standing (standing_in fresh (history ++ swept_of heads cs) c) ≡ linked_standing (standing_in fresh history c)
swept_keep fresh heads history [] none c = ap (λ es. linked_standing (standing_in fresh es c)) (append-nil history)
swept_keep fresh heads history (d ∷ cs) none c =
    by (is_unheld (heads d)) (λ h n. swept_keep fresh heads h cs n c)
  where
    item : ItemId
    item = life d (heads d).generation

    rest_none : (e : ℕ) → 0 < times e cs → linked_standing (standing_in fresh history e) ≡ None
    rest_none e some = none e (omega (arith, times_rest e d cs, some))

    one : (e : ℕ) → linked_standing (standing_in fresh (history ++ freed_change item ∷ []) e) ≡ linked_standing (standing_in fresh history e)
    one = linked_same fresh history (freed_change item)
        ((freed_nowhere item).0 ∙ sym (ap (λ (l : ItemId). linked_standing (standing_in fresh history l.chunk)) (freed_nowhere item).1
        ∙ none d (omega (arith, times_same d d cs refl))))

    by : (b : Bool)
        → ((h : List Change) → ((e : ℕ) → 0 < times e cs → linked_standing (standing_in fresh h e) ≡ None)
        → linked_standing (standing_in fresh (h ++ swept_of heads cs) c) ≡ linked_standing (standing_in fresh h c))
        → linked_standing (standing_in fresh (history ++ swept_changes heads (if b then d ∷ unheld heads cs else unheld heads cs)) c)
        ≡ linked_standing (standing_in fresh history c)
    by true more =
        ap (λ es. linked_standing (standing_in fresh es c)) (sym (append_assoc history (freed_change item ∷ []) (swept_of heads cs)))
        ∙ (more (history ++ freed_change item ∷ []) (λ e some. one e ∙ rest_none e some) ∙ one c)
    by false more = more history rest_none

pub sweeps_keep : (book left : BookView) (freed_chunks : ℕ) (heads : ℕ → Head) (looked : List ℕ) → Stands book
    → ((c : ℕ) → 0 < times c looked → 0 < times c book.lists.dying) → SweepsThese looked book freed_chunks left heads
    → KeepsItems book left
sweeps_keep book left freed_chunks heads looked stands dying sweeps = subst (KeepsItems book) (sym sweeps.after) (record {
  class = record { first = refl; count = refl };
  linked = swept_keep book.sheet.fresh heads book.sheet.history looked
      (λ c some. stands_elsewhere book.sheet c Dying (listed_there book stands c Dying (dying c some)).1 refl);
  words = λ i c. refl;
})

-- a life begins
pub begins_at : (begins : Start) (book left : BookView) (item : ItemId) (label : ℕ) (words : List ℕ) (now : ℕ)
    → Stands book → linked_item book ≡ Ok item → left ≡ book_with_words begins item label words now book
    → BeginsAt item book left
begins_at begins book left item label words now stands is after =
    subst (BeginsAt item book) (sym after) (by (first_of book.lists.unused) refl is)
  where
    by : (at : Option ℕ) → first_of book.lists.unused ≡ at → item_of book at ≡ Ok item
        → BeginsAt item book (book_with_words begins item label words now book)
    by None e linked = absurd (cc linked)
    by (Some chunk) e linked =
        let it : next_life book chunk ≡ item = cc linked in
        let same : chunk ≡ item.chunk = ap (λ (l : ItemId). l.chunk) it in
        let there = listed_there book stands chunk Unused (first_there chunk book.lists.unused e) in
        record {
          class = record { first = refl; count = refl };
          own = ap (λ d. owns d book.sheet) (sym same) ∙ there.0;
          free = ap (linked_at book.sheet) (sym same) ∙ stands_elsewhere book.sheet chunk Unused there.1 refl;
          linked = λ c. linked_push book.sheet.fresh book.sheet.history (begun_change begins item) c
              ∙ (ap₂ (λ p (l : ItemId). if l.chunk == c then linked_standing (p, l.generation) else linked_at book.sheet c)
              (begun_target begins item) (begun_subject begins item)
              ∙ ap (λ (o : Option ℕ). if item.chunk == c then o else linked_at book.sheet c)
              (segment_linked (first_segment begins) item.generation));
          words = λ i c other. row_elsewhere begins book.sheet item label words now i c other;
        }

-- a life begins at the first chunk of UNUSED
pub begins_first : (book : BookView) (item : ItemId) → linked_item book ≡ Ok item → first_of book.lists.unused ≡ Some item.chunk
begins_first book item is = by (first_of book.lists.unused) is
  where
    by : (at : Option ℕ) → item_of book at ≡ Ok item → at ≡ Some item.chunk
    by None linked = absurd (cc linked)
    by (Some chunk) linked =
        let it : next_life book chunk ≡ item = cc linked in
        ap (λ (l : ItemId). Some l.chunk) it

-- an evict that tells this item ended it, which was the last of COLD
pub evict_told : (book left : BookView) (answer : Pulled) (item : ItemId) → Stands book → (at : Option ℕ)
    → last_of book.lists.cold ≡ at → PullsAt book tail.Evict at answer left → item_told answer ≡ Some item
    → (last_of book.lists.cold ≡ Some item.chunk) × EndsAt item.chunk book left
evict_told book left answer item stands None is pulls told = absurd (cc (sym told ∙ ap item_told pulls.0))
evict_told book left answer item stands (Some chunk) is pulls told =
    (is ∙ ap Some same, subst (λ c. EndsAt c book left) same (evicts_at book left answer chunk stands is pulls))
  where
    by : (e : Ended) → item_told (evicted_as e (life_in book.sheet chunk)) ≡ Some (life_in book.sheet chunk)
    by ended.Freed = refl
    by ended.Deferred = refl

    same : chunk ≡ item.chunk
    same =
        let one : Some (life_in book.sheet chunk) ≡ Some item =
        sym (by pulls.0) ∙ (sym (ap item_told pulls.3.pulled) ∙ told) in
        let it : life_in book.sheet chunk ≡ item = cc one in
        ap (λ (l : ItemId). l.chunk) it

-- a class of the same chunks owns the same
pub owns_same : (book left : BookView) → IsSameClass book left → (c : ℕ) → owns c left.sheet ≡ owns c book.sheet
owns_same book left class c = ap₂ (λ f n. is_between f (f + n) c) class.first class.count

-- nothing keeps the items
pub keeps_still : (book : BookView) → KeepsItems book book
keeps_still book = record { class = record { first = refl; count = refl }; linked = λ c. refl; words = λ i c. refl }

-- and so does what keeps them twice
pub keeps_then : (book between left : BookView) → KeepsItems book between → KeepsItems between left → KeepsItems book left
keeps_then book between left one other = record {
  class = record {
    first = other.class.first ∙ one.class.first;
    count = other.class.count ∙ one.class.count;
  };
  linked = λ c. other.linked c ∙ one.linked c;
  words = λ i c. other.words i c ∙ one.words i c;
}

-- what keeps the items may come before the end of one
pub kept_ends : (book kept left : BookView) (chunk : ℕ) → KeepsItems book kept → EndsAt chunk kept left
    → EndsAt chunk book left
kept_ends book kept left chunk keeps ends = record {
  class = record {
    first = ends.class.first ∙ keeps.class.first;
    count = ends.class.count ∙ keeps.class.count;
  };
  own = sym (owns_same book kept keeps.class chunk) ∙ ends.own;
  was = (ends.was.0, sym (keeps.linked chunk) ∙ ends.was.1);
  linked = λ c. ends.linked c ∙ ap (λ (o : Option ℕ). if chunk == c then None else o) (keeps.linked c);
  words = λ i c. ends.words i c ∙ keeps.words i c;
}

-- or behind it
pub ends_kept : (book ended left : BookView) (chunk : ℕ) → EndsAt chunk book ended → KeepsItems ended left
    → EndsAt chunk book left
ends_kept book ended left chunk ends keeps = record {
  class = record {
    first = keeps.class.first ∙ ends.class.first;
    count = keeps.class.count ∙ ends.class.count;
  };
  own = ends.own;
  was = ends.was;
  linked = λ c. keeps.linked c ∙ ends.linked c;
  words = λ i c. keeps.words i c ∙ ends.words i c;
}

-- a look at a chunk keeps the items
pub see_keeps : (book seen : BookView) (chunk : ℕ) (head : Head) → seen ≡ book_after_load chunk head book
    → KeepsItems book seen
see_keeps book seen chunk head is = subst (KeepsItems book) (sym is) (record {
  class = record { first = refl; count = refl };
  linked = λ c. refl;
  words = λ i c. refl;
})

-- behind its end no item is linked at the chunk
pub ended_none : (book ended : BookView) (chunk : ℕ) → EndsAt chunk book ended → linked_at ended.sheet chunk ≡ None
ended_none book ended chunk ends = ends.linked chunk
    ∙ ap (λ b. if b then None else linked_at book.sheet chunk) (eq-eqb chunk chunk refl)

-- a head of a chunk at which no item is linked isn't linked
pub unlinked_shown : (class : ClassSheet) (chunk : ℕ) (head : Head) → linked_at class chunk ≡ None
    → Shows head (standing class chunk).0 → head.linked ≡ false
unlinked_shown class chunk head none shows = by (standing class chunk).0 none shows
  where
    by : (p : Place) → linked_standing (p, (standing class chunk).1) ≡ None → Shows head p → head.linked ≡ false
    by Hot none shown = absurd (cc none)
    by Warm none shown = absurd (cc none)
    by Cold none shown = absurd (cc none)
    by Temp none shown = absurd (cc none)
    by Dying none shown = shown
    by Unused none shown = shown.0
    by Retired none shown = shown.0

-- a chunk of the class stands in a segment's list where its place is a segment's
pub segments_listed : (book : BookView) → Stands book → (c : ℕ) → owns c book.sheet ≡ true
    → is_in_segment c book.lists ≡ is_segment_place (standing book.sheet c).0
segments_listed book stands c own = ap (λ (f : Place → Bool). list_any f segment_places) (λ i q. each q i)
  where
    shown : (b : Bool) → nat_lt 0 (bit b) ≡ b
    shown true = refl
    shown false = refl

    each : (q : Place) → nat_lt 0 (times c (list_at book.lists q)) ≡ is_place (standing book.sheet c).0 q
    each q = ap (nat_lt 0) (stands c q) ∙ (shown (owns c book.sheet && is_place (standing book.sheet c).0 q)
        ∙ ap (λ b. b && is_place (standing book.sheet c).0 q) own)

-- an item is linked where an unlink of it isn't refused, and only there
pub unlink_ok : (book : BookView) (item : ItemId) → Stands book → owns item.chunk book.sheet ≡ true
    → None ≡ unlink_refusal book item → linked_at book.sheet item.chunk ≡ Some item.generation
unlink_ok book item stands own is = by (is_segment_place (standing book.sheet item.chunk).0) refl
    (eqb (standing book.sheet item.chunk).1 item.generation) refl
  where
    told : (b e : Bool) → is_segment_place (standing book.sheet item.chunk).0 ≡ b
        → eqb (standing book.sheet item.chunk).1 item.generation ≡ e
        → None ≡ (if not (b && e) then Some NotLinked else None)
    told b e is_b is_e = is ∙ (ap (λ o. if not o then Some NoSuchChunk else (if not (is_linked book item) then Some NotLinked else None)) own
        ∙ ap₂ (λ x y. if not (x && y) then Some NotLinked else None) (segments_listed book stands item.chunk own ∙ is_b) is_e)

    by : (b : Bool) → is_segment_place (standing book.sheet item.chunk).0 ≡ b → (e : Bool)
        → eqb (standing book.sheet item.chunk).1 item.generation ≡ e → linked_at book.sheet item.chunk ≡ Some item.generation
    by true is_b true is_e = ap (λ x. if x then Some (standing book.sheet item.chunk).1 else None) is_b ∙ ap Some (eqb-true _ _ is_e)
    by true is_b false is_e = absurd (cc (told true false is_b is_e))
    by false is_b e is_e = absurd (cc (told false e is_b is_e))

pub unlink_err : (book : BookView) (item : ItemId) (refusal : UnlinkRefusal) → Stands book → owns item.chunk book.sheet ≡ true
    → Some refusal ≡ unlink_refusal book item → linked_at book.sheet item.chunk ≢ Some item.generation
unlink_err book item refusal stands own is linked = by (is_segment_place (standing book.sheet item.chunk).0) refl
  where
    told : (b : Bool) → is_segment_place (standing book.sheet item.chunk).0 ≡ b
        → Some refusal ≡ (if not (b && eqb (standing book.sheet item.chunk).1 item.generation) then Some NotLinked else None)
    told b is_b = is ∙ (ap (λ o. if not o then Some NoSuchChunk else (if not (is_linked book item) then Some NotLinked else None)) own
        ∙ ap (λ x. if not (x && eqb (standing book.sheet item.chunk).1 item.generation) then Some NotLinked else None) (segments_listed book stands item.chunk own ∙ is_b))

    by : (b : Bool) → is_segment_place (standing book.sheet item.chunk).0 ≡ b → ⊥
    by true is_b =
        let one : Some (standing book.sheet item.chunk).1 ≡ Some item.generation =
        sym (ap (λ x. if x then Some (standing book.sheet item.chunk).1 else None) is_b) ∙ linked in
        let same : (standing book.sheet item.chunk).1 ≡ item.generation = cc one in
        absurd (cc (told true is_b ∙ ap (λ x. if not x then Some NotLinked else None) (eq-eqb _ _ same)))
    by false is_b =
        let none : None ≡ Some item.generation =
        sym (ap (λ x. if x then Some (standing book.sheet item.chunk).1 else None) is_b) ∙ linked in
        absurd (cc none)

-- where the life that a chunk has isn't linked, none is linked there
pub unlinked_none : (book : BookView) (chunk generation : ℕ) → generation ≡ (standing book.sheet chunk).1
    → linked_at book.sheet chunk ≢ Some generation → linked_at book.sheet chunk ≡ None
unlinked_none book chunk generation is apart = by (is_segment_place (standing book.sheet chunk).0) refl
  where
    by : (b : Bool) → is_segment_place (standing book.sheet chunk).0 ≡ b → linked_at book.sheet chunk ≡ None
    by true is_b =
        absurd (apart (ap (λ x. if x then Some (standing book.sheet chunk).1 else None) is_b ∙ ap Some (sym is)))
    by false is_b = ap (λ x. if x then Some (standing book.sheet chunk).1 else None) is_b

-- what an unlink leaves, where it isn't refused
pub unlinks_at : (book left : BookView) (item : ItemId) (ended : Ended) → owns item.chunk book.sheet ≡ true
    → linked_at book.sheet item.chunk ≡ Some item.generation → Unlinks book item (Ok ended) left → EndsAt item.chunk book left
unlinks_at book left item ended own was (looked, found, last, behind, looks, ends) =
    let own_looked : owns item.chunk looked.sheet ≡ true = ap (λ (b : BookView). owns item.chunk b.sheet) looks.after ∙ own in
    let at = ends_at looked left item.chunk ended last behind ends own_looked
    (item.generation, ap (λ (b : BookView). linked_at b.sheet item.chunk) looks.after ∙ was) in
    record {
      class = record {
        first = at.class.first ∙ ap (λ (b : BookView). b.sheet.first) looks.after;
        count = at.class.count ∙ ap (λ (b : BookView). b.sheet.count) looks.after;
      };
      own = own;
      was = (item.generation, was);
      linked = λ c. at.linked c ∙ ap (λ (b : BookView). if item.chunk == c then None else linked_at b.sheet c) looks.after;
      words = λ i c. at.words i c ∙ ap (λ (b : BookView). last_word i b.sheet c) looks.after;
    }

-- what a pull tells is the item at which it looked, and that is still linked
tells_item : (from : Tail) (head : Head) (lists : Lists) (limits : Limits) (ended : Ended) (item : ItemId)
    → item_told (pulled_of from head lists limits ended item) ≡ Some item
tells_item tail.Hot head lists limits ended item = by head.active (is_over (length lists.hot) limits.hot)
  where
    by : (active over : Bool) → item_told (if active then pulled.Warm item else (if over then pulled.Cold item else pulled.Stay item)) ≡ Some item
    by true over = refl
    by false true = refl
    by false false = refl
tells_item tail.Warm head lists limits ended item = by head.active (is_over (length lists.warm) limits.warm)
  where
    by : (active over : Bool) → item_told (if active then pulled.Again item else (if over then pulled.Cold item else pulled.Stay item)) ≡ Some item
    by true over = refl
    by false true = refl
    by false false = refl
tells_item tail.Cold head lists limits ended item = by head.active
  where
    by : (active : Bool) → item_told (if active then pulled.Warm item else pulled.Stay item) ≡ Some item
    by true = refl
    by false = refl
tells_item tail.Evict head lists limits ended.Freed item = refl
tells_item tail.Evict head lists limits ended.Deferred item = refl

-- what a pull that isn't an evict tells
pub pull_tells : (limits : Limits) (book left : BookView) (from : Tail) (answer : Pulled) → Stands book → from ≢ tail.Evict
    → (at : Option ℕ) → at ≡ last_pulled from book.lists → PullsAtBy limits book from at answer left
    → (item_told answer ≡ option_map (life_in book.sheet) at)
    × IfSome at (λ chunk. (owns chunk book.sheet ≡ true) × (linked_at book.sheet chunk ≡ Some (standing book.sheet chunk).1))
pull_tells limits book left from answer stands ne None is pulls = (ap item_told pulls.0, tt)
pull_tells limits book left tail.Hot answer stands ne (Some chunk) is pulls =
    let there = listed_there book stands chunk Hot (last_there chunk book.lists.hot (sym is)) in (
      ap item_told (pulls.2.pulled ended.Freed) ∙ tells_item tail.Hot pulls.0 book.lists limits ended.Freed (life_in book.sheet chunk),
      (there.0, stands_linked book.sheet chunk segment.Hot there.1),
    )
pull_tells limits book left tail.Warm answer stands ne (Some chunk) is pulls =
    let there = listed_there book stands chunk Warm (last_there chunk book.lists.warm (sym is)) in (
      ap item_told (pulls.2.pulled ended.Freed) ∙ tells_item tail.Warm pulls.0 book.lists limits ended.Freed (life_in book.sheet chunk),
      (there.0, stands_linked book.sheet chunk segment.Warm there.1),
    )
pull_tells limits book left tail.Cold answer stands ne (Some chunk) is pulls =
    let there = listed_there book stands chunk Cold (last_there chunk book.lists.cold (sym is)) in (
      ap item_told (pulls.2.pulled ended.Freed) ∙ tells_item tail.Cold pulls.0 book.lists limits ended.Freed (life_in book.sheet chunk),
      (there.0, stands_linked book.sheet chunk segment.Cold there.1),
    )
pull_tells limits book left tail.Evict answer stands ne (Some chunk) is pulls = absurd (ne refl)

-- the chunk of the item that a pull tells
pub told_chunk : (class : ClassSheet) (at : Option ℕ)
    → option_map (λ (item : ItemId). item.chunk) (option_map (life_in class) at) ≡ at
told_chunk class None = refl
told_chunk class (Some chunk) = refl

-- the item that a pull tells is linked behind it
pub told_linked : (book left : BookView) (at : Option ℕ) (told : Option ItemId) → told ≡ option_map (life_in book.sheet) at
    → IfSome at (λ chunk. (owns chunk book.sheet ≡ true) × (linked_at book.sheet chunk ≡ Some (standing book.sheet chunk).1))
    → KeepsItems book left → IfSome told (λ item. linked_at left.sheet item.chunk ≡ Some item.generation)
told_linked book left None told e some keeps = subst (λ t. IfSome t (λ item. linked_at left.sheet item.chunk ≡ Some item.generation)) (sym e) tt
told_linked book left (Some chunk) told e some keeps =
    subst (λ t. IfSome t (λ item. linked_at left.sheet item.chunk ≡ Some item.generation)) (sym e) (keeps.linked chunk ∙ some.1)

-- and of the class
pub told_own : (book left : BookView) (at : Option ℕ) (told : Option ItemId) → told ≡ option_map (life_in book.sheet) at
    → IfSome at (λ chunk. (owns chunk book.sheet ≡ true) × (linked_at book.sheet chunk ≡ Some (standing book.sheet chunk).1))
    → KeepsItems book left → IfSome told (λ item. owns item.chunk left.sheet ≡ true)
told_own book left None told e some keeps = subst (λ t. IfSome t (λ item. owns item.chunk left.sheet ≡ true)) (sym e) tt
told_own book left (Some chunk) told e some keeps =
    subst (λ t. IfSome t (λ item. owns item.chunk left.sheet ≡ true)) (sym e) (owns_same book left keeps.class chunk ∙ some.0)

-- where a pull tells no item, it changed nothing
pub told_none : (limits : Limits) (book left : BookView) (from : Tail) (answer : Pulled) (at : Option ℕ) (told : Option ItemId)
    → told ≡ option_map (life_in book.sheet) at → PullsAtBy limits book from at answer left → IfNone told (left ≡ book)
told_none limits book left from answer None told e pulls = subst (λ t. IfNone t (left ≡ book)) (sym e) pulls.1
told_none limits book left from answer (Some chunk) told e pulls = subst (λ t. IfNone t (left ≡ book)) (sym e) tt

-- an item that began is linked
pub begun_linked : (book left : BookView) (item : ItemId) → BeginsAt item book left → linked_at left.sheet item.chunk ≡ Some item.generation
begun_linked book left item begins = begins.linked item.chunk
    ∙ ap (λ b. if b then Some item.generation else linked_at book.sheet item.chunk) (eq-eqb item.chunk item.chunk refl)
