-- What changes of a Book do to the ways of its items.
use Rattle.std.proofs.Common.{◌≡◌, ◌≢◌, ℕ, ◌+◌, ◌<◌, Bool, true, false, ◌==◌, ◌&&◌, ◌||◌, cond, if◌then◌else◌, List, [], ◌∷◌, ◌++◌, length, Option, Some, None, Ok, Err, refl, sym, ap, ap₂, ◌∙◌, subst, arith, append-nil, append_assoc, eq-eqb}
use Rattle.bump_links.specs.Lists.{times, first_of}
use Rattle.bump_rules.specs.declared.bumps.Applied.{Applied}
use Rattle.bump_rules.specs.declared.bumps.Bump.{Bump}
use Rattle.bump_rules.specs.declared.bumps.Ended.{Ended}
use Rattle.bump_rules.specs.declared.bumps.Ended.TheVariants as ended
use Rattle.bump_rules.specs.declared.bumps.Outcome.{Outcome}
use Rattle.bump_rules.specs.declared.bumps.Outcome.TheVariants as outcome
use Rattle.bump_rules.specs.declared.commands.Pulled.{Pulled}
use Rattle.bump_rules.specs.declared.commands.Pulled.TheVariants as pulled
use Rattle.bump_rules.specs.declared.history.Cause.TheVariants as cause
use Rattle.bump_rules.specs.declared.history.Change.{Change}
use Rattle.bump_rules.specs.declared.history.Change.TheVariants as change
use Rattle.bump_rules.specs.declared.items.Head.{Head}
use Rattle.bump_rules.specs.declared.items.ItemId.{ItemId}
use Rattle.bump_rules.specs.declared.places.Limits.{Limits}
use Rattle.bump_rules.specs.declared.places.Place.{Place}
use Rattle.bump_rules.specs.declared.places.Place.TheVariants.{Hot, Warm, Cold, Temp, Dying, Unused, Retired}
use Rattle.bump_rules.specs.declared.places.Segment.{Segment}
use Rattle.bump_rules.specs.declared.places.Segment.TheVariants as segment
use Rattle.bump_rules.specs.declared.places.Start.{Start}
use Rattle.bump_rules.specs.declared.places.Tail.{Tail}
use Rattle.bump_rules.specs.declared.places.Tail.TheVariants as tail
use Rattle.bump_rules.specs.History.{subject, target, standing_in, freed_change}
use Rattle.bump_rules.specs.Lawful.{bit, Shows}
use Rattle.bump_rules.specs.Lists.{Lists}
use Rattle.bump_rules.specs.Lives.{life}
use Rattle.bump_rules.specs.Places.{first_segment, place_of, is_place, is_segment_place}
use Rattle.bump_rules.specs.Starts.{begun_change}
use Rattle.bump_rules.specs.Sweeps.{unheld, swept_changes, swept_of}
use Rattle.bump_rules.specs.Tables.{segment_of, pulled_to, last_pulled, is_unheld, evicted_as, pulled_of, is_over, is_cold, ended_of}
use Rattle.bump_rules.proofs.Beginnings.{begun_subject, begun_target}
use Rattle.bump_rules.proofs.PlainLists.{last_there, first_there, times_same, times_rest}
use Rattle.bump_rules.proofs.Replay.{standing_push}
use Rattle.bump_rules.proofs.Standings.{same_place}
use Rattle.bump_steps.specs.Applications.{life_in}
use Rattle.bump_steps.specs.Lives.{class_after_sweep, class_after_load}
use Rattle.bump_steps.specs.Views.{standing}
use Rattle.bump_word.specs.Words.{word_of}
use Rattle.bump_class.specs.declared.ending.UnlinkRefusal.{UnlinkRefusal}
use Rattle.bump_class.specs.declared.ending.UnlinkRefusal.TheVariants.{NoSuchChunk, NotLinked}
use Rattle.bump_class.specs.Applications.{FoundHeads, Applies, AppliesFront, applied_answer, book_after_update, class_with_time, with_clearing}
use Rattle.bump_class.specs.Books.{BookView}
use Rattle.bump_class.specs.Changes.{book_after_unlink, book_after_sweep_or_load, book_after_load, book_with_words}
use Rattle.bump_class.specs.Ends.{EndsItem, book_after_end, Unlinks}
use Rattle.bump_class.specs.Lanes.{LaneView}
use Rattle.bump_class.specs.Links.{linked_item, item_of, next_life}
use Rattle.bump_class.specs.Pulls.{PullsAt, PullsAtBy, MovesItemBy, book_after_pull_to, limits_of_book}
use Rattle.bump_class.specs.Sweeps.{SweepsThese}
use Rattle.cache_lists.specs.Flows.{crosses, crossings_behind, crossings, Way, is_way, Flows, way_of_pull, way_of_applied, way_to}
use Rattle.bump_rules.specs.Commands.{item_told}
use Rattle.cache_lists.specs.Items.{may_tell}
use Rattle.cache_lists.specs.Linked.{linked_standing, linked_at}
use Rattle.cache_lists.proofs.Bumping.{shows_cold, shows_elsewhere, moved_found, gone_found}
use Rattle.cache_lists.proofs.Flowing.{crossings_push, place_turned}
use Rattle.cache_lists.specs.Looks.{with_steps}
use Rattle.cache_lists.proofs.PullLemmas.{pulled_after}
use Rattle.cache_lists.proofs.Standings.{Stands, listed_there, freed_nowhere}

-- ---- what an entry of the history does, and what two changes do one behind the other

-- a Book whose history stays has the same ways
pub still : (before after : BookView) → after.sheet.fresh ≡ before.sheet.fresh
    → after.sheet.history ≡ before.sheet.history → Flows None before after
still before after fresh history = record {
  counts = λ from to some. omega (arith, ap₂ (λ f h. crossings_behind f from to [] h) fresh history);
}

-- an entry of a chunk that stood at a place is the way from there to its target
pub entered : (before after : BookView) (e : Change) (p : Place) → after.sheet.fresh ≡ before.sheet.fresh
    → after.sheet.history ≡ before.sheet.history ++ e ∷ [] → (standing before.sheet (subject e).chunk).0 ≡ p
    → Flows (Some (p, target e)) before after
entered before after e p fresh history stood = record {
  counts = λ from to some. ap₂ (λ f h. crossings_behind f from to [] h) fresh history
      ∙ (crossings_push before.sheet.fresh from to [] before.sheet.history e
      ∙ ap (λ b. crossings from to before.sheet + bit b) (way from to));
}
  where
    way : (from to : Place) → crosses before.sheet.fresh from to before.sheet.history e
        ≡ is_way (Some (p, target e)) from to
    way from to = ap (λ a. is_place from a && is_place to (target e)) stood
        ∙ ap₂ (λ a b. a && b) (place_turned from p) (place_turned to (target e))

-- a way between two places, neither of which is a list of linked items, isn't one from or to such a list
no_way : (p q from to : Place) → is_segment_place p ≡ false → is_segment_place q ≡ false
    → (is_segment_place from || is_segment_place to) ≡ true → (is_place p from && is_place q to) ≡ false
no_way p q from to no_p no_q some = by (is_place p from) (is_place q to) refl refl
  where
    by : (a b : Bool) → is_place p from ≡ a → is_place q to ≡ b → (a && b) ≡ false
    by true true is_p is_q =
        let none : false ≡ true = sym (ap₂ (λ a b. a || b)
        (ap is_segment_place (sym (same_place p from is_p)) ∙ no_p)
        (ap is_segment_place (sym (same_place q to is_q)) ∙ no_q)) ∙ some in
        absurd (cc none)
    by true false is_p is_q = refl
    by false b is_p is_q = refl

-- so it counts nothing
pub apart : (before after : BookView) (p q : Place) → is_segment_place p ≡ false → is_segment_place q ≡ false
    → Flows (Some (p, q)) before after → Flows None before after
apart before after p q no_p no_q flows = record {
  counts = λ from to some. flows.counts from to some
      ∙ ap (λ b. crossings from to before.sheet + bit b) (no_way p q from to no_p no_q some);
}

-- what counts nothing may come before a way
pub behind_none : (first second third : BookView) (way : Option Way) → Flows None first second
    → Flows way second third → Flows way first third
behind_none first second third way none flows = record {
  counts = λ from to some. omega (arith, none.counts from to some, flows.counts from to some);
}

-- or behind it
pub before_none : (first second third : BookView) (way : Option Way) → Flows way first second
    → Flows None second third → Flows way first third
before_none first second third way flows none = record {
  counts = λ from to some. omega (arith, flows.counts from to some, none.counts from to some);
}

-- a look at a chunk counts nothing
pub seen_flows : (book seen : BookView) (chunk : ℕ) (head : Head) → seen ≡ book_after_load chunk head book
    → Flows None book seen
seen_flows book seen chunk head is =
    still book seen (ap (λ (b : BookView). b.sheet.fresh) is) (ap (λ (b : BookView). b.sheet.history) is)

-- ---- the ends of lives

-- what is freed is in no list of linked items
freed_apart : (item : ItemId) → is_segment_place (target (freed_change item)) ≡ false
freed_apart item = by (item.generation == 4294967295)
  where
    by : (b : Bool) → is_segment_place (target (if b then change.Retired item else change.Swept item)) ≡ false
    by true = refl
    by false = refl

-- a look at a chunk that isn't linked counts nothing, whether it is free then or not
pub looked_apart : (book : BookView) (chunk : ℕ) (p : Place) (head : Head) → (standing book.sheet chunk).0 ≡ p
    → is_segment_place p ≡ false → Flows None book (book_after_sweep_or_load chunk head book)
looked_apart book chunk p head stood no_p = by (head.refs == 0)
  where
    item : ItemId
    item = life chunk (standing book.sheet chunk).1

    Left : Bool → BookView
    Left b = record book {
      sheet = if b then class_after_sweep chunk (word_of head) book.sheet
          else class_after_load chunk (word_of head) book.sheet;
      lists = (book_after_sweep_or_load chunk head book).lists;
    }

    by : (b : Bool) → Flows None book (Left b)
    by true = apart book (Left true) p (target (freed_change item)) no_p (freed_apart item)
        (entered book (Left true) (freed_change item) p refl refl
        (ap (λ (l : ItemId). (standing book.sheet l.chunk).0) (freed_nowhere item).1 ∙ stood))
    by false = still book (Left false) refl refl

-- the end of a life takes its chunk from where it stood to DYING
pub ends_flow : (book left : BookView) (chunk : ℕ) (p : Place) (ended : Ended) (last behind : Head)
    → EndsItem book chunk ended left last behind → (standing book.sheet chunk).0 ≡ p
    → Flows (Some (p, Dying)) book left
ends_flow book left chunk p ended last behind ends stood =
    subst (Flows (Some (p, Dying)) book) (sym ends.after)
    (before_none book unlinked (book_after_end chunk last behind book) (Some (p, Dying))
    (entered book unlinked entry p refl refl stood) (looked_apart unlinked chunk Dying behind dying refl))
  where
    unlinked : BookView
    unlinked = book_after_unlink chunk last book

    entry : Change
    entry = change.Unlinked (life chunk (standing book.sheet chunk).1)

    dying : (standing unlinked.sheet chunk).0 ≡ Dying
    dying = ap (λ s. s.0) (standing_push chunk (Unused, book.sheet.fresh) book.sheet.history entry)
        ∙ ap (λ b. (cond b (Dying, (standing book.sheet chunk).1) (standing book.sheet chunk)).0)
        (eq-eqb chunk chunk refl)

-- a linked head shows the place of its segment
pub shows_segment : (head : Head) (place : Place) → Shows head place → head.linked ≡ true
    → place ≡ place_of head.segment
shows_segment head Hot shows linked = sym (ap place_of shows.1)
shows_segment head Warm shows linked = sym (ap place_of shows.1)
shows_segment head Cold shows linked = sym (ap place_of shows.1)
shows_segment head Temp shows linked = sym (ap place_of shows.1)
shows_segment head Dying shows linked = absurd (cc (sym linked ∙ shows))
shows_segment head Unused shows linked = absurd (cc (sym linked ∙ shows.0))
shows_segment head Retired shows linked = absurd (cc (sym linked ∙ shows.0))

-- a head of a chunk whose item is linked is linked
linked_shown : (head : Head) (place : Place) (of generation : ℕ) → linked_standing (place, of) ≡ Some generation
    → Shows head place → head.linked ≡ true
linked_shown head Hot of generation some shown = shown.0
linked_shown head Warm of generation some shown = shown.0
linked_shown head Cold of generation some shown = shown.0
linked_shown head Temp of generation some shown = shown.0
linked_shown head Dying of generation some shown = absurd (cc some)
linked_shown head Unused of generation some shown = absurd (cc some)
linked_shown head Retired of generation some shown = absurd (cc some)

-- so it tells the list in which the item stands
pub found_segment : (book : BookView) (item : ItemId) (head : Head)
    → linked_at book.sheet item.chunk ≡ Some item.generation → Shows head (standing book.sheet item.chunk).0
    → (standing book.sheet item.chunk).0 ≡ place_of head.segment
found_segment book item head linked shows = shows_segment head (standing book.sheet item.chunk).0 shows
    (linked_shown head (standing book.sheet item.chunk).0 (standing book.sheet item.chunk).1 item.generation linked shows)

-- an unlink that isn't refused takes its chunk from where it stood to DYING
pub unlinks_flow : (book left : BookView) (item : ItemId) (p : Place) (ended : Ended)
    → (standing book.sheet item.chunk).0 ≡ p → Unlinks book item (Ok ended) left → Flows (Some (p, Dying)) book left
unlinks_flow book left item p ended stood (looked, found, last, behind, looks, ends) =
    behind_none book looked left (Some (p, Dying))
    (still book looked (ap (λ (b : BookView). b.sheet.fresh) looks.after)
    (ap (λ (b : BookView). b.sheet.history) looks.after))
    (ends_flow looked left item.chunk p ended last behind ends
    (ap (λ (b : BookView). (standing b.sheet item.chunk).0) looks.after ∙ stood))

-- and one that is refused counts nothing
pub refused_flow : (book left : BookView) (item : ItemId) (refusal : UnlinkRefusal)
    → Unlinks book item (Err refusal) left → Flows None book left
refused_flow book left item NoSuchChunk is =
    still book left (ap (λ (b : BookView). b.sheet.fresh) is) (ap (λ (b : BookView). b.sheet.history) is)
refused_flow book left item NotLinked (found, looks) = still book left
    (ap (λ (b : BookView). b.sheet.fresh) looks.after) (ap (λ (b : BookView). b.sheet.history) looks.after)

-- ---- pulls

-- what a pull tells by the tail table is one of what it may tell
may_told : (from : Tail) (head : Head) (lists : Lists) (limits : Limits) (ended : Ended) (item : ItemId)
    → may_tell from (pulled_of from head lists limits ended item) ≡ true
may_told tail.Hot head lists limits ended item = by head.active (is_over (length lists.hot) limits.hot)
  where
    by : (active over : Bool) → may_tell tail.Hot
        (if active then pulled.Warm item else (if over then pulled.Cold item else pulled.Stay item)) ≡ true
    by true over = refl
    by false true = refl
    by false false = refl
may_told tail.Warm head lists limits ended item = by head.active (is_over (length lists.warm) limits.warm)
  where
    by : (active over : Bool) → may_tell tail.Warm
        (if active then pulled.Again item else (if over then pulled.Cold item else pulled.Stay item)) ≡ true
    by true over = refl
    by false true = refl
    by false false = refl
may_told tail.Cold head lists limits ended item = by head.active
  where
    by : (active : Bool) → may_tell tail.Cold (if active then pulled.Warm item else pulled.Stay item) ≡ true
    by true = refl
    by false = refl
may_told tail.Evict head lists limits ended.Freed item = refl
may_told tail.Evict head lists limits ended.Deferred item = refl

-- so each pull tells one of what it may tell
pub pulls_told : (limits : Limits) (book left : BookView) (from : Tail) (answer : Pulled) (at : Option ℕ)
    → PullsAtBy limits book from at answer left → may_tell from answer ≡ true
pulls_told limits book left from answer None pulls = ap (may_tell from) pulls.0
pulls_told limits book left tail.Hot answer (Some chunk) pulls = ap (may_tell tail.Hot) (pulls.2.pulled ended.Freed)
    ∙ may_told tail.Hot pulls.0 book.lists limits ended.Freed (life_in book.sheet chunk)
pulls_told limits book left tail.Warm answer (Some chunk) pulls = ap (may_tell tail.Warm) (pulls.2.pulled ended.Freed)
    ∙ may_told tail.Warm pulls.0 book.lists limits ended.Freed (life_in book.sheet chunk)
pulls_told limits book left tail.Cold answer (Some chunk) pulls = ap (may_tell tail.Cold) (pulls.2.pulled ended.Freed)
    ∙ may_told tail.Cold pulls.0 book.lists limits ended.Freed (life_in book.sheet chunk)
pulls_told limits book left tail.Evict answer (Some chunk) pulls = ap (may_tell tail.Evict) pulls.3.pulled
    ∙ may_told tail.Evict pulls.1 book.lists (limits_of_book book) pulls.0 (life_in book.sheet chunk)

-- the item of a pull that isn't an evict goes from its list to where it was moved, if it was
pub told_way : (from : Tail) (answer : Pulled) → from ≢ tail.Evict → may_tell from answer ≡ true
    → way_of_pull from answer ≡ way_to (segment_of from) (pulled_to answer)
told_way from pulled.Empty ne may = refl
told_way from (pulled.Stay item) ne may = refl
told_way from (pulled.Warm item) ne may = refl
told_way from (pulled.Cold item) ne may = refl
told_way tail.Hot (pulled.Again item) ne may = absurd (cc may)
told_way tail.Warm (pulled.Again item) ne may = refl
told_way tail.Cold (pulled.Again item) ne may = absurd (cc may)
told_way tail.Evict (pulled.Again item) ne may = absurd (ne refl)
told_way tail.Hot (pulled.Freed item) ne may = absurd (cc may)
told_way tail.Warm (pulled.Freed item) ne may = absurd (cc may)
told_way tail.Cold (pulled.Freed item) ne may = absurd (cc may)
told_way tail.Evict (pulled.Freed item) ne may = absurd (ne refl)
told_way tail.Hot (pulled.Deferred item) ne may = absurd (cc may)
told_way tail.Warm (pulled.Deferred item) ne may = absurd (cc may)
told_way tail.Cold (pulled.Deferred item) ne may = absurd (cc may)
told_way tail.Evict (pulled.Deferred item) ne may = absurd (ne refl)

-- so such a pull is this way
moves_flow : (limits : Limits) (book left : BookView) (from : Tail) (chunk : ℕ) (answer : Pulled) (cleared moved : Head)
    → from ≢ tail.Evict → MovesItemBy limits book from chunk answer left cleared moved
    → (standing book.sheet chunk).0 ≡ place_of (segment_of from) → Flows (way_of_pull from answer) book left
moves_flow limits book left from chunk answer cleared moved ne moves stood =
    subst (λ way. Flows way book left) (sym way)
    (subst (Flows (way_to (segment_of from) (pulled_to answer)) book) (sym after) (by (pulled_to answer)))
  where
    after : left ≡ book_after_pull_to from chunk (pulled_to answer) moved (with_steps moves.looked.sheet.steps book)
    after = pulled_after limits book left from chunk answer cleared moved moves

    way : way_of_pull from answer ≡ way_to (segment_of from) (pulled_to answer)
    way = told_way from answer ne (ap (may_tell from) (moves.pulled ended.Freed)
        ∙ may_told from cleared book.lists limits ended.Freed (life_in book.sheet chunk))

    by : (to : Option Segment) → Flows (way_to (segment_of from) to) book
        (book_after_pull_to from chunk to moved (with_steps moves.looked.sheet.steps book))
    by None = still book (with_steps moves.looked.sheet.steps book) refl refl
    by (Some to) = entered book
        (book_after_pull_to from chunk (Some to) moved (with_steps moves.looked.sheet.steps book))
        (change.Moved (life_in book.sheet chunk) (segment_of from) to cause.Pull) (place_of (segment_of from)) refl refl
        stood

-- a pull is the way of its item, by its answer
pub pulls_flow : (limits : Limits) (book left : BookView) (from : Tail) (answer : Pulled) → Stands book → (at : Option ℕ)
    → at ≡ last_pulled from book.lists → PullsAtBy limits book from at answer left → Flows (way_of_pull from answer) book left
pulls_flow limits book left from answer stands None is pulls =
    subst (λ a. Flows (way_of_pull from a) book left) (sym pulls.0)
    (still book left (ap (λ (b : BookView). b.sheet.fresh) pulls.1) (ap (λ (b : BookView). b.sheet.history) pulls.1))
pulls_flow limits book left tail.Hot answer stands (Some chunk) is pulls =
    moves_flow limits book left tail.Hot chunk answer pulls.0 pulls.1 (λ e. absurd (cc e)) pulls.2
    (listed_there book stands chunk Hot (last_there chunk book.lists.hot (sym is))).1
pulls_flow limits book left tail.Warm answer stands (Some chunk) is pulls =
    moves_flow limits book left tail.Warm chunk answer pulls.0 pulls.1 (λ e. absurd (cc e)) pulls.2
    (listed_there book stands chunk Warm (last_there chunk book.lists.warm (sym is))).1
pulls_flow limits book left tail.Cold answer stands (Some chunk) is pulls =
    moves_flow limits book left tail.Cold chunk answer pulls.0 pulls.1 (λ e. absurd (cc e)) pulls.2
    (listed_there book stands chunk Cold (last_there chunk book.lists.cold (sym is))).1
pulls_flow limits book left tail.Evict answer stands (Some chunk) is pulls =
    subst (λ way. Flows way book left) (sym (ap (way_of_pull tail.Evict) pulls.3.pulled ∙ evicted pulls.0))
    (ends_flow book left chunk Cold pulls.0 pulls.1 pulls.2 pulls.3.ends pulls.3.cold)
  where
    evicted : (e : Ended) → way_of_pull tail.Evict (evicted_as e (life_in book.sheet chunk)) ≡ Some (Cold, Dying)
    evicted ended.Freed = refl
    evicted ended.Deferred = refl

-- an evict that tells an item took it from COLD to DYING
pub evicts_flow : (book left : BookView) (answer : Pulled) (item : ItemId) → Stands book
    → PullsAt book tail.Evict (last_pulled tail.Evict book.lists) answer left → item_told answer ≡ Some item
    → Flows (Some (Cold, Dying)) book left
evicts_flow book left answer item stands pulls told =
    subst (λ way. Flows way book left) (by answer told (pulls_told (limits_of_book book) book left tail.Evict answer _ pulls))
    (pulls_flow (limits_of_book book) book left tail.Evict answer stands _ refl pulls)
  where
    by : (a : Pulled) → item_told a ≡ Some item → may_tell tail.Evict a ≡ true
        → way_of_pull tail.Evict a ≡ Some (Cold, Dying)
    by pulled.Empty is may = absurd (cc is)
    by (pulled.Stay it) is may = absurd (cc may)
    by (pulled.Warm it) is may = absurd (cc may)
    by (pulled.Again it) is may = absurd (cc may)
    by (pulled.Cold it) is may = absurd (cc may)
    by (pulled.Freed it) is may = refl
    by (pulled.Deferred it) is may = refl

-- ---- links and sweeps

-- a link takes its chunk from UNUSED to where its item begins
pub links_flow : (begins : Start) (book left : BookView) (item : ItemId) (label : ℕ) (words : List ℕ) (now : ℕ)
    → Stands book → linked_item book ≡ Ok item → left ≡ book_with_words begins item label words now book
    → Flows (Some (Unused, place_of (first_segment begins))) book left
links_flow begins book left item label words now stands is after =
    subst (Flows (Some (Unused, place_of (first_segment begins))) book) (sym after)
    (by (first_of book.lists.unused) refl is)
  where
    begun : BookView
    begun = book_with_words begins item label words now book

    by : (at : Option ℕ) → first_of book.lists.unused ≡ at → item_of book at ≡ Ok item
        → Flows (Some (Unused, place_of (first_segment begins))) book begun
    by None e linked = absurd (cc linked)
    by (Some chunk) e linked =
        let it : next_life book chunk ≡ item = cc linked in
        let there = listed_there book stands chunk Unused (first_there chunk book.lists.unused e) in
        subst (λ p. Flows (Some (Unused, p)) book begun) (begun_target begins item)
        (entered book begun (begun_change begins item) Unused refl refl
        (ap (λ (l : ItemId). (standing book.sheet l.chunk).0) (begun_subject begins item ∙ sym it) ∙ there.1))

-- freeing chunks that aren't linked counts nothing
swept_flow : (fresh : ℕ) (heads : ℕ → Head) (from to : Place)
    → (is_segment_place from || is_segment_place to) ≡ true → (history : List Change) (cs : List ℕ)
    → ((c : ℕ) → 0 < times c cs → is_segment_place (standing_in fresh history c).0 ≡ false)
    → crossings_behind fresh from to [] (history ++ swept_of heads cs) ≡ crossings_behind fresh from to [] history
swept_flow fresh heads from to some history [] none =
    ap (crossings_behind fresh from to []) (append-nil history)
swept_flow fresh heads from to some history (d ∷ cs) none =
    by (is_unheld (heads d)) (λ h n. swept_flow fresh heads from to some h cs n)
  where
    item : ItemId
    item = life d (heads d).generation

    entry : Change
    entry = freed_change item

    there : is_segment_place (standing_in fresh history (subject entry).chunk).0 ≡ false
    there = ap (λ (l : ItemId). is_segment_place (standing_in fresh history l.chunk).0) (freed_nowhere item).1
        ∙ none d (omega (arith, times_same d d cs refl))

    one : crossings_behind fresh from to [] (history ++ entry ∷ []) ≡ crossings_behind fresh from to [] history
    one = omega (
      arith,
      crossings_push fresh from to [] history entry,
      ap bit (ap₂ (λ a b. a && b) (place_turned from (standing_in fresh history (subject entry).chunk).0)
          (place_turned to (target entry))
          ∙ no_way (standing_in fresh history (subject entry).chunk).0 (target entry) from to there (freed_apart item)
          some),
    )

    rest_none : (e : ℕ) → 0 < times e cs → is_segment_place (standing_in fresh history e).0 ≡ false
    rest_none e has = none e (omega (arith, times_rest e d cs, has))

    still_none : (e : ℕ) → 0 < times e cs → is_segment_place (standing_in fresh (history ++ entry ∷ []) e).0 ≡ false
    still_none e has = ap (λ s. is_segment_place s.0) (standing_push e (Unused, fresh) history entry)
        ∙ either ((subject entry).chunk == e)
      where
        either : (b : Bool)
            → is_segment_place (cond b (target entry, (subject entry).generation) (standing_in fresh history e)).0
            ≡ false
        either true = freed_apart item
        either false = rest_none e has

    by : (b : Bool)
        → ((h : List Change) → ((e : ℕ) → 0 < times e cs → is_segment_place (standing_in fresh h e).0 ≡ false)
        → crossings_behind fresh from to [] (h ++ swept_of heads cs) ≡ crossings_behind fresh from to [] h)
        → crossings_behind fresh from to []
        (history ++ swept_changes heads (if b then d ∷ unheld heads cs else unheld heads cs))
        ≡ crossings_behind fresh from to [] history
    by true more =
        ap (crossings_behind fresh from to []) (sym (append_assoc history (entry ∷ []) (swept_of heads cs)))
        ∙ (more (history ++ entry ∷ []) still_none ∙ one)
    by false more = more history rest_none

-- a sweep counts nothing
pub sweeps_flow : (book left : BookView) (freed_chunks : ℕ) (heads : ℕ → Head) (looked : List ℕ) → Stands book
    → ((c : ℕ) → 0 < times c looked → 0 < times c book.lists.dying) → SweepsThese looked book freed_chunks left heads
    → Flows None book left
sweeps_flow book left freed_chunks heads looked stands dying sweeps = subst (Flows None book) (sym sweeps.after) (record {
  counts = λ from to some. omega (
    arith,
    swept_flow book.sheet.fresh heads from to some book.sheet.history looked
        (λ c has. ap is_segment_place (listed_there book stands c Dying (dying c has)).1),
  );
})

-- ---- applied bumps

-- an applied bump is the way from COLD to WARM where it moved its item, and else counts nothing
pub applied_flows : (book left : BookView) (from to : LaneView) (bump : Bump) (now : ℕ) (came_out : Outcome)
    (answer : Applied) (found : FoundHeads) → Applies book from bump now came_out answer left to found
    → Flows (way_of_applied (Some answer)) book left
applied_flows book left from to bump now came_out answer found applies =
    subst (λ a. Flows (way_of_applied (Some a)) book left) (sym applies.answered)
    (subst (Flows (way_of_applied (Some (applied_answer came_out (ended_of found.behind)))) book)
    (sym applies.book_after) (by came_out refl))
  where
    in_cold : (b : Bool) → Flows None book (record book {
      sheet = if b then with_clearing from.sheet.worker bump found.cleared
          (class_with_time from.sheet.worker bump now book.sheet) else class_with_time from.sheet.worker bump now book.sheet;
    })
    in_cold true = still book _ refl refl
    in_cold false = still book _ refl refl

    by : (o : Outcome) → o ≡ came_out → Flows (way_of_applied (Some (applied_answer o (ended_of found.behind)))) book
        (book_after_update o from.sheet.worker bump now found book)
    by outcome.Moved e =
        let cold = moved_found found.tried found.cleared (e ∙ applies.table) in
        entered book (book_after_update outcome.Moved from.sheet.worker bump now found book)
        (change.Moved bump.life segment.Cold segment.Warm (cause.Bump from.sheet.worker bump.number)) Cold refl refl
        (shows_cold found.tried (standing book.sheet bump.life.chunk).0 applies.shows cold.0 cold.1)
    by outcome.TimeOnly e = in_cold (is_cold found.tried.segment)
    by outcome.Gone e = looked_apart book bump.life.chunk (standing book.sheet bump.life.chunk).0 found.behind refl
        (shows_elsewhere found.tried (standing book.sheet bump.life.chunk).0 applies.shows
        (gone_found found.tried found.cleared (e ∙ applies.table)))

-- so is the one aboard, behind a look at its chunk
pub front_flows : (book seen left : BookView) (from to : LaneView) (chunk now : ℕ) (head : Head)
    (answer : Applied) → seen ≡ book_after_load chunk head book → AppliesFront now seen from answer left to
    → Flows (way_of_applied (Some answer)) book left
front_flows book seen left from to chunk now head answer is (bump, came_out, found, aboard, applies) =
    behind_none book seen left (way_of_applied (Some answer)) (seen_flows book seen chunk head is)
    (applied_flows seen left from to bump now came_out answer found applies)
