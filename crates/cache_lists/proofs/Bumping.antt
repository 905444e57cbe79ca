-- What an applied bump leaves of a Book's items.
use Rattle.std.proofs.Common.{◌≡◌, ℕ, Bool, true, false, ◌==◌, ◌&&◌, not, Some, if◌then◌else◌, refl, sym, ap, ◌∙◌, subst}
use Rattle.bump_rules.specs.declared.bumps.Applied.{Applied}
use Rattle.bump_rules.specs.declared.bumps.Bump.{Bump}
use Rattle.bump_rules.specs.declared.bumps.Outcome.{Outcome}
use Rattle.bump_rules.specs.declared.bumps.Outcome.TheVariants as outcome
use Rattle.bump_rules.specs.declared.history.Cause.TheVariants as cause
use Rattle.bump_rules.specs.declared.history.Change.TheVariants as change
use Rattle.bump_rules.specs.declared.items.Head.{Head}
use Rattle.bump_rules.specs.declared.items.ItemId.{ItemId}
use Rattle.bump_rules.specs.declared.places.Place.{Place}
use Rattle.bump_rules.specs.declared.places.Place.TheVariants.{Hot, Warm, Cold, Temp, Dying, Unused, Retired}
use Rattle.bump_rules.specs.declared.places.Segment.TheVariants as segment
use Rattle.bump_rules.specs.History.{freed_change}
use Rattle.bump_rules.specs.Lawful.{Shows}
use Rattle.bump_rules.specs.Lives.{life}
use Rattle.bump_rules.specs.Places.{is_segment_place}
use Rattle.bump_rules.specs.Tables.{is_cold, outcome_of}
use Rattle.bump_steps.specs.Views.{standing, last_word}
use Rattle.bump_class.specs.Books.{BookView}
use Rattle.bump_class.specs.Lanes.{LaneView, carries}
use Rattle.bump_class.specs.Applications.{FoundHeads, Applies, AppliesFront, book_after_update, class_with_time, with_clearing}
use Rattle.bump_steps.specs.declared.views.ClassSheet.{ClassSheet}
use Rattle.bump_class.specs.Changes.{book_after_sweep_or_load, book_after_load}
use Rattle.bump_steps.specs.Lives.{class_after_sweep, class_after_load}
use Rattle.bump_word.specs.Words.{word_of}
use Rattle.cache_lists.specs.Linked.{linked_at}
use Rattle.cache_lists.specs.Items.{KeepsItems}
use Rattle.cache_lists.proofs.Standings.{linked_same, freed_nowhere, segment_linked, stands_elsewhere, stands_linked}

-- a head that is linked in COLD shows that its chunk stands there
pub shows_cold : (head : Head) (place : Place) → Shows head place → head.linked ≡ true → is_cold head.segment ≡ true → place ≡ Cold
shows_cold head Hot shows linked cold = absurd (cc (sym cold ∙ ap is_cold shows.1))
shows_cold head Warm shows linked cold = absurd (cc (sym cold ∙ ap is_cold shows.1))
shows_cold head Cold shows linked cold = refl
shows_cold head Temp shows linked cold = absurd (cc (sym cold ∙ ap is_cold shows.1))
shows_cold head Dying shows linked cold = absurd (cc (sym linked ∙ shows))
shows_cold head Unused shows linked cold = absurd (cc (sym linked ∙ shows.0))
shows_cold head Retired shows linked cold = absurd (cc (sym linked ∙ shows.0))

-- one that isn't linked shows that its chunk stands in no segment
pub shows_elsewhere : (head : Head) (place : Place) → Shows head place → head.linked ≡ false → is_segment_place place ≡ false
shows_elsewhere head Hot shows apart = absurd (cc (sym apart ∙ shows.0))
shows_elsewhere head Warm shows apart = absurd (cc (sym apart ∙ shows.0))
shows_elsewhere head Cold shows apart = absurd (cc (sym apart ∙ shows.0))
shows_elsewhere head Temp shows apart = absurd (cc (sym apart ∙ shows.0))
shows_elsewhere head Dying shows apart = refl
shows_elsewhere head Unused shows apart = refl
shows_elsewhere head Retired shows apart = refl

-- by the update table a move finds a linked item in COLD, and what is gone isn't linked
pub moved_found : (tried cleared : Head) → outcome.Moved ≡ outcome_of tried cleared → (tried.linked ≡ true) × (is_cold tried.segment ≡ true)
moved_found tried cleared is = by tried.linked (is_cold tried.segment) cleared.active refl refl is
  where
    by : (l k a : Bool) → tried.linked ≡ l → is_cold tried.segment ≡ k
        → outcome.Moved ≡ (if not l then outcome.Gone else (if k && a then outcome.Moved else outcome.TimeOnly))
        → (tried.linked ≡ true) × (is_cold tried.segment ≡ true)
    by true true a l k e = (l, k)
    by true false a l k e = absurd (cc e)
    by false k a l c e = absurd (cc e)

pub gone_found : (tried cleared : Head) → outcome.Gone ≡ outcome_of tried cleared → tried.linked ≡ false
gone_found tried cleared is = by tried.linked (is_cold tried.segment && cleared.active) refl is
  where
    by : (l b : Bool) → tried.linked ≡ l
        → outcome.Gone ≡ (if not l then outcome.Gone else (if b then outcome.Moved else outcome.TimeOnly)) → tried.linked ≡ false
    by true true l e = absurd (cc e)
    by true false l e = absurd (cc e)
    by false b l e = l

-- an applied bump keeps the items
pub applied_keeps : (book left : BookView) (from to : LaneView) (bump : Bump) (now : ℕ) (came_out : Outcome) (answer : Applied)
    (found : FoundHeads) → Applies book from bump now came_out answer left to found
    → (standing book.sheet bump.life.chunk).1 ≡ bump.life.generation → KeepsItems book left
applied_keeps book left from to bump now came_out answer found applies same =
    subst (KeepsItems book) (sym applies.book_after) (by came_out refl)
  where
    timed : ClassSheet
    timed = class_with_time from.sheet.worker bump now book.sheet

    in_cold : (b : Bool) → KeepsItems book (record book {
      sheet = if b then with_clearing from.sheet.worker bump found.cleared timed else timed;
    })
    in_cold true = record { class = record { first = refl; count = refl }; linked = λ c. refl; words = λ i c. refl }
    in_cold false = record { class = record { first = refl; count = refl }; linked = λ c. refl; words = λ i c. refl }

    Looked : Bool → BookView
    Looked b = record book {
      sheet = if b then class_after_sweep bump.life.chunk (word_of found.behind) book.sheet
          else class_after_load bump.life.chunk (word_of found.behind) book.sheet;
      lists = (book_after_sweep_or_load bump.life.chunk found.behind book).lists;
    }

    item : ItemId
    item = life bump.life.chunk (standing book.sheet bump.life.chunk).1

    gone : (b : Bool) → found.tried.linked ≡ false → KeepsItems book (Looked b)
    gone true apart = record {
      class = record { first = refl; count = refl };
      linked = linked_same book.sheet.fresh book.sheet.history (freed_change item)
          ((freed_nowhere item).0 ∙ sym (ap (λ (l : ItemId). linked_at book.sheet l.chunk) (freed_nowhere item).1
          ∙ stands_elsewhere book.sheet bump.life.chunk (standing book.sheet bump.life.chunk).0 refl
          (shows_elsewhere found.tried (standing book.sheet bump.life.chunk).0 applies.shows apart)));
      words = λ i c. refl;
    }
    gone false apart = record { class = record { first = refl; count = refl }; linked = λ c. refl; words = λ i c. refl }

    by : (o : Outcome) → o ≡ came_out → KeepsItems book (book_after_update o from.sheet.worker bump now found book)
    by outcome.Moved e =
        let cold = moved_found found.tried found.cleared (e ∙ applies.table) in
        let there = shows_cold found.tried (standing book.sheet bump.life.chunk).0 applies.shows cold.0 cold.1 in
        record {
          class = record { first = refl; count = refl };
          linked = linked_same book.sheet.fresh book.sheet.history
              (change.Moved bump.life segment.Cold segment.Warm (cause.Bump from.sheet.worker bump.number))
              (segment_linked segment.Warm bump.life.generation
              ∙ (ap Some (sym same) ∙ sym (stands_linked book.sheet bump.life.chunk segment.Cold there)));
          words = λ i c. refl;
        }
    by outcome.TimeOnly e = in_cold (is_cold found.tried.segment)
    by outcome.Gone e = gone (found.behind.refs == 0) (gone_found found.tried found.cleared (e ∙ applies.table))

-- the bump aboard is applied, whose life its chunk has
pub front_keeps : (book left : BookView) (from to : LaneView) (bump : Bump) (now : ℕ) (answer : Applied)
    → AppliesFront now book from answer left to → carries from ≡ Some bump
    → (standing book.sheet bump.life.chunk).1 ≡ bump.life.generation → KeepsItems book left
front_keeps book left from to bump now answer (other, came_out, found, aboard, applies) is same =
    let one : other ≡ bump = cc (sym aboard ∙ is) in
    applied_keeps book left from to other now came_out answer found applies
    (ap (λ (b : Bump). (standing book.sheet b.life.chunk).1) one ∙ (same ∙ ap (λ (b : Bump). b.life.generation) (sym one)))

-- a look at a chunk keeps the items, and so what is kept behind it
pub seen_keeps : (book seen left : BookView) (chunk : ℕ) (head : Head) → seen ≡ book_after_load chunk head book
    → KeepsItems seen left → KeepsItems book left
seen_keeps book seen left chunk head is keeps = record {
  class = record {
    first = keeps.class.first ∙ ap (λ (b : BookView). b.sheet.first) is;
    count = keeps.class.count ∙ ap (λ (b : BookView). b.sheet.count) is;
  };
  linked = λ c. keeps.linked c ∙ ap (λ (b : BookView). linked_at b.sheet c) is;
  words = λ i c. keeps.words i c ∙ ap (λ (b : BookView). last_word i b.sheet c) is;
}
