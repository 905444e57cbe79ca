-- How items go from list to list, counted over the history of a class.
use Rattle.std.specs.Prelude.{◌≡◌, ℕ, ◌+◌, ◌++◌, Bool, true, false, ◌&&◌, ◌||◌, List, [], ◌∷◌, length, Option, Some, None}
use Rattle.bump_rules.specs.declared.bumps.Applied.{Applied}
use Rattle.bump_rules.specs.declared.bumps.Applied.TheVariants as applied
use Rattle.bump_rules.specs.declared.history.Change.{Change}
use Rattle.bump_rules.specs.declared.commands.Pulled.{Pulled}
use Rattle.bump_rules.specs.declared.commands.Pulled.TheVariants as pulled
use Rattle.bump_rules.specs.declared.places.Place.{Place}
use Rattle.bump_rules.specs.declared.places.Place.TheVariants.{Warm, Cold, Dying}
use Rattle.bump_rules.specs.declared.places.Segment.{Segment}
use Rattle.bump_rules.specs.declared.places.Tail.{Tail}
use Rattle.bump_rules.specs.History.{subject, target, standing_in}
use Rattle.bump_rules.specs.Lawful.{bit}
use Rattle.bump_rules.specs.Lists.{list_at}
use Rattle.bump_rules.specs.Places.{is_place, place_of, all_places, is_segment_place}
use Rattle.bump_rules.specs.Tables.{segment_of}
use Rattle.bump_rules.specs.Totals.{total}
use Rattle.bump_steps.specs.declared.views.ClassSheet.{ClassSheet}
use Rattle.bump_class.specs.Books.{BookView}

-- an entry, behind a history that was so far, takes a chunk that stood at one place to another, or to the front of the
-- same
abbrev pub crosses : ℕ → Place → Place → List Change → Change → Bool
crosses fresh from to so_far entry =
    is_place from (standing_in fresh so_far (subject entry).chunk).0 && is_place to (target entry)

-- how many entries behind a history that was so far do
abbrev pub crossings_behind : ℕ → Place → Place → List Change → List Change → ℕ
crossings_behind fresh from to so_far [] = 0
crossings_behind fresh from to so_far (entry ∷ rest) =
    bit (crosses fresh from to so_far entry) + crossings_behind fresh from to (so_far ++ entry ∷ []) rest

-- how often a chunk went from one place to another, in all
abbrev pub crossings : Place → Place → ClassSheet → ℕ
crossings from to class = crossings_behind class.fresh from to [] class.history

-- how often a chunk came to a place, and how often one went from there
abbrev pub into : Place → ClassSheet → ℕ
into place class = total (λ from. crossings from place class) all_places

abbrev pub out_of : Place → ClassSheet → ℕ
out_of place class = total (λ to. crossings place to class) all_places

-- What came in is there still, or went out.
abbrev pub AddsUp : BookView → Type 0
AddsUp book = (place : Place) → is_segment_place place ≡ true
    → length (list_at book.lists place) + out_of place book.sheet ≡ into place book.sheet

-- a way of an item, from a list to another
abbrev pub Way : Type 0
Way = Place × Place

-- whether the way was taken
abbrev pub is_way : Option Way → Place → Place → Bool
is_way None from to = false
is_way (Some way) from to = is_place way.0 from && is_place way.1 to

-- Of the ways from or to a list of linked items, one was taken once more, or none.
pub record Flows (way : Option Way) (before after : BookView) : Type 0 where
  pub counts : (from to : Place) → (is_segment_place from || is_segment_place to) ≡ true
      → crossings from to after.sheet ≡ crossings from to before.sheet + bit (is_way way from to)

-- the way of a pull's item, by its answer
abbrev pub way_of_pull : Tail → Pulled → Option Way
way_of_pull pull pulled.Empty = None
way_of_pull pull (pulled.Stay item) = None
way_of_pull pull (pulled.Warm item) = Some (place_of (segment_of pull), Warm)
way_of_pull pull (pulled.Again item) = Some (Warm, Warm)
way_of_pull pull (pulled.Cold item) = Some (place_of (segment_of pull), Cold)
way_of_pull pull (pulled.Freed item) = Some (Cold, Dying)
way_of_pull pull (pulled.Deferred item) = Some (Cold, Dying)

-- the way of an applied bump's item, by its answer
abbrev pub way_of_applied : Option Applied → Option Way
way_of_applied None = None
way_of_applied (Some applied.Moved) = Some (Cold, Warm)
way_of_applied (Some applied.TimeOnly) = None
way_of_applied (Some (applied.Gone ended)) = None

-- the way from a segment to another, if it was taken
abbrev pub way_to : Segment → Option Segment → Option Way
way_to from None = None
way_to from (Some to) = Some (place_of from, place_of to)

-- One way was taken, or none, and then the other.
pub record FlowsTwice (first second : Option Way) (before after : BookView) : Type 0 where
  pub between : BookView
  pub one : Flows first before between
  pub other : Flows second between after
