-- Holds that are kept under names.
use Rattle.std.specs.Prelude.{◌≡◌, ℕ, true, List, Option, Some, None, option_map, IsSome, slice_index_or}
use Rattle.std.specs.HashMap.{HashMap, get_by}
use Rattle.std.specs.Str.{bytes_eq}
use denote.Ref.{Bor}
use Rattle.bump_rules.specs.declared.items.ItemId.{ItemId}
use Rattle.bump_steps.specs.declared.views.HoldSheet.{HoldSheet}
use Rattle.bump_trace.specs.Names.{Names}

-- the item of the hold at a place
abbrev pub item_at : List (Option HoldSheet) → ℕ → Option ItemId
item_at holds place = option_map (λ part. part.life) (slice_index_or holds place None)

-- of no place, none
abbrev pub item_if : List (Option HoldSheet) → Option ℕ → Option ItemId
item_if holds None = None
item_if holds (Some place) = item_at holds place

-- where the hold of a name is
abbrev pub place_of_name : {S : Type 0} → HashMap (Bor (List ℕ)) ℕ S → List ℕ → Option ℕ
place_of_name places name = get_by (λ key. bytes_eq name key.now) places

-- the item that each name's hold is of
abbrev pub kept_by : {S : Type 0} → HashMap (Bor (List ℕ)) ℕ S → List (Option HoldSheet) → Names
kept_by places holds name = item_if holds (place_of_name places name)

-- Each name in use has a hold, and no other name has it.
pub record AreKept {S : Type 0} (places : HashMap (Bor (List ℕ)) ℕ S) (holds : List (Option HoldSheet)) : Type 0 where
  pub there : (name : List ℕ) (place : ℕ) → place_of_name places name ≡ Some place → IsSome (item_at holds place)
  pub apart : (name other : List ℕ) (place : ℕ) → place_of_name places name ≡ Some place → place_of_name places other ≡ Some place
      → bytes_eq name other ≡ true
