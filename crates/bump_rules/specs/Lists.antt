-- The seven lists of a class.
use Rattle.std.specs.Prelude.{ℕ, ◌<◌, cond, List, [], ◌∷◌}
use Rattle.std.specs.List.{range_with_len}
use Rattle.bump_links.specs.Lists.{times, without}
use Rattle.bump_rules.specs.declared.places.Place.{Place}
use Rattle.bump_rules.specs.declared.places.Place.TheVariants.{Hot, Warm, Cold, Temp, Dying, Unused, Retired}
use Rattle.bump_rules.specs.Places.{is_place, all_places}
use Rattle.bump_rules.specs.Totals.{total}

-- a class's lists, front first
pub record Lists : Type 0 where
  pub hot : List ℕ
  pub warm : List ℕ
  pub cold : List ℕ
  pub temp : List ℕ
  pub dying : List ℕ
  pub unused : List ℕ
  pub retired : List ℕ

-- the list at a place
abbrev pub list_at : Lists → Place → List ℕ
list_at lists Hot = lists.hot
list_at lists Warm = lists.warm
list_at lists Cold = lists.cold
list_at lists Temp = lists.temp
list_at lists Dying = lists.dying
list_at lists Unused = lists.unused
list_at lists Retired = lists.retired

-- the lists that have at each place what this gives for it
abbrev pub lists_by : (Place → List ℕ) → Lists
lists_by each = record {
  hot = each Hot;
  warm = each Warm;
  cold = each Cold;
  temp = each Temp;
  dying = each Dying;
  unused = each Unused;
  retired = each Retired;
}

-- all lists without the chunk
abbrev pub all_without : ℕ → Lists → Lists
all_without chunk lists = lists_by (λ place. without chunk (list_at lists place))

-- the chunk is put before the list at the place
abbrev pub put_before : ℕ → Place → Lists → Lists
put_before chunk place lists =
    lists_by (λ other. cond (is_place place other) (chunk ∷ list_at lists other) (list_at lists other))

-- A move to the front: the chunk is removed from its one list, and then put before the list at the place.
abbrev pub to_front : ℕ → Place → Lists → Lists
to_front chunk place lists = put_before chunk place (all_without chunk lists)

-- so many chunks from the first on, ascending
abbrev pub ascending : ℕ → ℕ → List ℕ
ascending = range_with_len

-- at the start all chunks of a class stand in UNUSED, ascending
abbrev pub opening : ℕ → ℕ → Lists
opening first count = lists_by (λ place. cond (is_place Unused place) (ascending first count) [])

-- the chunk stands in one of the lists
abbrev pub IsListed : ℕ → Lists → Type 0
IsListed chunk lists = (place : Place) × (0 < times chunk (list_at lists place))

-- how often a chunk stands in the lists of a class
abbrev pub times_in_all : ℕ → Lists → ℕ
times_in_all chunk lists = total (λ place. times chunk (list_at lists place)) all_places
