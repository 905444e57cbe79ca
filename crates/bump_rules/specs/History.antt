-- The history of a class, whose chunks are from first on and below end: where it leaves a chunk, and which lists it
-- leaves.
use Rattle.std.specs.Prelude.{◌≡◌, ℕ, ◌-◌, Bool, true, cond, ◌==◌, ◌&&◌, nat_le, nat_lt, List, [], ◌∷◌, if◌then◌else◌}
use Rattle.bump_rules.specs.declared.places.Place.{Place}
use Rattle.bump_rules.specs.declared.places.Place.TheVariants.{Hot, Temp, Dying, Unused, Retired}
use Rattle.bump_rules.specs.declared.items.ItemId.{ItemId}
use Rattle.bump_rules.specs.declared.history.Change.{Change}
use Rattle.bump_rules.specs.declared.history.Change.TheVariants as change
use Rattle.bump_rules.specs.Lists.{Lists, to_front, opening, IsListed}
pub use Rattle.bump_rules.specs.Places.{place_of, place_number, is_place}

-- the life that an entry speaks of
abbrev pub subject : Change → ItemId
subject (change.Linked life) = life
subject (change.LinkedTemp life) = life
subject (change.Moved life from to cause) = life
subject (change.Unlinked life) = life
subject (change.Swept life) = life
subject (change.Retired life) = life

-- the list to whose front an entry puts the chunk
abbrev pub target : Change → Place
target (change.Linked life) = Hot
target (change.LinkedTemp life) = Temp
target (change.Moved life from to cause) = place_of to
target (change.Unlinked life) = Dying
target (change.Swept life) = Unused
target (change.Retired life) = Retired

-- the entry of a chunk that is found without holders: it is UNUSED again, or RETIRED after the last generation
abbrev pub freed_change : ItemId → Change
freed_change life = if life.generation == 4294967295 then change.Retired life else change.Swept life

-- where a chunk stands: its place, and its generation
abbrev pub Standing : Type 0
Standing = Place × ℕ

-- whether two standings are one
abbrev pub is_standing : Standing → Standing → Bool
is_standing one other = is_place one.0 other.0 && (one.1 == other.1)

-- where a chunk stands after an entry
abbrev pub standing_after : ℕ → Standing → Change → Standing
standing_after chunk at entry = cond ((subject entry).chunk == chunk) (target entry, (subject entry).generation) at

-- where a history leaves a chunk: the last entry that speaks of it decides
abbrev pub standing_from : ℕ → Standing → List Change → Standing
standing_from chunk at [] = at
standing_from chunk at (entry ∷ entries) = standing_from chunk (standing_after chunk at entry) entries

-- where the history of a class leaves a chunk: each chunk begins in UNUSED, fresh, with the generation before its
-- first life
abbrev pub standing_in : ℕ → List Change → ℕ → Standing
standing_in fresh history chunk = standing_from chunk (Unused, fresh) history

-- the chunk is one of the class's
abbrev pub is_between : ℕ → ℕ → ℕ → Bool
is_between first end chunk = nat_le first chunk && nat_lt chunk end

-- each entry of a history is of a chunk of the class
abbrev pub AreBetween : ℕ → ℕ → List Change → Type 0
AreBetween first end [] = Unit {0}
AreBetween first end (entry ∷ entries) =
    (is_between first end (subject entry).chunk ≡ true) × AreBetween first end entries

-- each entry is of a chunk that stands in one of the lists
abbrev pub AreListed : Lists → List Change → Type 0
AreListed lists [] = Unit {0}
AreListed lists (entry ∷ entries) = IsListed (subject entry).chunk lists × AreListed lists entries

-- the lists that a history leaves: one move to the front per entry
abbrev pub replay : Lists → List Change → Lists
replay lists [] = lists
replay lists (entry ∷ entries) = replay (to_front (subject entry).chunk (target entry) lists) entries

-- the lists that the history of a class leaves
abbrev pub replayed : ℕ → ℕ → List Change → Lists
replayed first end history = replay (opening first (end - first)) history
