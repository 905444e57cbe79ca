-- What a lawful chunk is: facts about its head, the list in which its class's history leaves it, and how many
-- references and first hits name each of its lives. A reference is a hold, or a bump in a worker's hand, in a ring or
-- in a lane.
use Rattle.std.specs.Prelude.{◌≡◌, ℕ, ◌+◌, ◌<◌, ◌≤◌, Bool, true, false, cond}
use Rattle.bump_rules.specs.declared.places.Segment.TheVariants as segment
use Rattle.bump_rules.specs.declared.places.Place.{Place}
use Rattle.bump_rules.specs.declared.places.Place.TheVariants.{Hot, Warm, Cold, Temp, Dying, Unused, Retired}
use Rattle.bump_rules.specs.declared.items.Head.{Head}

-- 1 where the mark is set, else 0
abbrev pub bit : Bool → ℕ
bit mark = cond mark 1 0

-- LINKED is set exactly in HOT, WARM, COLD and TEMP, and there the segment bits name the list. No chunk of UNUSED has
-- the last generation, and every chunk of RETIRED has it.
abbrev pub Shows : Head → Place → Type 0
Shows head Hot = (head.linked ≡ true) × (head.segment ≡ segment.Hot)
Shows head Warm = (head.linked ≡ true) × (head.segment ≡ segment.Warm)
Shows head Cold = (head.linked ≡ true) × (head.segment ≡ segment.Cold)
Shows head Temp = (head.linked ≡ true) × (head.segment ≡ segment.Temp)
Shows head Dying = head.linked ≡ false
Shows head Unused = (head.linked ≡ false) × (head.generation < 4294967295)
Shows head Retired = (head.linked ≡ false) × (head.generation ≡ 4294967295)

-- the chunk is not free: it is in HOT, WARM, COLD, TEMP or DYING
abbrev pub IsUsed : Place → Type 0
IsUsed Hot = Unit {0}
IsUsed Warm = Unit {0}
IsUsed Cold = Unit {0}
IsUsed Temp = Unit {0}
IsUsed Dying = Unit {0}
IsUsed Unused = ⊥
IsUsed Retired = ⊥

pub record Lawful (limit : ℕ) (head : Head) (at : Place) (references first_hits : ℕ → ℕ) : Type 0 where
  -- the count equals the holders: one for being linked, and one per reference
  pub counted : head.refs ≡ bit head.linked + references head.generation
  -- and is at most the limit
  pub within : head.refs ≤ limit
  -- the generation is at most the last one
  pub generation : head.generation ≤ 4294967295
  -- LINKED and the segment bits agree with the list
  pub shown : Shows head at
  -- a chunk with a reference has its generation, and is not free: so a free chunk has count 0
  pub used : (generation : ℕ) → 0 < references generation → (generation ≡ head.generation) × IsUsed at
  -- ACTIVE implies FETCHED
  pub active : bit head.active ≤ bit head.fetched
  -- FETCHED is set exactly where a first hit names the life
  pub fetched : first_hits head.generation ≡ bit head.fetched
  -- no life has two first hits
  pub once : (generation : ℕ) → first_hits generation ≤ 1
  -- and no life that is still to come has one
  pub past : (generation : ℕ) → 0 < first_hits generation → generation ≤ head.generation
