-- What the links of a class's lists stand for, and a walk through one of them.
use Rattle.std.specs.Prelude.{◌≡◌, ℕ, ◌+◌, ◌-◌, ◌<◌, ◌≤◌, ◌^◌, List, length, map, drop, Option}
use Rattle.bump_links.specs.Lists.{first_of, HoldsEachOnce}
use Rattle.bump_links.specs.Lists as links
use Rattle.bump_rules.specs.declared.places.Place.{Place}
use Rattle.bump_rules.specs.Places.{place_number, place_count}
use Rattle.bump_rules.specs.Lists.{Lists, lists_by}

-- nodes as chunks, where node 0 is the chunk `first`
abbrev pub chunks_from : ℕ → List ℕ → List ℕ
chunks_from first nodes = map (λ node. first + node) nodes

-- the chunks of the list that has the number of a place
abbrev pub listed_from : ℕ → links.Lists → Place → List ℕ
listed_from first linked place = chunks_from first (links.list_at linked (place_number place))

-- the lists of a class, each by the number of its place
abbrev pub lists_from : ℕ → links.Lists → Lists
lists_from first linked = lists_by (listed_from first linked)

-- there are as many lists as places, each node stands in one of them, once, and the number behind the last chunk fits
-- 32 bits too
pub record AreSixLists (first : ℕ) (linked : links.Lists) : Type 0 where
  pub six : length linked.lists ≡ place_count
  pub each_once : HoldsEachOnce linked
  pub numbered : first + linked.nodes < 2 ^ 32

-- the last elements of a list, so many
abbrev pub last_part : ℕ → List ℕ → List ℕ
last_part count elements = drop (length elements - count) elements

-- a walk through a list that is `left` elements before its end has this one next
pub record IsAmid (elements : List ℕ) (left : ℕ) (ahead : Option ℕ) : Type 0 where
  pub within : left ≤ length elements
  pub next : ahead ≡ first_of (last_part left elements)
