-- What a `Links` means: numbered lists of nodes, front first, with no link in them.
use Rattle.std.specs.Prelude.{◌≡◌, ◌≢◌, Bool, false, ℕ, suc, ◌<◌, ◌==◌, not, if◌then◌else◌, List, [], ◌∷◌, length, map, filter}
use Rattle.std.specs.Prelude.{replicate, slice_index_or, slice_set, Option, Some, None, unwrap_or, All}
use Rattle.std.specs.List.{range_with_len}

-- how many nodes there are, numbered from 0, and the nodes of each list, front first
pub record Lists : Type 0 where
  pub nodes : ℕ
  pub lists : List (List ℕ)

-- the nodes of the list with this number
abbrev pub list_at : Lists → ℕ → List ℕ
list_at s l = slice_index_or s.lists l []

-- how often a node stands in a list
abbrev pub times : ℕ → List ℕ → ℕ
times n [] = 0
times n (x ∷ xs) = if x == n then suc (times n xs) else times n xs

-- a list without an element
abbrev pub without : ℕ → List ℕ → List ℕ
without n xs = filter (λ x. not (x == n)) xs

-- the lists with a node put before the one with this number
abbrev pub put_before : ℕ → ℕ → List (List ℕ) → List (List ℕ)
put_before n l ls = slice_set ls l (n ∷ slice_index_or ls l [])

-- a move to the front: the node is removed from the list that holds it, then put before the target list
abbrev pub moved_to_front : ℕ → ℕ → Lists → Lists
moved_to_front n l s = record s { lists = put_before n l (map (without n) s.lists) }

-- all nodes in the list `first`, ascending, and every other list empty
abbrev pub all_in_first : ℕ → ℕ → ℕ → Lists
all_in_first nodes lists first =
    record { nodes = nodes; lists = slice_set (replicate lists []) first (range_with_len 0 nodes) }

-- the first element of a list
abbrev pub first_of : List ℕ → Option ℕ
first_of [] = None
first_of (x ∷ xs) = Some x

-- the last element of a list: that of the rest, or its only one
abbrev pub last_of : List ℕ → Option ℕ
last_of [] = None
last_of (x ∷ xs) = Some (unwrap_or (last_of xs) x)

-- the element that follows a node in a list
abbrev pub next_of : ℕ → List ℕ → Option ℕ
next_of n [] = None
next_of n (x ∷ xs) = if x == n then first_of xs else next_of n xs

-- whether a node is the first of a list
abbrev pub begins_with : ℕ → List ℕ → Bool
begins_with n [] = false
begins_with n (x ∷ xs) = x == n

-- the element that a node follows in a list
abbrev pub previous_of : ℕ → List ℕ → Option ℕ
previous_of n [] = None
previous_of n (x ∷ xs) = if begins_with n xs then Some x else previous_of n xs

-- the node stands once in the list with this number, and in no other list
pub record IsHeldBy (s : Lists) (n l : ℕ) : Type 0 where
  pub listed : l < length s.lists
  pub once : times n (list_at s l) ≡ 1
  pub elsewhere : (k : ℕ) → k ≢ l → times n (list_at s k) ≡ 0

-- the answer is what follows the node in the list that holds it
abbrev pub IsNextOf : Lists → ℕ → Option ℕ → Type 0
IsNextOf s n answer = (l : ℕ) → IsHeldBy s n l → answer ≡ next_of n (list_at s l)

-- the answer is what the node follows in the list that holds it
abbrev pub IsPreviousOf : Lists → ℕ → Option ℕ → Type 0
IsPreviousOf s n answer = (l : ℕ) → IsHeldBy s n l → answer ≡ previous_of n (list_at s l)

-- each node stands in exactly one list, once, and nothing else stands in any
pub record HoldsEachOnce (s : Lists) : Type 0 where
  pub only_nodes : (l : ℕ) → All (λ n. n < s.nodes) (list_at s l)
  pub holder : (n : ℕ) → n < s.nodes → (l : ℕ) × IsHeldBy s n l
