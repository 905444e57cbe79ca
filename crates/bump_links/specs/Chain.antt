-- What it means that links spell a list.
use Rattle.std.specs.Prelude.{◌≡◌, ◌≢◌, ℕ, zero, suc, ◌<◌, ◌==◌, if◌then◌else◌, Option, Some, None, List, [], ◌∷◌}
use Rattle.std.specs.Prelude.{length, slice_index_or}
use Rattle.std.specs.List.{AllByRecursion}
use Rattle.bump_links.specs.declared.TheConstants.{NONE}
use Rattle.bump_links.specs.declared.chain.Node.{Node}
use Rattle.bump_links.specs.declared.chain.Header.{Header}

-- what stands past the last node: nothing
abbrev pub no_node : Node
no_node = record { forward = NONE; back = NONE; list = NONE }

-- the record of the node with this number
abbrev pub node_at : List Node → ℕ → Node
node_at nodes n = slice_index_or nodes n no_node

-- the forward link of a node
abbrev pub forward_of : List Node → ℕ → ℕ
forward_of nodes n = (node_at nodes n).forward

-- the back link of a node
abbrev pub back_of : List Node → ℕ → ℕ
back_of nodes n = (node_at nodes n).back

-- the list that a node's record names
abbrev pub list_of : List Node → ℕ → ℕ
list_of nodes n = (node_at nodes n).list

-- this many steps along the forward links, each node as it is met
abbrev pub followed : (ℕ → ℕ) → ℕ → ℕ → List ℕ
followed forward zero at = []
followed forward (suc n) at = at ∷ followed forward n (forward at)

-- the list that a header begins
abbrev pub list_under : List Node → Header → List ℕ
list_under nodes h = followed (forward_of nodes) h.size h.head

-- From `first` to `last` the links run through this list: `first` is its first element, each back link
-- names the element before it, each forward link the next, and `last` is its last. `before` stands in
-- front of the list and `after` behind it.
abbrev pub SpellsChain : (ℕ → ℕ) → (ℕ → ℕ) → ℕ → ℕ → List ℕ → ℕ → ℕ → Type 0
SpellsChain forward back before first [] last after = (first ≡ after) × (last ≡ before)
SpellsChain forward back before first (x ∷ xs) last after =
    (first ≡ x) × (back x ≡ before) × SpellsChain forward back x (forward x) xs last after

-- no element stands twice in a list
abbrev pub AllDiffer : List ℕ → Type 0
AllDiffer [] = Unit {0}
AllDiffer (x ∷ xs) = AllByRecursion (λ y. y ≢ x) xs × AllDiffer xs

-- a node of this list: there is such a node, and its record names the list
abbrev pub IsMember : List Node → ℕ → ℕ → Type 0
IsMember nodes l n = (n < length nodes) × (list_of nodes n ≡ l)

-- the header and the links spell this list, and each node of it names it as its own
pub record SpellsList (nodes : List Node) (l : ℕ) (h : Header) (xs : List ℕ) : Type 0 where
  pub links : SpellsChain (forward_of nodes) (back_of nodes) NONE h.head xs h.tail NONE
  pub size : h.size ≡ length xs
  pub distinct : AllDiffer xs
  pub members : AllByRecursion (IsMember nodes l) xs

-- a node's record is as it was
abbrev pub IsKept : List Node → List Node → ℕ → Type 0
IsKept old new m =
    (forward_of new m ≡ forward_of old m) × (back_of new m ≡ back_of old m) × (list_of new m ≡ list_of old m)

-- every node but `n` that another list than `l` names keeps its record
pub record KeepsOthers (old new : List Node) (l n : ℕ) : Type 0 where
  pub len : length new ≡ length old
  pub records : (m : ℕ) → m < length old → m ≢ n → list_of old m ≢ l → IsKept old new m

-- the node that a link leads to
abbrev pub node_or_none : ℕ → Option ℕ
node_or_none n = if n == NONE then None else Some n
