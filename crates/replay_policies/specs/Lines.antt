-- What a contract sees of a queue of keys from which any key can be taken out.
use Rattle.std.specs.Prelude.{◌≡◌, ℕ, ◌+◌, ◌<◌, ◌≤◌, List, [], ◌∷◌, Option, Some, length, slice_index_or}
use Rattle.bump_links.specs.Lists.{Lists, list_at, times}
use Rattle.replay_policies.specs.declared.entries.Entry.{Entry}
use Rattle.replay_policies.specs.Tables.{number_of}

-- a queue: how many keys it has memory for, how many are in it, all their uses together, what stands at each node, and
-- the table of the keys' nodes
pub record LineView : Type 0 where
  pub room : ℕ
  pub count : ℕ
  pub uses : ℕ
  pub slots : List Entry
  pub table : List (List (Option ℕ))

-- what stands at a node
abbrev pub entry_at : List Entry → ℕ → Entry
entry_at slots node = slice_index_or slots node (record { key = 0; uses = 0 })

-- all uses of these nodes together
abbrev pub uses_at : List Entry → List ℕ → ℕ
uses_at slots [] = 0
uses_at slots (node ∷ nodes) = (entry_at slots node).uses + uses_at slots nodes

-- what a queue shows: list 1 has the nodes of its keys
abbrev pub line_view : Lists → List Entry → List (List (Option ℕ)) → LineView
line_view links slots table = record {
  room = links.nodes;
  count = length (list_at links 1);
  uses = uses_at slots (list_at links 1);
  slots = slots;
  table = table;
}

-- Each node is free or has a key, and the table has the node of each key that is in the queue, and of no other.
pub record IsNodes (nodes : ℕ) (free used : List ℕ) (slots : List Entry) (table : List (List (Option ℕ))) : Type 0 where
  pub all : length free + length used ≡ nodes
  pub apart : (node : ℕ) → times node free + times node used ≤ 1
  pub below : (node : ℕ) → 0 < times node used → node < nodes
  pub found : (key node : ℕ) → number_of table key ≡ Some node → 0 < times node used
  pub keyed : (key node : ℕ) → number_of table key ≡ Some node → (entry_at slots node).key ≡ key
  pub led : (node : ℕ) → 0 < times node used → number_of table (entry_at slots node).key ≡ Some node

-- what every queue keeps of its two lists, the free nodes and those that have a key
pub record IsLine (links : Lists) (slots : List Entry) (table : List (List (Option ℕ))) : Type 0 where
  pub two : length links.lists ≡ 2
  pub long : length slots ≡ links.nodes
  pub nodes : IsNodes links.nodes (list_at links 0) (list_at links 1) slots table

-- the queue has this key with its uses
pub record IsKept (line : LineView) (e : Entry) : Type 0 where
  pub node : ℕ
  pub at : number_of line.table e.key ≡ Some node
  pub same : e ≡ entry_at line.slots node
