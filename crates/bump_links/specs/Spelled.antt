-- When the nodes and the headers of a `Links` spell its lists.
use Rattle.std.specs.Prelude.{◌≡◌, ℕ, ◌<◌, ◌≤◌, List, length, map, slice_index_or}
use Rattle.bump_links.specs.declared.TheConstants.{NONE, NODES_MAX, LISTS_MAX}
use Rattle.bump_links.specs.declared.chain.Node.{Node}
use Rattle.bump_links.specs.declared.chain.Header.{Header}
use Rattle.bump_links.specs.Lists.{Lists, times}
use Rattle.bump_links.specs.Chain.{list_of, list_under, SpellsList}

-- what stands past the last header: an empty list
abbrev pub no_header : Header
no_header = record { head = NONE; tail = NONE; size = 0 }

-- the header of the list with this number
abbrev pub header_at : List Header → ℕ → Header
header_at headers l = slice_index_or headers l no_header

-- the plain lists that nodes and headers show: what the forward links lead through from each head
abbrev pub lists_of : List Node → List Header → Lists
lists_of nodes headers = record { nodes = length nodes; lists = map (list_under nodes) headers }

-- the header and links of each list spell the nodes that its forward links lead through, and each node
-- stands once in the list that its record names
pub record IsSpelled (nodes : List Node) (headers : List Header) : Type 0 where
  pub few_nodes : length nodes ≤ NODES_MAX
  pub few_lists : length headers ≤ LISTS_MAX
  pub each_list : (l : ℕ) → l < length headers
      → SpellsList nodes l (header_at headers l) (list_under nodes (header_at headers l))
  pub each_node : (n : ℕ) → n < length nodes
      → (list_of nodes n < length headers) × (times n (list_under nodes (header_at headers (list_of nodes n))) ≡ 1)
