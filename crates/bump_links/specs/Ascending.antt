-- The nodes and headers of lists of which one holds all nodes, ascending.
use Rattle.std.specs.Prelude.{ℕ, ◌+◌, ◌-◌, ◌==◌, nat_lt, if◌then◌else◌}
use Rattle.bump_links.specs.declared.TheConstants.{NONE}
use Rattle.bump_links.specs.declared.chain.Node.{Node}
use Rattle.bump_links.specs.declared.chain.Header.{Header}

-- the node with this number, where there is one
abbrev pub link_to : ℕ → ℕ → ℕ
link_to count n = if nat_lt n count then n else NONE

-- the node before the one with this number
abbrev pub link_before : ℕ → ℕ
link_before n = if nat_lt 0 n then n - 1 else NONE

-- a node between its neighbours by number
abbrev pub ascending_node : ℕ → ℕ → ℕ → Node
ascending_node count l n = record { forward = link_to count (n + 1); back = link_before n; list = l }

-- the header of a list, where `first` holds all nodes, ascending
abbrev pub only_first : ℕ → ℕ → ℕ → Header
only_first count first l =
    if l == first then record { head = 0; tail = count - 1; size = count }
    else record { head = NONE; tail = NONE; size = 0 }
