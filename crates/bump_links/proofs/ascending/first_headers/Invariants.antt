-- So many headers were made.
use Rattle.std.proofs.Common.{◌≡◌, map}
use Rattle.std.specs.List.{range_with_len}
use Rattle.bump_links.specs.Ascending.{only_first}
use Rattle.bump_links.proofs.ascending.first_headers.Given as goal

abbrev pub invariant-loop-list : goal.invariant-loop-list
invariant-loop-list l = l.made.items ≡ map (only_first l.count l.first) (range_with_len 0 l.list)
