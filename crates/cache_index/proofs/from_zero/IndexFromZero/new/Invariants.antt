use Rattle.std.proofs.Common.{◌≡◌, replicate}
use Rattle.cache_index.specs.Leads.{no_way}
use Rattle.cache_index.proofs.from_zero.IndexFromZero.new.Given as goal

abbrev pub invariant-loop : goal.invariant-loop
invariant-loop l = l.ways.items ≡ replicate l.counter no_way
