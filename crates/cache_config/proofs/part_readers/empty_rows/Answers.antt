use Rattle.std.proofs.Common.{rules, ◌≡◌, ◌++◌, ℕ, [], ◌∷◌}
use Rattle.cache_config.proofs.Places.{get_pushed, length_pushed}
use Rattle.cache_config.proofs.part_readers.empty_rows.Goals as goal

pub loop-preserved : goal.loop-preserved
loop-preserved g c =
    let so_far = c.loop.invariant in
    let items : c.push.new.self.items ≡ c.loop.rows.items ++ c.in_ok-row.row ∷ [] = search rules in record {
      count = length_pushed c.loop.rows.items c.push.new.self.items c.loop.counter c.in_ok-row.row so_far.count items;
      rows = get_pushed (λ (number : ℕ). []) c.loop.rows.items c.push.new.self.items c.loop.counter c.in_ok-row.row
          so_far.count items so_far.rows c.in_ok-row.ensures;
    }
