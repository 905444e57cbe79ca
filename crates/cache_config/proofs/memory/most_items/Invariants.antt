use Rattle.std.proofs.Common.{ℕ, ◌+◌, ◌-◌, ◌<◌, ◌≤◌}
use Rattle.bump_rules.specs.Configs.{most_chunks}
use Rattle.cache_config.specs.Configs.{new_config, spare_of}
use Rattle.cache_config.specs.Memory.{bytes_of}
use Rattle.cache_config.proofs.memory.most_items.Given as goal

-- so many items have room, where there are some, and so many don't, nor do more
abbrev pub invariant-loop-fits : goal.invariant-loop-fits
invariant-loop-fits l = record {
  order : l.fits < l.over;
  most : l.over + spare_of l.readers ≤ most_chunks + 1;
  fits : 0 < l.fits → bytes_of (new_config l.fits l.readers l.seed) l.key_words l.value_words ≤ l.limit;
  over : (items : ℕ) → l.over ≤ items → items + spare_of l.readers ≤ most_chunks
      → l.limit < bytes_of (new_config items l.readers l.seed) l.key_words l.value_words;
}

abbrev pub decreases-loop-fits : goal.decreases-loop-fits
decreases-loop-fits l = l.over - l.fits
