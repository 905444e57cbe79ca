use Rattle.std.proofs.Common.{◌≡◌, ℕ, ◌<◌, take, get_or}
use Rattle.cache_readers.specs.Readers.{ReaderView}
use Rattle.cache_config.specs.Sums.{AddsUp, bumps_of}
use Rattle.cache_config.proofs.sums.bumps_in.Given as goal

-- the sums over the first parts, each of which adds up
abbrev pub invariant-loop-part : goal.invariant-loop-part
invariant-loop-part g l = record {
  counts : l.bumps ≡ bumps_of (take l.part-index l.parts);
  add_up : (k : ℕ) (none : ReaderView) → k < l.part-index → AddsUp (get_or l.parts k none);
}
