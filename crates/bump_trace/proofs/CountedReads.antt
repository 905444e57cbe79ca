-- How many reads are made, and how many bytes they give, beside how many there may be.
use Rattle.std.proofs.Common.{◌≡◌, ℕ, ◌+◌, ◌-◌, ◌<◌, ◌≤◌, arith}
use Rattle.trace_lines.specs.Counted.{next_count}
use Rattle.bump_trace.specs.Runs.{most_bytes, most_reads}

-- there were fewer reads than may be, and then one more
pub one_read_more : (now before counter limit : ℕ) → now ≡ next_count before → before ≡ counter → counter < limit → limit ≤ most_reads
    → now ≤ most_reads
one_read_more now before counter limit counted same below fits = omega arith

-- no more reads were made than may be
pub reads_at_most : (now counter limit : ℕ) → now ≡ counter → counter ≤ limit → limit ≤ most_reads → now ≤ most_reads
reads_at_most now counter limit same below fits = omega arith

-- as many reads were made as may be
pub all_reads_made : (now counter : ℕ) → now ≡ counter → counter ≤ most_reads → most_reads ≤ counter → now ≡ most_reads
all_reads_made now counter same below above = omega arith

-- a piece that fits behind the bytes that were read
pub fits_behind : (all old piece n len : ℕ) → all ≡ old + piece → piece ≤ n → n ≤ most_bytes - len → len ≡ old
    → old ≤ most_bytes → all ≤ most_bytes
fits_behind all old piece n len more short fits same before = omega arith

-- a piece that doesn't fit behind them
pub too_long_behind : (all old piece n len : ℕ) → all ≡ old + piece → piece ≡ n → most_bytes - len < n → len ≡ old
    → old ≤ most_bytes → most_bytes < all
too_long_behind all old piece n len more whole over same before = omega arith
