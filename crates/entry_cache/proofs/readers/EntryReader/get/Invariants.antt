use Rattle.std.proofs.Common.{◌≡◌}
use Rattle.entry_cache.specs.Looking.{GetsRow, LooksAgain}
use Rattle.entry_cache.proofs.readers.EntryReader.get.Given as goal

-- so many looks found rows whose entries were gone
abbrev pub invariant-loop-look : goal.invariant-loop-look
invariant-loop-look g l = record {
  again : LooksAgain (GetsRow l.hash l.now) l._look l.fn.self.rows l.self-inside.rows;
  same : l.self-inside.missed ≡ l.fn.self.missed;
}
