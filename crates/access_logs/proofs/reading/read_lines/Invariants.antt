-- The draft is that of the lines that were read so far.
use Rattle.std.proofs.Common.{◌≡◌, ◌+◌, List, [], length}
use Rattle.std.specs.Io.Buffered.{reader_remaining}
use Rattle.access_logs.specs.Drafts.{IsDraftOf}
use Rattle.access_logs.specs.Entries.{Said, sizes_in, times_in, operations_in, ttls_in}
use Rattle.access_logs.proofs.LineKeys.{IsReadSoFar}
use Rattle.access_logs.proofs.reading.read_lines.Given as goal

abbrev pub invariant-loop-number : goal.invariant-loop-number
invariant-loop-number g l = (entries : List Said) × IsDraftOf l.strict 1 entries l.draft × (l.number ≡ 1 + length entries)
    × IsReadSoFar (g.R.Read.remaining l.fn.source) (reader_remaining g.R.Read.remaining l.lines) entries × (sizes_in entries ≡ []) × (times_in entries ≡ [])
    × (operations_in entries ≡ []) × (ttls_in entries ≡ [])
