-- The draft is that of the first record and of those that were read behind it so far.
use Rattle.std.proofs.Common.{◌≡◌, ◌+◌, ◌∷◌, ℕ, List, length}
use Rattle.csv.specs.Records.{fields_of}
use Rattle.access_logs.specs.Drafts.{IsDraftOf}
use Rattle.access_logs.specs.Records.{entries_from, rows_left, IsPlain}
use Rattle.access_logs.proofs.RecordLemmas.{AreRead}
use Rattle.access_logs.proofs.reading.read_behind.Given as goal

abbrev pub invariant-loop-number : goal.invariant-loop-number
invariant-loop-number g l = (seen : List (List (List ℕ))) × IsDraftOf l.strict l.first (entries_from l.first l.columns (fields_of l.fn.row ∷ seen)) l.draft
    × (l.number ≡ 2 + length seen) × AreRead (rows_left g.R.Read.remaining l.fn.rows) seen (rows_left g.R.Read.remaining l.rows) × IsPlain l.rows
