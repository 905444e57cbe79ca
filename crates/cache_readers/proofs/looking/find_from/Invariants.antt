use Rattle.std.proofs.Common.{◌≡◌, length}
use Rattle.cache_index.specs.History.{Looks}
use Rattle.cache_readers.specs.Glances.{BehindGlance}
use Rattle.cache_readers.specs.Looks.{SearchesAnew, many_more}
use Rattle.cache_readers.proofs.looking.find_from.Given as goal

abbrev pub invariant-loop-turn : goal.invariant-loop-turn
invariant-loop-turn g l =
    BehindGlance l.fn.id.chunk (λ before. SearchesAnew l.fn.heads l.fn.key l.fn.now l._turn before l.worker) l.fn.worker
    × (l.worker.sender.ring ≡ l.fn.worker.sender.ring) × (l.anew ≡ many_more l._turn l.fn.anew)
    × (length l.value ≡ length l.fn.value) × Looks l.fn.eye l.eye
