use Rattle.bump_readers.specs.Glances.{IsGlancing}
use Rattle.cache_readers.specs.Glances.{Reads}
use Rattle.cache_readers.proofs.GlanceLemmas.{HasFirst}
use Rattle.cache_readers.proofs.glancing.has_key_words.Given as goal

abbrev pub invariant-loop-index : goal.invariant-loop-index
invariant-loop-index g l = Reads (HasFirst l.fn.key 0 l.index) l.fn.worker l.worker
    × IsGlancing l.fn.glance l.worker.sheet
