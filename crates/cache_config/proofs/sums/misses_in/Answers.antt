use Rattle.std.proofs.Common.{◌+◌, sym, ap, ◌∙◌, arith}
use Rattle.std.proofs.lemmas.List.{take_all}
use Rattle.cache_lists.specs.Counts.{capped}
use Rattle.cache_readers.specs.Readers.{ReaderView}
use Rattle.cache_config.specs.Sums.{misses_of}
use Rattle.cache_config.proofs.PartSums.{capped_next}
use Rattle.cache_config.proofs.sums.misses_in.Goals as goal

pub loop-part-preserved : goal.loop-part-preserved
loop-part-preserved g c = c.saturating_add-misses.ensures
    ∙ (ap (λ n. capped (c.loop-part.misses + n)) c.misses.ensures
    ∙ capped_next (λ (part : ReaderView). part.misses) c.args.parts.now c.loop-part.part-index c.part-item.result
    c.loop-part.misses c.loop-part-test.true (sym c.part-item.is) c.loop-part.invariant)

pub returns : goal.returns
returns g c = c.loop-part.invariant
    ∙ ap misses_of (take_all c.loop-part.part-index c.args.parts.now (omega (arith, c.loop-part-test.false)))
