use Rattle.std.proofs.Common.{rules, ◌∙◌, arith}
use Rattle.cache_readers.proofs.GlanceLemmas.{HasFirst, one_more_same, reads_as, reads_none, reads_one, reads_then, still_glancing}
use Rattle.cache_readers.proofs.glancing.has_key_words.Goals as goal

pub loop-index-init : goal.loop-index-init
loop-index-init g c = (
  reads_none _ c.args.glance.now c.args.worker.now c.requires.glance (λ row i low. absurd (omega (arith, low))),
  c.requires.glance,
)

pub loop-index-preserved : goal.loop-index-preserved
loop-index-preserved g c =
    let one = reads_one _ c.glance_word.result c.args.glance.now c.loop-index.worker c.glance_word.new.self
    c.loop-index.invariant.1 c.glance_word.ensures.loaded in (
      reads_as _ _ _ _ (λ row both. one_more_same c.args.key.now 0 _ c.loop-index.index row (search rules) both.0
          (both.1 ∙ search rules))
          (reads_then (HasFirst c.args.key.now 0 c.loop-index.index) _ _ _ _ c.loop-index.invariant.0 one),
      still_glancing _ _ _ _ c.loop-index.invariant.1 one,
    )
