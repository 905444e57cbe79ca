use Rattle.std.proofs.Common.{rules, refl, arith}
use Rattle.cache_readers.proofs.GlanceLemmas.{HasFirst, one_more_stored, reads_as, reads_none, reads_one, reads_then, still_glancing}
use Rattle.cache_readers.proofs.glancing.load_words.Goals as goal

pub loop-index-init : goal.loop-index-init
loop-index-init g c = (
  reads_none _ c.args.glance.now c.args.worker.now c.requires.glance (λ row i low. absurd (omega (arith, low))),
  c.requires.glance,
  refl,
)

pub loop-index-preserved : goal.loop-index-preserved
loop-index-preserved g c =
    let one = reads_one _ c.glance_word.result c.args.glance.now c.loop-index.worker c.glance_word.new.self
    c.loop-index.invariant.1 c.glance_word.ensures.loaded in (
      reads_as _ _ _ _ (λ row both. one_more_stored c.loop-index.words c.args.from _ c.loop-index.index
          c.glance_word.result row (search rules) (search rules) both.0 both.1)
          (reads_then (HasFirst c.loop-index.words c.args.from c.loop-index.index) _ _ _ _ c.loop-index.invariant.0 one),
      still_glancing _ _ _ _ c.loop-index.invariant.1 one,
      search rules,
    )
