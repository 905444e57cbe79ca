use Rattle.bump_bench.proofs.GlanceLemmas.{begun, loaded}
use Rattle.bump_bench.proofs.hits.glance_sum.Goals as goal

pub glance_label-label-requires : goal.glance_label-label-requires
glance_label-label-requires g c = record { glance = begun _ _ _ _ _ _ c.in_ok-glance.ensures.glances }

pub glance_word-first-requires-clause-glance : goal.glance_word-first-requires-clause-glance
glance_word-first-requires-clause-glance g c =
    loaded _ _ _ _ _ (begun _ _ _ _ _ _ c.in_ok-glance.ensures.glances) c.glance_label-label.ensures.loaded

pub glance_word-second-requires-clause-glance : goal.glance_word-second-requires-clause-glance
glance_word-second-requires-clause-glance g c =
    loaded _ _ _ _ _ (loaded _ _ _ _ _ (begun _ _ _ _ _ _ c.in_ok-glance.ensures.glances)
    c.glance_label-label.ensures.loaded) c.glance_word-first.ensures.loaded

pub end_glance-last-requires : goal.end_glance-last-requires
end_glance-last-requires g c = record {
  glance = loaded _ _ _ _ _ (loaded _ _ _ _ _ (loaded _ _ _ _ _ (begun _ _ _ _ _ _ c.in_ok-glance.ensures.glances)
      c.glance_label-label.ensures.loaded) c.glance_word-first.ensures.loaded) c.glance_word-second.ensures.loaded;
}
