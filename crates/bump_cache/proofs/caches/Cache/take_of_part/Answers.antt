use Rattle.std.proofs.Common.{rules, ◌≡◌, sym, ◌∙◌, ap}
use Rattle.std.specs.Sync.Mutex.{mutex_guard_value}
use Rattle.bump_cache.specs.Ending.{TakesValue}
use Rattle.bump_cache.specs.States.{number_of}
use Rattle.bump_cache.proofs.Noting.{of_both, same_shelf}
use Rattle.bump_cache.proofs.caches.Cache.take_of_part.Goals as goal

pub returns : goal.returns
returns g c =
    let guarded : c.logged.inside.log.number ≡ (mutex_guard_value c.lock_part-guard.result).number = search rules in
    record {
      call = c.note.ensures.call;
      part = ap number_of c.note.ensures.to ∙ (c.logged.invariant.1 ∙ (guarded ∙ c.lock_part-guard.ensures));
      takes = of_both (TakesValue g.K.Packed.as_words g.V.Packed.as_words c.args.now c.take_expired-told.result) _ _ _ _
          (same_shelf (c.logged.invariant.0 ∙ sym c.note.ensures.from)) (same_shelf (sym c.note.ensures.to))
          c.take_expired-told.ensures;
    }
