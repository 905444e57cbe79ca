use Rattle.std.proofs.Common.{rules, ◌≡◌, sym, ◌∙◌, ap}
use Rattle.std.specs.Sync.Mutex.{mutex_guard_value}
use Rattle.bump_cache.specs.Ending.{EvictsValue}
use Rattle.bump_cache.specs.States.{number_of}
use Rattle.bump_cache.proofs.Noting.{of_both, same_shelf}
use Rattle.bump_cache.proofs.caches.Cache.evict_of_part.Goals as goal

pub returns : goal.returns
returns g c =
    let guarded : c.logged.inside.log.number ≡ (mutex_guard_value c.lock_part-guard.result).number = search rules in
    record {
      call = c.note.ensures.call;
      part = ap number_of c.note.ensures.to ∙ (c.logged.invariant.1 ∙ (guarded ∙ c.lock_part-guard.ensures));
      evicts = of_both (EvictsValue g.K.Packed.as_words g.V.Packed.as_words c.args.now c.evict-told.result) _ _ _ _
          (same_shelf (c.logged.invariant.0 ∙ sym c.note.ensures.from)) (same_shelf (sym c.note.ensures.to))
          c.evict-told.ensures;
    }
