use Rattle.std.proofs.Common.{rules, ◌≡◌, sym, ◌∙◌, ap}
use Rattle.std.specs.Fn.{CalledAt}
use Rattle.std.specs.Sync.Mutex.{mutex_guard_value}
use Rattle.bump_cache.specs.Retaining.{AsksSome}
use Rattle.bump_cache.specs.States.{number_of}
use Rattle.bump_cache.proofs.Noting.{of_both, same_shelf}
use Rattle.bump_cache.proofs.caches.Cache.retain_of_part.Goals as goal

pub returns-clause-asks : goal.returns-clause-asks
returns-clause-asks g c =
    let guarded : c.logged.inside.log.number ≡ (mutex_guard_value c.lock_part-guard.result).number = search rules in
    record {
      call = c.note.ensures.call;
      part = ap number_of c.note.ensures.to ∙ (c.logged.invariant.1 ∙ (guarded ∙ c.lock_part-guard.ensures));
      asks = of_both (AsksSome g.K.Packed.fits g.K.Packed.as_words g.V.Packed.fits g.V.Packed.as_words (CalledAt g.F.FnMut)
          c.args.from c.args.looks c.args.now c.retain-told.result c.args.keep.now c.retain-told.new.keep) _ _ _ _
          (same_shelf (c.logged.invariant.0 ∙ sym c.note.ensures.from)) (same_shelf (sym c.note.ensures.to))
          c.retain-told.ensures.asks;
    }
