use Rattle.std.proofs.Common.{rules, ◌≡◌, ap, sym, ◌∙◌}
use Rattle.std.specs.Sync.Mutex.{mutex_guard_value}
use Rattle.bump_cache.specs.Putting.{RemovesValue}
use Rattle.bump_cache.specs.States.{number_of}
use Rattle.bump_cache.proofs.Noting.{of_both, same_shelf}
use Rattle.bump_cache.proofs.caches.Cache.remove.Goals as goal

pub returns-clause-part : goal.returns-clause-part
returns-clause-part g c =
    let guarded : c.logged.inside.log.number ≡ (mutex_guard_value c.lock_of-guard.result).number = search rules in
    ap number_of c.note.ensures.to ∙ (c.logged.invariant.1 ∙ (guarded ∙ c.lock_of-guard.ensures))

pub returns-clause-removes : goal.returns-clause-removes
returns-clause-removes g c = of_both (RemovesValue g.K.Packed.as_words g.V.Packed.as_words c.args.key.now c.args.now c.remove-old.result)
    _ _ _ _ (same_shelf (c.logged.invariant.0 ∙ sym c.note.ensures.from))
    (same_shelf (sym c.note.ensures.to))
    c.remove-old.ensures
