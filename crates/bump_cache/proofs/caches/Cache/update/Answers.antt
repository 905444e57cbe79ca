use Rattle.std.proofs.Common.{rules, ◌≡◌, ap, sym, ◌∙◌}
use Rattle.std.specs.Sync.Mutex.{mutex_guard_value}
use Rattle.std.specs.Fn.{CalledAt}
use Rattle.bump_cache.specs.Changing.{CallsOnHad, ChangesWhereSome, RefusesAnew}
use Rattle.bump_cache.specs.States.{number_of}
use Rattle.bump_cache.proofs.Noting.{err_noted, ok_noted, same_shelf}
use Rattle.bump_cache.proofs.caches.Cache.update.Goals as goal

pub returns-clause-part : goal.returns-clause-part
returns-clause-part g c =
    let guarded : c.logged.inside.log.number ≡ (mutex_guard_value c.lock_of-guard.result).number = search rules in
    ap number_of c.note.ensures.to ∙ (c.logged.invariant.1 ∙ (guarded ∙ c.lock_of-guard.ensures))

pub returns-clause-changes : goal.returns-clause-changes
returns-clause-changes g c = ok_noted c.update-updated.result
    (ChangesWhereSome g.V.Packed.fits g.V.Packed.as_words
    (λ had value. CalledAt g.F.FnMut c.args.change.now had value c.update-updated.new.change)
    (g.K.Packed.as_words c.args.key.now) c.args.now)
    _ _ _ _ (same_shelf (c.logged.invariant.0 ∙ sym c.note.ensures.from))
    (same_shelf (sym c.note.ensures.to))
    c.update-updated.ensures.changes

pub returns-clause-called : goal.returns-clause-called
returns-clause-called g c = err_noted c.update-updated.result
    (λ why before after. CallsOnHad g.V.Packed.as_words
    (λ had value. CalledAt g.F.FnMut c.args.change.now had value c.update-updated.new.change)
    (g.K.Packed.as_words c.args.key.now) c.args.now before.part)
    _ _ _ _ (same_shelf (c.logged.invariant.0 ∙ sym c.note.ensures.from))
    (same_shelf (sym c.note.ensures.to))
    c.update-updated.ensures.called

pub returns-clause-refuses : goal.returns-clause-refuses
returns-clause-refuses g c = err_noted c.update-updated.result
    (RefusesAnew (g.K.Packed.as_words c.args.key.now) c.args.now)
    _ _ _ _ (same_shelf (c.logged.invariant.0 ∙ sym c.note.ensures.from))
    (same_shelf (sym c.note.ensures.to))
    c.update-updated.ensures.refuses
