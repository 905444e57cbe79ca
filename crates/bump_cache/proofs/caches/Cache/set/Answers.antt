use Rattle.std.proofs.Common.{rules, ◌≡◌, ap, sym, ◌∙◌}
use Rattle.std.specs.Sync.Mutex.{mutex_guard_value}
use Rattle.bump_cache.specs.declared.answers.Full.{Full}
use Rattle.bump_cache.specs.Setting.{PutsWords, RefusesWords}
use Rattle.bump_cache.specs.States.{number_of}
use Rattle.bump_cache.proofs.Noting.{err_noted, ok_noted, same_shelf}
use Rattle.bump_cache.proofs.caches.Cache.set.Goals as goal

pub returns-clause-part : goal.returns-clause-part
returns-clause-part g c =
    let guarded : c.logged.inside.log.number ≡ (mutex_guard_value c.lock_of-guard.result).number = search rules in
    ap number_of c.note.ensures.to ∙ (c.logged.invariant.1 ∙ (guarded ∙ c.lock_of-guard.ensures))

pub returns-clause-sets : goal.returns-clause-sets
returns-clause-sets g c = ok_noted c.set-set.result
    (λ told. PutsWords (g.K.Packed.as_words c.args.key.now) (g.V.Packed.as_words c.args.value.now) c.args.expires
    c.args.now told)
    _ _ _ _ (same_shelf (c.logged.invariant.0 ∙ sym c.note.ensures.from))
    (same_shelf (sym c.note.ensures.to))
    c.set-set.ensures.sets

pub returns-clause-refuses : goal.returns-clause-refuses
returns-clause-refuses g c = err_noted c.set-set.result
    (λ (why : Full). RefusesWords (g.K.Packed.as_words c.args.key.now) c.args.now why.evicted)
    _ _ _ _ (same_shelf (c.logged.invariant.0 ∙ sym c.note.ensures.from))
    (same_shelf (sym c.note.ensures.to))
    c.set-set.ensures.refuses
