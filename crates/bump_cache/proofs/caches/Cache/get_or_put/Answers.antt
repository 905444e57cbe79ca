use Rattle.std.proofs.Common.{rules, ◌≡◌, ap, sym, ◌∙◌}
use Rattle.std.specs.Sync.Mutex.{mutex_guard_value}
use Rattle.bump_cache.specs.Changing.{GetsOrPuts, RefusesNew}
use Rattle.bump_cache.specs.States.{number_of}
use Rattle.bump_cache.proofs.Noting.{err_noted, ok_noted, same_shelf}
use Rattle.bump_cache.proofs.caches.Cache.get_or_put.Goals as goal

pub returns-clause-part : goal.returns-clause-part
returns-clause-part g c =
    let guarded : c.logged.inside.log.number ≡ (mutex_guard_value c.lock_of-guard.result).number = search rules in
    ap number_of c.note.ensures.to ∙ (c.logged.invariant.1 ∙ (guarded ∙ c.lock_of-guard.ensures))

pub returns-clause-puts : goal.returns-clause-puts
returns-clause-puts g c = ok_noted c.get_or_put-got.result
    (GetsOrPuts g.K.Packed.as_words g.V.Packed.as_words
    (λ value. goal.F-step g c.args.make.now value c.get_or_put-got.new.make) (g.K.Packed.as_words c.args.key.now) c.args.expires
    c.args.now)
    _ _ _ _ (same_shelf (c.logged.invariant.0 ∙ sym c.note.ensures.from))
    (same_shelf (sym c.note.ensures.to))
    c.get_or_put-got.ensures.puts

pub returns-clause-refuses : goal.returns-clause-refuses
returns-clause-refuses g c = err_noted c.get_or_put-got.result
    (RefusesNew g.K.Packed.as_words g.V.Packed.as_words (g.K.Packed.as_words c.args.key.now) c.args.now)
    _ _ _ _ (same_shelf (c.logged.invariant.0 ∙ sym c.note.ensures.from))
    (same_shelf (sym c.note.ensures.to))
    c.get_or_put-got.ensures.refuses
