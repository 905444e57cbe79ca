use Rattle.std.proofs.Common.{rules, ◌≡◌, sym, ◌∙◌, ap}
use Rattle.std.specs.Sync.Mutex.{mutex_guard_value}
use Rattle.cache_shelf.specs.Entries.{ReadsShelf}
use Rattle.bump_cache.specs.States.{number_of}
use Rattle.bump_cache.specs.Visiting.{VisitsEach}
use Rattle.bump_cache.proofs.Noting.{of_both, same_shelf}
use Rattle.bump_cache.proofs.caches.Cache.for_each_part.Goals as goal

pub returns-clause-visits : goal.returns-clause-visits
returns-clause-visits g c =
    let guarded : c.logged.inside.log.number ≡ (mutex_guard_value c.lock_part-guard.result).number = search rules in
    let did = c.for_each-visit.ensures in
    let from = same_shelf (c.logged.invariant.0 ∙ sym c.note.ensures.from) in
    let to = same_shelf (sym c.note.ensures.to) in record {
      call = c.note.ensures.call;
      part = ap number_of c.note.ensures.to ∙ (c.logged.invariant.1 ∙ (guarded ∙ c.lock_part-guard.ensures));
      visits = of_both (λ before after. VisitsEach g.K.Packed.fits g.K.Packed.as_words g.V.Packed.fits
          g.V.Packed.as_words (λ from key value expires to. goal.F-step g from key value expires tt to) c.args.now
          c.args.visit c.for_each-visit.result before.part) _ _ _ _ from to did.visits;
      reads = of_both ReadsShelf _ _ _ _ from to did.reads;
    }
