use Rattle.std.proofs.Common.{◌≤◌, ◌-◌, ◌↔◌, IfSome, IfNone, IsErr, List, ℕ, length, sym, subst, vec_len}
use Rattle.std.specs.Prelude.{slice_index}
use Rattle.bump_rules.specs.declared.configs.Config.{Config}
use Rattle.bump_rules.specs.Configs.{chunks_of}
use Rattle.bump_unlocked.specs.UnlockedStore.{IsBetweenStarts}
use Rattle.bump_store.specs.Stores.{IsStore}
use Rattle.bump_store.proofs.Starts.{refused_exactly}
use Rattle.bump_store.proofs.stores.Store.class_of.Goals as goal

pub returns-clause-none : goal.returns-clause-none
returns-clause-none g c =
    let place = c.place_of.result in
    let chunk = c.args.chunk in
    let starts = c.self.inside.starts.items in
    let same = c.deref.ensures.value in
    let found = subst (λ (xs : List ℕ). IfSome place (λ n. IsBetweenStarts chunk xs n)) same c.place_of.ensures.some in
    let behind = subst (λ (xs : List ℕ). IfNone place (slice_index xs (length xs - 1) ≤ chunk)) same c.place_of.ensures.none in
    let store = subst (λ (key : Config). IsStore key.classes starts (vec_len c.self.inside.books)) c.self.view_is c.self.invariant.0 in
    subst (λ r. IsErr r ↔ (chunks_of c.args.self.now.classes ≤ chunk)) (sym c.ok_or.ensures.value)
    (refused_exactly _ starts _ chunk place _ store found behind)
