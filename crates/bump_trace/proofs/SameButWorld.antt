-- Benches that differ in their World alone.
use Rattle.std.proofs.Common.{◌≡◌, sym, ap, ◌∙◌}
use Rattle.model_state.specs.State.{State}
use Rattle.bump_trace.specs.declared.open_store.OpenStore.{OpenStore}

-- one store differs from a second in its World alone, and the second from a third
pub same_rest : (a b d : OpenStore) (s : State) → a ≡ record b { world = s } → b ≡ record d { world = b.world } → a ≡ record d { world = a.world }
same_rest a b d s e f =
    e ∙ ap (λ (x : OpenStore). record x { world = s }) f ∙ ap (λ t. let x : OpenStore = record d { world = t } in x) (sym (ap (λ (x : OpenStore). x.world) e))

-- and its World is this one
pub same_world : (a d : OpenStore) (s : State) → a ≡ record d { world = a.world } → a.world ≡ s → a ≡ record d { world = s }
same_world a d s e f = e ∙ ap (λ t. let x : OpenStore = record d { world = t } in x) f
