-- A class of the program, as it is worker_views.
use Rattle.std.proofs.Common.{◌≡◌, ℕ, ◌<◌, length, get_or, map, sym, ap, ◌∙◌, arith}
use Rattle.std.proofs.lemmas.List.{length-map, get_or-map}
use Rattle.model_state.specs.declared.classes.Class.{Class}
use Rattle.model_state.specs.declared.world_state.WorldState.{WorldState}
use Rattle.model_state.specs.State.{class_at, no_class}
use Rattle.model_state.specs.Views.{state_of, class_view}

-- a class as it is read
pub class_seen : (p : WorldState) (k : ℕ) (a : Class) → k < length (map class_view p.classes.items) → a
    ≡ get_or p.classes.items k a → class_at (state_of p) k ≡ class_view a
class_seen p k a within is = get_or-map class_view p.classes.items k a no_class (omega (
  arith,
  within,
  length-map p.classes.items class_view,
)) ∙ ap class_view (sym is)
