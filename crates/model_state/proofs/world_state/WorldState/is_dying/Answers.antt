use Rattle.std.proofs.Common.{ℕ, ◌<◌, length, sym, subst}
use Rattle.model_state.specs.Views.{state_of}
use Rattle.model_state.proofs.Tiles.{class_within}
use Rattle.model_state.proofs.Fronts.{listed_at}
use Rattle.model_state.proofs.world_state.WorldState.is_dying.Goals as goal

pub list_has-requires-clause-class : goal.list_has-requires-clause-class
list_has-requires-clause-class c =
    let s = state_of c.args.self.now in
    subst (λ (k : ℕ). k < length s.classes) (sym c.class_of-class.ensures)
    (class_within s c.requires.lawful.tiles c.args.chunk c.requires.chunk)

pub list_has-requires-clause-listed : goal.list_has-requires-clause-listed
list_has-requires-clause-listed c =
    listed_at (state_of c.args.self.now) c.requires.lawful c.args.chunk c.class_of-class.result c.requires.chunk
    c.class_of-class.ensures
