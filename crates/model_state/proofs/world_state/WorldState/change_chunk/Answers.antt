use Rattle.std.proofs.Common.{ℕ, ◌<◌, length, sym, subst}
use Rattle.bump_rules.specs.History.{subject}
use Rattle.model_state.specs.Views.{state_of}
use Rattle.model_state.proofs.Tiles.{class_within}
use Rattle.model_state.proofs.Fronts.{listed_at}
use Rattle.model_state.proofs.world_state.WorldState.change_chunk.Goals as goal

pub change_class-requires : goal.change_class-requires
change_class-requires c =
    let s = state_of c.args.self.now in
    let d = (subject c.args.entry).chunk in record {
      class = subst (λ (k : ℕ). k < length s.classes) (sym c.requires.class)
          (class_within s c.requires.lawful.tiles d c.requires.chunk);
      listed = listed_at s c.requires.lawful d c.args.class c.requires.chunk c.requires.class;
    }
