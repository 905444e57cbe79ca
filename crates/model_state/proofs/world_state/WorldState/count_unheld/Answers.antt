use Rattle.std.proofs.Common.{◌<◌, List, length, slice_index_or, sym, ap, subst}
use Rattle.model_state.specs.declared.chunks.Chunk.{Chunk}
use Rattle.bump_rules.specs.declared.places.Place.TheVariants.{Dying}
use Rattle.model_state.specs.Views.{state_of}
use Rattle.model_state.proofs.world_state.Views.{class_seen}
use Rattle.model_state.proofs.Fronts.{listed_in_range}
use Rattle.model_state.proofs.world_state.WorldState.count_unheld.Goals as goal

pub count_unheld-requires : goal.count_unheld-requires
count_unheld-requires c = λ i d below. subst
    (λ (cs : List Chunk). slice_index_or c.index.result.now.lists.dying i d < length cs) (sym c.as_slice.ensures.value)
    (listed_in_range (state_of c.args.self.now) c.requires.lawful c.args.class Dying c.index.result.now.lists.dying
    c.requires.class
    (sym (ap (λ v. v.lists.dying)
    (class_seen c.args.self.now c.args.class c.index.result.now c.requires.class c.index.ensures))) i d below)
