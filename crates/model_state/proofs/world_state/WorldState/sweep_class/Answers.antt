use Rattle.std.proofs.Common.{◌<◌, List, length, slice_index_or, sym, ap, ◌∙◌, subst, arith}
use Rattle.std.proofs.lemmas.List.{length-map}
use Rattle.model_state.specs.declared.chunks.Chunk.{Chunk}
use Rattle.bump_rules.specs.declared.places.Place.TheVariants.{Dying}
use Rattle.bump_rules.specs.Sweeps.{swept_of}
use Rattle.model_state.specs.State.{ClassState, head_at, no_class, heads_of, class_with_changes}
use Rattle.model_state.specs.Views.{state_of, class_view}
use Rattle.bump_rules.proofs.Updates.{rewritten, unchanged, on_err}
use Rattle.model_state.proofs.world_state.Views.{class_seen}
use Rattle.model_state.proofs.Fronts.{listed_in_range}
use Rattle.model_state.proofs.world_state.WorldState.sweep_class.Goals as goal

pub sweep-requires-clause-chunks : goal.sweep-requires-clause-chunks
sweep-requires-clause-chunks c =
    λ i d below. subst (λ (cs : List Chunk). slice_index_or c.index_mut-class.result.now.lists.dying i d < length cs)
    (sym c.as_slice.ensures.value)
    (listed_in_range (state_of c.args.self.now) c.requires.lawful c.args.class Dying
    c.index_mut-class.result.now.lists.dying c.requires.class
    (sym (ap (λ v. v.lists.dying)
    (class_seen c.args.self.now c.args.class c.index_mut-class.result.now c.requires.class
    c.index_mut-class.ensures.value))) i d below)

pub returns-in_err-sweep-clause-err : goal.returns-in_err-sweep-clause-err
returns-in_err-sweep-clause-err c = on_err c.from_residual.result (ap (λ (ks : List ClassState). record
    (state_of c.args.self.now) { classes = ks })
    (unchanged class_view c.args.self.now.classes.items c.args.class c.index_mut-class.result.now _ (omega (
      arith,
      c.requires.class,
      length-map c.args.self.now.classes.items class_view,
    )) c.index_mut-class.ensures.value
    c.in_err-sweep.ensures.err))

pub returns-clause-ok : goal.returns-clause-ok
returns-clause-ok c = ap (λ (ks : List ClassState). record (state_of c.args.self.now) { classes = ks })
    (rewritten class_view (λ v. class_with_changes v
    (swept_of (head_at (state_of c.args.self.now)) v.lists.dying)) c.args.self.now.classes.items c.args.class
    c.index_mut-class.result.now _ no_class (omega (
      arith,
      c.requires.class,
      length-map c.args.self.now.classes.items class_view,
    )) c.index_mut-class.ensures.value
    (c.in_ok-sweep.ensures.ok ∙ ap (λ (cs : List Chunk). class_with_changes (class_view c.index_mut-class.result.now)
    (swept_of (heads_of cs) c.index_mut-class.result.now.lists.dying)) c.as_slice.ensures.value))
