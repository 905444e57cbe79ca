use Rattle.std.proofs.Common.{◌<◌, length, sym, ap, subst, ◌∙◌, arith}
use Rattle.std.proofs.lemmas.List.{length-map, get_or-map}
use Rattle.model_state.specs.declared.classes.Class.{Class}
use Rattle.model_state.specs.State.{State, ClassState, no_class}
use Rattle.model_state.specs.Views.{class_view}
use Rattle.bump_core.specs.Readers.{history_of}
use Rattle.bump_core.proofs.worlds.World.history.Goals as goal

pub returns : goal.returns
returns c =
    let k = c.args.class in
    let all = c.self.inside.inside.classes.items in
    let read = c.index.result.now in
    let within = subst (λ (s : State). k < length s.classes) (sym c.self.view_is) c.requires in
    let seen = get_or-map class_view all k read no_class (omega (arith, within, length-map all class_view)) in
    c.as_slice.ensures.value
    ∙ (ap (λ (d : Class). d.history.items) c.index.ensures
    ∙ (sym (ap (λ (d : ClassState). d.history) seen) ∙ ap (λ (s : State). history_of s k) c.self.view_is))
