use Rattle.std.proofs.Common.{List, ap, arith}
use Rattle.std.proofs.lemmas.List.{length-map}
use Rattle.model_state.specs.State.{ClassState, no_class, class_with_change}
use Rattle.model_state.specs.Views.{state_of, class_view}
use Rattle.bump_rules.proofs.Updates.{rewritten, unchanged, on_err}
use Rattle.model_state.proofs.world_state.WorldState.change_class.Goals as goal

pub returns-clause-ok : goal.returns-clause-ok
returns-clause-ok c = ap (λ (ks : List ClassState). record (state_of c.args.self.now) { classes = ks })
    (rewritten class_view (λ v.
    class_with_change v c.args.entry) c.args.self.now.classes.items c.args.class c.index_mut-class.result.now _
    no_class (omega (
      arith,
      c.requires.class,
      length-map c.args.self.now.classes.items class_view,
    )) c.index_mut-class.ensures.value c.in_ok-change.ensures.ok)

pub returns-in_err-change-clause-err : goal.returns-in_err-change-clause-err
returns-in_err-change-clause-err c = on_err c.from_residual.result (ap (λ (ks : List ClassState). record
    (state_of c.args.self.now) { classes = ks })
    (unchanged class_view c.args.self.now.classes.items c.args.class c.index_mut-class.result.now _ (omega (
      arith,
      c.requires.class,
      length-map c.args.self.now.classes.items class_view,
    )) c.index_mut-class.ensures.value
    c.in_err-change.ensures.err))
