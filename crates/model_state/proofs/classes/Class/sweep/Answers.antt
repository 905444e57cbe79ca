use Rattle.std.proofs.Common.{◌≡◌, ◌++◌, ◌-◌, arith, length, List, drop, sym, ap, ◌∙◌, subst}
use Rattle.std.proofs.lemmas.List.{drop_at, take_all, length-drop}
use Rattle.bump_rules.specs.declared.history.Change.{Change}
use Rattle.bump_rules.specs.Sweeps.{swept_of}
use Rattle.bump_rules.specs.History.{AreListed}
use Rattle.model_state.specs.State.{heads_of}
use Rattle.model_state.proofs.classes.Sweeps.{dying_listed}
use Rattle.model_state.proofs.classes.Class.sweep.Goals as goal

pub follow-requires : goal.follow-requires
follow-requires c =
    let heads = heads_of c.args.chunks.now in
    let lists = c.args.self.now.lists in
    let items = c.args.self.now.history.items in
    let found = swept_of heads lists.dying in
    let entered : c.enter_unheld.new.history.items ≡ items ++ found = c.enter_unheld.ensures
    ∙ ap (λ (es : List Change). es ++ found) c.in_ok-reserve.ensures.items in
    let all = c.deref.result.now in
    let rest : drop c.len-n.result all ≡ found = ap (drop c.len-n.result) (c.deref.ensures.value ∙ entered)
    ∙ drop_at items found c.len-n.result search in
    let whole = take_all (length all - c.len-n.result) (drop c.len-n.result all) (omega (
      arith,
      length-drop c.len-n.result all,
    )) in
    subst (AreListed lists) (sym (whole ∙ rest)) (dying_listed lists heads)
