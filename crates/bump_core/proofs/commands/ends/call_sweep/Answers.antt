use Rattle.std.proofs.Common.{rules, ◌≡◌, ◌<◌, length, sym, ◌∙◌, arith}
use Rattle.model_state.specs.State.{head_at, class_at}
use Rattle.model_state.specs.Sweeps.{sweep_of}
use Rattle.model_state.specs.Views.{state_of}
use Rattle.bump_core.proofs.commands.UnheldChunks.{some_unheld, none_unheld, looks_ask, nothing_swept}
use Rattle.bump_core.proofs.commands.ends.call_sweep.Goals as goal

pub returns-then-count-eq0 : goal.returns-then-count-eq0
returns-then-count-eq0 c =
    let s = state_of c.args.inside.now in
    let none : length (sweep_of s c.args.class) ≡ 0 = sym c.count_unheld-count.ensures ∙ c.if-count-eq0.true in
    let held = none_unheld (head_at s) (class_at s c.args.class).lists.dying none in
    let same = nothing_swept s c.args.class (sweep_of s c.args.class) none in
    (search rules, search rules, search rules)

pub returns-then-is_under_application : goal.returns-then-is_under_application
returns-then-is_under_application c =
    let s = state_of c.args.inside.now in
    let some : 0 < length (sweep_of s c.args.class) = omega (arith, c.count_unheld-count.ensures, c.if-count-eq0.false) in
    let free = some_unheld (head_at s) (class_at s c.args.class).lists.dying some in
    search rules

pub returns-in_err-sweep_class : goal.returns-in_err-sweep_class
returns-in_err-sweep_class c =
    let s = state_of c.args.inside.now in
    let some : 0 < length (sweep_of s c.args.class) = omega (arith, c.count_unheld-count.ensures, c.if-count-eq0.false) in
    let free = some_unheld (head_at s) (class_at s c.args.class).lists.dying some in
    let asks = looks_ask (head_at s) (class_at s c.args.class).lists.dying s free in
    search rules

pub returns : goal.returns
returns c =
    let s = state_of c.args.inside.now in
    let some : 0 < length (sweep_of s c.args.class) = omega (arith, c.count_unheld-count.ensures, c.if-count-eq0.false) in
    let free = some_unheld (head_at s) (class_at s c.args.class).lists.dying some in
    search rules
