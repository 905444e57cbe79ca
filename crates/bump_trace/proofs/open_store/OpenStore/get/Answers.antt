use Rattle.std.proofs.Common.{◌≡◌, ◌+◌, ◌≤◌, ◌∙◌, ap, sym, subst, Some, rules}
use Rattle.bump_rules.specs.declared.commands.Answer.TheVariants as answer
use Rattle.bump_rules.specs.declared.items.ItemId.{ItemId}
use Rattle.bump_rules.specs.Lives.{one_if}
use Rattle.model_state.specs.State.{State}
use Rattle.model_state.specs.Worlds.{holds_of}
use Rattle.bump_rules.specs.declared.commands.Command.TheVariants as command
use Rattle.bump_trace.specs.OpenStore.{answer_by}
use Rattle.bump_trace.specs.Names.{Names}
use Rattle.bump_trace.specs.Ready.{AreHeld}
use Rattle.bump_trace.specs.Views.{names_of}
use Rattle.bump_trace.specs.declared.open_store.OpenStore.{OpenStore}
use Rattle.bump_trace.proofs.HoldsOfItems.{taken_by}
use Rattle.bump_trace.proofs.HeldNames.{held_again, on_ok}
use Rattle.bump_trace.proofs.open_store.OpenStore.get.Goals as goal

pub returns-in-Some-Held-clause-steady : goal.returns-in-Some-Held-clause-steady
returns-in-Some-Held-clause-steady c =
    let b = c.args.self.now in
    let held = c.command_by.new.self in
    let done = c.get_held.new.self in
    let id = c.in-Some.id in
    let took = c.in_ok-answer.ensures in
    let is : Some answer.Held ≡ answer_by b.world c.args.worker (command.Take c.args.worker id) = search rules in
    let more = subst (λ (t : State). (l : ItemId) → holds_of b.world l + one_if l id ≤ holds_of t l) (sym (ap (λ (x : OpenStore). x.world) took.after))
    (taken_by b.world c.args.worker id is) in
    on_ok c.get_held.result c.get_held.ensures.ready (on_ok c.get_held.result c.get_held.ensures.same c.get_held.ensures.holds
    (λ same back.
    subst (λ (n : Names). AreHeld done.world n) (sym (ap (λ (x : OpenStore). names_of x.holds) same ∙ ap (λ (x : OpenStore). names_of x.holds) took.after))
    (held_again b.world held.world done.world (names_of b.holds) id more back c.requires.holds)))
    (λ ready holds. record { ready = ready; holds = holds })
