use Rattle.std.proofs.Common.{◌≡◌, ◌+◌, ◌≤◌, ◌∙◌, ap, sym, subst, Some, rules}
use Rattle.bump_rules.specs.declared.commands.Answer.TheVariants as answer
use Rattle.bump_rules.specs.declared.commands.Command.TheVariants as command
use Rattle.bump_rules.specs.declared.items.ItemId.{ItemId}
use Rattle.bump_rules.specs.Lives.{one_if}
use Rattle.model_state.specs.State.{State}
use Rattle.model_state.specs.Worlds.{holds_of}
use Rattle.bump_trace.specs.OpenStore.{answer_by}
use Rattle.bump_trace.specs.Names.{Names, bind}
use Rattle.bump_trace.specs.Ready.{AreHeld}
use Rattle.bump_trace.specs.Views.{names_of}
use Rattle.bump_trace.specs.declared.open_store.OpenStore.{OpenStore}
use Rattle.bump_trace.proofs.HoldsOfItems.{taken_by}
use Rattle.bump_trace.proofs.HeldNames.{held_more}
use Rattle.bump_trace.proofs.open_store.OpenStore.hold.Goals as goal

pub returns-in_ok-put_hold-in-Some-Held-clause-steady : goal.returns-in_ok-put_hold-in-Some-Held-clause-steady
returns-in_ok-put_hold-in-Some-Held-clause-steady c =
    let b = c.args.self.now in
    let held = c.command_by.new.self in
    let id = c.in-Some.id in
    let name = c.args.hold.now in
    let took = c.in_ok-answer.ensures in
    let is : Some answer.Held ≡ answer_by b.world c.args.worker (command.Take c.args.worker id) = search rules in
    let more = subst (λ (t : State). (l : ItemId) → holds_of b.world l + one_if l id ≤ holds_of t l) (sym (ap (λ (x : OpenStore). x.world) took.after))
    (taken_by b.world c.args.worker id is) in
    let names = c.in_ok-bind-in-Some-Held.ensures ∙ ap (λ (x : OpenStore). bind name id (names_of x.holds)) took.after in
    record {
      ready = search rules;
      holds = subst (λ (n : Names). AreHeld held.world n) (sym names) (held_more b.world held.world (names_of b.holds) name id more c.requires.holds);
    }
