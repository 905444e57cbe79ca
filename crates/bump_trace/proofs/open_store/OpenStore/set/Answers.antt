use Rattle.std.proofs.Common.{◌≡◌, true, false, ◌∙◌, sym, subst, arith, rules}
use Rattle.std.proofs.lemmas.Bool.{lt-ltb}
use Rattle.bump_rules.specs.declared.commands.Command.{Command}
use Rattle.bump_core.specs.Commands.{is_allowed}
use Rattle.bump_core.proofs.Stores.{store_allowed}
use Rattle.bump_trace.specs.OpenStore.{set_said}
use Rattle.bump_trace.specs.Ready.{is_release}
use Rattle.bump_trace.proofs.CommandsAtRest.{link_allowed}
use Rattle.bump_trace.proofs.HoldsOfItems.{link_keeps}
use Rattle.bump_trace.proofs.open_store.OpenStore.set.Goals as goal

pub command-requires-clause-allowed : goal.command-requires-clause-allowed
command-requires-clause-allowed c =
    let s = c.args.self.now.world in
    let ready = c.requires.ready in
    subst (λ (k : Command). is_allowed s k ≡ true) (sym c.store.ensures)
    (store_allowed s c.args.start c.args.class c.args.label c.args.now
    ∙ link_allowed s c.args.class ready.rest (lt-ltb _ _ (omega (arith, ready.classes))))

pub command-requires-clause-kept : goal.command-requires-clause-kept
command-requires-clause-kept c = subst (λ (k : Command). is_release k ≡ false) (sym c.store.ensures)
    (link_keeps c.args.start c.args.class c.args.label c.args.now)

pub returns-clause-said : goal.returns-clause-said
unfolding set_said
returns-clause-said c = search rules
