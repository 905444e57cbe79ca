use Rattle.std.proofs.Common.{◌≡◌, ◌∙◌, ap, sym, subst, true, arith, rules}
use Rattle.model_state.specs.State.{State, is_held}
use Rattle.bump_trace.specs.declared.open_store.OpenStore.{OpenStore}
use Rattle.bump_trace.proofs.CommandsAtRest.{touch_allowed, release_allowed, held_after_touch}
use Rattle.bump_trace.proofs.open_store.OpenStore.get_held.Goals as goal

pub command-requires-clause-allowed : goal.command-requires-clause-allowed
command-requires-clause-allowed c =
    touch_allowed c.args.self.now.world c.args.worker c.args.id c.args.now c.requires.ready.rest c.requires.hold ∙ c.requires.worker

pub release-requires-clause-hold : goal.release-requires-clause-hold
release-requires-clause-hold c =
    subst (λ (t : State). is_held t c.args.id ≡ true) (sym (ap (λ (b : OpenStore). b.world) c.in_ok-hit.ensures.after))
    (held_after_touch c.args.self.now.world c.args.worker c.args.id c.args.now c.requires.hold)

pub release-requires-clause-allowed : goal.release-requires-clause-allowed
release-requires-clause-allowed c =
    let touch = c.in_ok-hit.ensures in
    let still = subst (λ (t : State). is_held t c.args.id ≡ true) (sym (ap (λ (b : OpenStore). b.world) touch.after))
    (held_after_touch c.args.self.now.world c.args.worker c.args.id c.args.now c.requires.hold) in
    release_allowed c.command.new.self.world c.args.id touch.ready.rest still

pub returns-clause-holds : goal.returns-clause-holds
returns-clause-holds c = record { each = λ l. omega (arith, c.in_ok-hit.ensures.holds.each l, c.in_ok-release.ensures.holds.each l) }

pub returns-clause-said : goal.returns-clause-said
returns-clause-said c = search rules
