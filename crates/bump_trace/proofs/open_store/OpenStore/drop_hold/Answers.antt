use Rattle.std.proofs.Common.{◌∙◌, ap, sym, subst, rules}
use Rattle.bump_trace.specs.Names.{Names, unbind}
use Rattle.bump_trace.specs.Ready.{AreHeld}
use Rattle.bump_trace.specs.Views.{names_of}
use Rattle.bump_trace.specs.declared.open_store.OpenStore.{OpenStore}
use Rattle.bump_trace.proofs.CommandsAtRest.{release_allowed}
use Rattle.bump_trace.proofs.HeldNames.{held_by_name, held_fewer}
use Rattle.bump_trace.specs.OpenStore.{drop_said}
use Rattle.bump_trace.proofs.open_store.OpenStore.drop_hold.Goals as goal

pub release-requires-clause-hold : goal.release-requires-clause-hold
release-requires-clause-hold c =
    let b = c.args.self.now in
    held_by_name b.world (names_of b.holds) c.args.hold.now c.in-Some.id c.requires.ready.lawful c.in-Some.ensures c.requires.holds

pub release-requires-clause-allowed : goal.release-requires-clause-allowed
release-requires-clause-allowed c =
    let b = c.args.self.now in
    release_allowed b.world c.in-Some.id c.requires.ready.rest (held_by_name b.world (names_of b.holds) c.args.hold.now c.in-Some.id c.requires.ready.lawful c.in-Some.ensures c.requires.holds)

pub returns-clause-steady : goal.returns-clause-steady
returns-clause-steady c =
    let b = c.args.self.now in
    let released = c.in_ok-release.ensures in
    let names = c.unbind.ensures ∙ ap (λ (x : OpenStore). unbind c.args.hold.now (names_of x.holds)) released.after in
    record {
      ready = search rules;
      holds = subst (λ (n : Names). AreHeld c.release.new.self.world n) (sym names)
          (held_fewer b.world c.release.new.self.world (names_of b.holds) c.args.hold.now c.in-Some.id c.in-Some.ensures released.holds c.requires.holds);
    }

pub returns-clause-said : goal.returns-clause-said
unfolding drop_said
returns-clause-said c = search rules
