use Rattle.std.proofs.Common.{subst, ap, ◌∙◌}
use Rattle.bump_rules.specs.Lists.{list_at}
use Rattle.model_state.specs.State.{State, class_at}
use Rattle.model_state.specs.Worlds.{IsLawful}
use Rattle.bump_core.specs.Readers.{class_list}
use Rattle.model_state.proofs.Fronts.{listed_in_range}
use Rattle.bump_core.proofs.worlds.World.list.Goals as goal

pub returns-clause-in_range : goal.returns-clause-in_range
returns-clause-in_range c = listed_in_range c.args.self.now
    (subst IsLawful c.self.view_is c.self.invariant.0) c.args.class c.args.place c.list.result c.requires
    (c.list.ensures ∙ ap (λ s. list_at (class_at s c.args.class).lists c.args.place) c.self.view_is)

pub returns-clause-chunks : goal.returns-clause-chunks
returns-clause-chunks c =
    c.list.ensures ∙ ap (λ (s : State). class_list s c.args.class c.args.place) c.self.view_is
