use Rattle.std.proofs.Common.{◌-◌}
use Rattle.bump_core.proofs.NewClasses.{classes_long}
use Rattle.replay_runs.proofs.scribes.Scribe.new.Goals as goal

-- the World has the class of its configuration
pub invariant_of-result : goal.invariant_of-result
invariant_of-result c =
    let config = c.args.config.now in
    record { class = rw (c.in_ok-new.ensures, classes_long (config.first_generation - 1) 0 config.classes) c.requires.some }
