use Rattle.std.proofs.Common.{◌-◌, refl}
use Rattle.std.proofs.lemmas.List.{length-replicate}
use Rattle.std.proofs.lemmas.List.Elements.{All-replicate}
use Rattle.model_state.specs.State.{new_worker}
use Rattle.bump_core.proofs.NewClasses.{classes_long}
use Rattle.bump_trace.specs.Ready.{IsResting}
use Rattle.bump_trace.proofs.open_store.OpenStore.new.Goals as goal

pub returns-clause-ready : goal.returns-clause-ready
returns-clause-ready c =
    let config = c.args.config.now in
    rw (c.in_ok-world.ensures, c.as_slice.ensures) (record {
      workers = length-replicate config.workers new_worker;
      classes = classes_long (config.first_generation - 1) 0 config.classes;
      capacity = refl;
      rest = All-replicate IsResting config.workers new_worker (record { idle = refl; empty = refl });
      lawful = rw c.in_ok-world.ensures at c.promise.ensures.lawful;
    })
