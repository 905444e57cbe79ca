use Rattle.std.proofs.Common.{arith, ◌-◌, ap, sym, ◌∙◌, subst, length, []}
use Rattle.bump_steps.specs.Places.{rows}
use Rattle.bump_steps.specs.Plays.{Sat}
use Rattle.bump_rules.specs.declared.configs.Config.{Config}
use Rattle.bump_rules.specs.Configs.{chunks_of}
use Rattle.bump_rules.proofs.Bounds.{bounds}
use Rattle.bump_steps.specs.Rule.{opened}
use Rattle.bump_heads.specs.Making.{BlankView, AreNewClasses, AreNewLanes}
use Rattle.bump_readers.specs.Workers.{AreNewWorkers}
use Rattle.bump_readers.proofs.WorkerTurns.{new_workers, length_workers}
use Rattle.bump_heads.proofs.Makings.{length_classes, new_classes, length_lanes, new_lanes}
use Rattle.bump_heads.proofs.heads.Heads.new.Goals as goal

pub part_classes-requires-clause-sheets : goal.part_classes-requires-clause-sheets
part_classes-requires-clause-sheets g c = let k = c.args.config.now in let me = c.blank.invariant.1
    ∙ ap (λ (x : Config). (opened x, [])) (ap (λ (b : BlankView). b.config) c.blank.view_is ∙ c.requires.config) in (
      ap (λ (x : Sat). length x.0.classes) me ∙ length_classes (k.first_generation - 1) 0 0 k.classes
          ∙ ap length (sym c.as_slice.ensures),
      subst (λ (x : Sat). AreNewClasses (rows g.N.Name.table) 0 x.0.classes)
          (sym me) (new_classes (rows g.N.Name.table) (k.first_generation - 1) 0 0 k.classes
          (omega (
            arith,
            ap rows
                (sym (ap (λ (b : BlankView). b.table) c.blank.view_is ∙ c.requires.name)) ∙ c.blank.inside.words.sized
                ∙ ap (λ (x : Config). chunks_of x.classes) (ap (λ (b : BlankView). b.config) c.blank.view_is
                ∙ c.requires.config),
          ))),
    )

pub part_workers-requires-clause-sheets : goal.part_workers-requires-clause-sheets
part_workers-requires-clause-sheets g c = let k = c.args.config.now in let me = c.blank.invariant.1
    ∙ ap (λ (x : Config). (opened x, [])) (ap (λ (b : BlankView). b.config) c.blank.view_is ∙ c.requires.config) in
    let workers = ap (λ (x : Sat). x.0.workers) c.in_ok-classes.ensures.rest.1 ∙ ap (λ (x : Sat). x.0.workers) me in
    (ap length workers ∙ length_workers 0 k.workers, subst (AreNewWorkers 0) (sym workers) (new_workers 0 k.workers))

pub part_lanes-requires-clause-sheets : goal.part_lanes-requires-clause-sheets
part_lanes-requires-clause-sheets g c = let k = c.args.config.now in let me = c.blank.invariant.1
    ∙ ap (λ (x : Config). (opened x, [])) (ap (λ (b : BlankView). b.config) c.blank.view_is ∙ c.requires.config) in
    let lanes = ap (λ (x : Sat). x.0.lanes) c.in_ok-workers.ensures.rest.1
    ∙ ap (λ (x : Sat). x.0.lanes) c.in_ok-classes.ensures.rest.1 ∙ ap (λ (x : Sat). x.0.lanes) me in
    (ap length lanes ∙ length_lanes 0 k.workers, subst (AreNewLanes 0) (sym lanes) (new_lanes 0 k.workers))

pub part_lanes-requires-clause-few : goal.part_lanes-requires-clause-few
part_lanes-requires-clause-few g c = let k = c.args.config.now in
    (bounds k.workers k.capacity k.refs_limit k.first_generation k.classes k.valid).workers_most
