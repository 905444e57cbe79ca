use Rattle.std.proofs.Common.{rules, refl, subst}
use Rattle.cache_readers.specs.declared.vain.Vain.{Vain}
use Rattle.cache_readers.specs.Looks.{SearchEnds}
use Rattle.cache_index.proofs.ReaderLemmas.{looks_more}
use Rattle.cache_readers.proofs.MissLemmas.{absent_earlier, gives_up, holds_anew, no_glance, over_earlier, over_of_ends}
use Rattle.cache_readers.proofs.LookLemmas.{counts_one, found_in_turn, nothing_at_last, nothing_other, nothing_over, one_more_search}
use Rattle.cache_readers.proofs.looking.find_from.Goals as goal

pub returns-in-Ok-look_through-clause-finds : goal.returns-in-Ok-look_through-clause-finds
returns-in-Ok-look_through-clause-finds g c = λ before glances.
    found_in_turn _ _ _ _ _ _ _ _ _ _ (search rules) c.loop-turn.invariant.2 (c.loop-turn.invariant.0 before glances)
    c.in-Ok-look_through.ensures.finds

pub returns-in-Err-Other-look_through-clause-vain : goal.returns-in-Err-Other-look_through-clause-vain
returns-in-Err-Other-look_through-clause-vain g c = λ before glances.
    nothing_other _ _ _ _ _ _ _ _ _ (search rules) c.loop-turn.invariant.2 (c.loop-turn.invariant.0 before glances)
    (subst (λ (why : Vain). SearchEnds why c.args.heads.now c.args.key.now c.args.now c.loop-turn.worker c.look_through.new.worker)
    c.in-Err-Other-look_through.field-0-is c.in-Err-Other-look_through.ensures.vain)

pub returns-in-Err-Over-look_through-clause-vain : goal.returns-in-Err-Over-look_through-clause-vain
returns-in-Err-Over-look_through-clause-vain g c = λ before glances.
    nothing_over _ _ _ _ _ _ _ _ _ (search rules) c.loop-turn.invariant.2 (c.loop-turn.invariant.0 before glances)
    (subst (λ (why : Vain). SearchEnds why c.args.heads.now c.args.key.now c.args.now c.loop-turn.worker c.look_through.new.worker)
    c.in-Err-Over-look_through.field-0-is c.in-Err-Over-look_through.ensures.vain)

pub returns-in-Err-Other-clause-vain : goal.returns-in-Err-Other-clause-vain
returns-in-Err-Other-clause-vain g c = λ before glances.
    nothing_other _ _ _ 0 _ _ before before _ (search rules) (search rules) refl
    (subst (λ (why : Vain). SearchEnds why c.args.heads.now c.args.key.now c.args.now before c.look_from.new.worker)
    c.in-Err-Other.field-0-is (c.in-Err-Other.ensures.vain before glances))

pub returns-in-Err-Over-clause-vain : goal.returns-in-Err-Over-clause-vain
returns-in-Err-Over-clause-vain g c = λ before glances.
    nothing_over _ _ _ 0 _ _ before before _ (search rules) (search rules) refl
    (subst (λ (why : Vain). SearchEnds why c.args.heads.now c.args.key.now c.args.now before c.look_from.new.worker)
    c.in-Err-Over.field-0-is (c.in-Err-Over.ensures.vain before glances))

pub returns-clause-vain : goal.returns-clause-vain
returns-clause-vain g c = λ before glances.
    nothing_at_last _ _ _ _ _ _ _ _ (search rules) c.loop-turn.invariant.2 (c.loop-turn.invariant.0 before glances)

pub returns-in-Err-Over-clause-missed : goal.returns-in-Err-Over-clause-missed
returns-in-Err-Over-clause-missed g c =
    over_of_ends c.args.heads.now c.args.key.now c.args.now c.args.worker.now c.look_from.new.worker
    (subst (λ (why : Vain). SearchEnds why c.args.heads.now c.args.key.now c.args.now c.args.worker.now c.look_from.new.worker)
    c.in-Err-Over.field-0-is (c.in-Err-Over.ensures.vain c.args.worker.now (no_glance c.args.id.chunk c.args.worker.now)))

pub returns-in-Err-Other-look_through-clause-missed : goal.returns-in-Err-Other-look_through-clause-missed
returns-in-Err-Other-look_through-clause-missed g c =
    absent_earlier c.args.hash c.args.key.now c.args.index.now c.args.worker.now c.args.eye.now c.loop-turn.worker
    c.loop-turn.eye c.look_through.new.worker c.look_through.new.eye
    (holds_anew c.args.heads.now c.args.key.now c.args.now c.loop-turn._turn c.args.id.chunk c.args.worker.now
    c.loop-turn.worker c.loop-turn.invariant.0) c.loop-turn.invariant.4
    (c.in-Err-Other-look_through.ensures.absent c.in-Err-Other-look_through.field-0-is)

pub returns-in-Err-Over-look_through-clause-missed : goal.returns-in-Err-Over-look_through-clause-missed
returns-in-Err-Over-look_through-clause-missed g c =
    over_earlier c.args.heads.now c.args.key.now c.args.now c.args.worker.now c.loop-turn.worker c.look_through.new.worker
    (holds_anew c.args.heads.now c.args.key.now c.args.now c.loop-turn._turn c.args.id.chunk c.args.worker.now
    c.loop-turn.worker c.loop-turn.invariant.0)
    (over_of_ends c.args.heads.now c.args.key.now c.args.now c.loop-turn.worker c.look_through.new.worker
    (subst (λ (why : Vain). SearchEnds why c.args.heads.now c.args.key.now c.args.now c.loop-turn.worker c.look_through.new.worker)
    c.in-Err-Over-look_through.field-0-is c.in-Err-Over-look_through.ensures.vain))

pub returns-clause-missed : goal.returns-clause-missed
returns-clause-missed g c =
    gives_up c.loop-turn._turn c.args.anew.now c.loop-turn.anew (search rules) c.loop-turn.invariant.2

pub returns-in-Ok-look_through-clause-looks : goal.returns-in-Ok-look_through-clause-looks
returns-in-Ok-look_through-clause-looks g c =
    looks_more c.args.eye.now c.loop-turn.eye c.look_through.new.eye c.loop-turn.invariant.4
    c.in-Ok-look_through.ensures.looks

pub returns-in-Err-Other-look_through-clause-looks : goal.returns-in-Err-Other-look_through-clause-looks
returns-in-Err-Other-look_through-clause-looks g c =
    looks_more c.args.eye.now c.loop-turn.eye c.look_through.new.eye c.loop-turn.invariant.4
    c.in-Err-Other-look_through.ensures.looks

pub returns-in-Err-Over-look_through-clause-looks : goal.returns-in-Err-Over-look_through-clause-looks
returns-in-Err-Over-look_through-clause-looks g c =
    looks_more c.args.eye.now c.loop-turn.eye c.look_through.new.eye c.loop-turn.invariant.4
    c.in-Err-Over-look_through.ensures.looks

pub loop-turn-preserved : goal.loop-turn-preserved
loop-turn-preserved g c = (
  λ before glances. one_more_search _ _ _ _ before c.loop-turn.worker c.look_through.new.worker
      (c.loop-turn.invariant.0 before glances)
      (subst (λ (why : Vain). SearchEnds why c.args.heads.now c.args.key.now c.args.now c.loop-turn.worker c.look_through.new.worker)
      c.in-Err-Ended-look_through.field-0-is c.in-Err-Ended-look_through.ensures.vain),
  search rules,
  counts_one c.loop-turn._turn c.args.anew.now c.loop-turn.anew c.count_one-in-Err-Ended-look_through.new.count c.loop-turn.invariant.2
      c.count_one-in-Err-Ended-look_through.ensures,
  search rules,
  looks_more c.args.eye.now c.loop-turn.eye c.look_through.new.eye c.loop-turn.invariant.4
      c.in-Err-Ended-look_through.ensures.looks,
)
