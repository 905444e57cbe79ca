use Rattle.std.proofs.Common.{subst}
use Rattle.cache_readers.specs.declared.vain.Vain.{Vain}
use Rattle.cache_readers.specs.Looks.{LooksInVain}
use Rattle.cache_readers.proofs.LookLemmas.{ended_behind, found_behind}
use Rattle.cache_readers.proofs.MissLemmas.{absent_behind}
use Rattle.cache_readers.proofs.looking.look_from.Goals as goal

pub returns-clause-finds : goal.returns-clause-finds
returns-clause-finds g c =
    found_behind _ _ _ _ _ c.args.id.chunk c.args.worker.now c.look_held.new.worker _ c.look_through.result
    (λ before glances. subst (λ (why : Vain). LooksInVain why c.args.heads.now c.args.key.now c.args.now before
    c.look_held.new.worker) c.in-Err-Other.field-0-is (c.in-Err-Other.ensures.vain before glances))
    c.look_through.ensures.finds

pub returns-clause-vain : goal.returns-clause-vain
returns-clause-vain g c =
    ended_behind _ _ _ c.args.id.chunk c.args.worker.now c.look_held.new.worker _ c.look_through.result
    (λ before glances. subst (λ (why : Vain). LooksInVain why c.args.heads.now c.args.key.now c.args.now before
    c.look_held.new.worker) c.in-Err-Other.field-0-is (c.in-Err-Other.ensures.vain before glances))
    c.look_through.ensures.vain

pub returns-clause-absent : goal.returns-clause-absent
returns-clause-absent g c =
    absent_behind c.look_through.result c.args.hash c.args.key.now c.args.index.now c.args.id c.args.worker.now
    c.look_held.new.worker c.look_through.new.worker c.args.eye.now c.look_through.new.eye
    (c.in-Err-Other.ensures.other c.in-Err-Other.field-0-is) c.look_through.ensures.absent
