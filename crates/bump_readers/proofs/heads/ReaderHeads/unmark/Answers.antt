use Rattle.std.proofs.Common.{refl, ◌-◌, ◌^◌}
use Rattle.bump_word.specs.Layout.{active_first}
use Rattle.bump_readers.specs.Seats.{worker_in}
use Rattle.bump_steps.specs.Marks.{worker_after_unmark}
use Rattle.bump_readers.proofs.Attempts.{changed_seat, unmark_kept}
use Rattle.bump_readers.proofs.Touches.{touched, may_touch, idle_after}
use Rattle.bump_readers.proofs.heads.ReaderHeads.unmark.Goals as goal

pub returns-clause-generation : goal.returns-clause-generation
returns-clause-generation g c = let t = touched (2 ^ 64 - 1 - 2 ^ active_first) worker_after_unmark
    c.worker.inside.seat.me c.unmark.new.seat.me (worker_in c.worker.inside.seat.me.0) c.args.worker.now c.args.life
    (2 ^ 64 - 1 - 2 ^ active_first) c.unmark.result c.head_of.result c.worker.invariant.0 (cc c.worker.view_is)
    c.requires.held c.unmark.ensures.told c.head_of.ensures in t.generation

pub returns-clause-count : goal.returns-clause-count
returns-clause-count g c = let t = touched (2 ^ 64 - 1 - 2 ^ active_first) worker_after_unmark c.worker.inside.seat.me
    c.unmark.new.seat.me (worker_in c.worker.inside.seat.me.0) c.args.worker.now c.args.life
    (2 ^ 64 - 1 - 2 ^ active_first) c.unmark.result c.head_of.result c.worker.invariant.0 (cc c.worker.view_is)
    c.requires.held c.unmark.ensures.told c.head_of.ensures in t.count

pub returns-clause-fetched : goal.returns-clause-fetched
returns-clause-fetched g c = let t = touched (2 ^ 64 - 1 - 2 ^ active_first) worker_after_unmark
    c.worker.inside.seat.me c.unmark.new.seat.me (worker_in c.worker.inside.seat.me.0) c.args.worker.now c.args.life
    (2 ^ 64 - 1 - 2 ^ active_first) c.unmark.result c.head_of.result c.worker.invariant.0 (cc c.worker.view_is)
    c.requires.held c.unmark.ensures.told c.head_of.ensures in t.saw

pub returns-clause-idle : goal.returns-clause-idle
returns-clause-idle g c = idle_after c.args.worker.now c.args.life c.head_of.result c.unmark.new.seat.me
    (touched (2 ^ 64 - 1 - 2 ^ active_first) worker_after_unmark c.worker.inside.seat.me c.unmark.new.seat.me
    (worker_in c.worker.inside.seat.me.0) c.args.worker.now c.args.life (2 ^ 64 - 1 - 2 ^ active_first)
    c.unmark.result c.head_of.result c.worker.invariant.0 (cc c.worker.view_is) c.requires.held c.unmark.ensures.told
    c.head_of.ensures) c.requires.clearing

pub invariant_of-worker : goal.invariant_of-worker
invariant_of-worker g c = let t = touched (2 ^ 64 - 1 - 2 ^ active_first) worker_after_unmark c.worker.inside.seat.me
    c.unmark.new.seat.me
    (worker_in c.worker.inside.seat.me.0) c.args.worker.now c.args.life (2 ^ 64 - 1 - 2 ^ active_first)
    c.unmark.result
    c.head_of.result c.worker.invariant.0 (cc c.worker.view_is) c.requires.held c.unmark.ensures.told
    c.head_of.ensures in
    changed_seat g.N.Name.table c.worker.inside.worker c.worker.inside.seat.table_id c.unmark.new.seat.table_id
    c.worker.inside.seat.me
    c.unmark.new.seat.me c.args.worker.now (record c.args.worker.now
    { sheet = worker_after_unmark c.args.life c.head_of.result c.args.worker.now.sheet }) c.worker.invariant
    (cc c.worker.view_is)
    c.unmark.ensures.same.0 t.view (refl) (λ near. near)
    (unmark_kept c.args.life c.head_of.result c.args.worker.now.sheet
    c.requires.clearing)

pub unmark-requires-clause-held : goal.unmark-requires-clause-held
unmark-requires-clause-held g c = may_touch c.worker.inside.seat.me (worker_in c.worker.inside.seat.me.0)
    c.args.worker.now c.args.life c.worker.invariant.0 (cc c.worker.view_is) c.requires.held
