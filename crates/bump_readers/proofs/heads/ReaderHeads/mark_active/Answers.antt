use Rattle.std.proofs.Common.{◌^◌}
use Rattle.bump_word.specs.Layout.{active_first}
use Rattle.bump_readers.specs.Seats.{worker_in}
use Rattle.bump_steps.specs.Marks.{worker_after_mark}
use Rattle.bump_readers.proofs.Attempts.{changed_seat, mark_kept, mark_worker}
use Rattle.bump_readers.proofs.Touches.{touched, worker_read_back, may_mark, tries_after}
use Rattle.bump_readers.proofs.heads.ReaderHeads.mark_active.Goals as goal

pub mark_active-requires-clause-may : goal.mark_active-requires-clause-may
mark_active-requires-clause-may g c = may_mark c.worker.inside.seat.me (worker_in c.worker.inside.seat.me.0)
    c.args.worker.now c.args.life c.worker.invariant.0 (cc c.worker.view_is) c.requires.held c.requires.fetched

pub returns-clause-worker : goal.returns-clause-worker
returns-clause-worker g c = let t = touched (2 ^ active_first) worker_after_mark c.worker.inside.seat.me
    c.mark_active.new.seat.me (worker_in c.worker.inside.seat.me.0) c.args.worker.now c.args.life (2 ^ active_first)
    c.mark_active.result c.head_of.result c.worker.invariant.0 (cc c.worker.view_is) c.requires.held
    c.mark_active.ensures.told c.head_of.ensures in worker_read_back c.mark_active.new.seat.me
    (record c.args.worker.now { sheet = worker_after_mark c.args.life c.head_of.result c.args.worker.now.sheet }) t.view

pub returns-clause-generation : goal.returns-clause-generation
returns-clause-generation g c = let t = touched (2 ^ active_first) worker_after_mark c.worker.inside.seat.me
    c.mark_active.new.seat.me (worker_in c.worker.inside.seat.me.0) c.args.worker.now c.args.life (2 ^ active_first)
    c.mark_active.result c.head_of.result c.worker.invariant.0 (cc c.worker.view_is) c.requires.held
    c.mark_active.ensures.told c.head_of.ensures in t.generation

pub returns-clause-count : goal.returns-clause-count
returns-clause-count g c = let t = touched (2 ^ active_first) worker_after_mark c.worker.inside.seat.me
    c.mark_active.new.seat.me (worker_in c.worker.inside.seat.me.0) c.args.worker.now c.args.life (2 ^ active_first)
    c.mark_active.result c.head_of.result c.worker.invariant.0 (cc c.worker.view_is) c.requires.held
    c.mark_active.ensures.told c.head_of.ensures in t.count

pub returns-clause-fetched : goal.returns-clause-fetched
returns-clause-fetched g c = let t = touched (2 ^ active_first) worker_after_mark c.worker.inside.seat.me
    c.mark_active.new.seat.me (worker_in c.worker.inside.seat.me.0) c.args.worker.now c.args.life (2 ^ active_first)
    c.mark_active.result c.head_of.result c.worker.invariant.0 (cc c.worker.view_is) c.requires.held
    c.mark_active.ensures.told c.head_of.ensures in t.saw c.requires.fetched

pub returns-clause-tries : goal.returns-clause-tries
returns-clause-tries g c = tries_after c.args.worker.now c.args.life c.head_of.result c.mark_active.new.seat.me
    (touched (2 ^ active_first) worker_after_mark c.worker.inside.seat.me c.mark_active.new.seat.me
    (worker_in c.worker.inside.seat.me.0) c.args.worker.now c.args.life (2 ^ active_first) c.mark_active.result
    c.head_of.result c.worker.invariant.0 (cc c.worker.view_is) c.requires.held c.mark_active.ensures.told
    c.head_of.ensures) c.requires.idle

pub invariant_of-worker : goal.invariant_of-worker
invariant_of-worker g c = let t = touched (2 ^ active_first) worker_after_mark c.worker.inside.seat.me
    c.mark_active.new.seat.me
    (worker_in c.worker.inside.seat.me.0) c.args.worker.now c.args.life (2 ^ active_first) c.mark_active.result
    c.head_of.result
    c.worker.invariant.0 (cc c.worker.view_is) c.requires.held c.mark_active.ensures.told c.head_of.ensures in
    changed_seat g.N.Name.table c.worker.inside.worker c.worker.inside.seat.table_id c.mark_active.new.seat.table_id
    c.worker.inside.seat.me c.mark_active.new.seat.me c.args.worker.now
    (record c.args.worker.now { sheet = worker_after_mark c.args.life c.head_of.result c.args.worker.now.sheet })
    c.worker.invariant
    (cc c.worker.view_is) c.mark_active.ensures.same.0 t.view
    (mark_worker c.args.life c.head_of.result c.args.worker.now.sheet)
    (λ near. near) (mark_kept c.args.life c.head_of.result c.args.worker.now.sheet t.fits.1 c.requires.idle
    c.requires.attempts)
