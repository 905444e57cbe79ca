use Rattle.std.proofs.Common.{refl, ◌^◌}
use Rattle.bump_word.specs.Layout.{fetched_first}
use Rattle.bump_readers.specs.Seats.{worker_in}
use Rattle.bump_steps.specs.Marks.{worker_after_fetch}
use Rattle.bump_readers.proofs.Attempts.{changed_seat, fetch_kept}
use Rattle.bump_readers.proofs.Touches.{touched, may_touch, worker_read_back, first_hit, named_hit, once_after, noted_after}
use Rattle.bump_readers.proofs.heads.ReaderHeads.mark_fetched.Goals as goal

pub returns-clause-worker : goal.returns-clause-worker
returns-clause-worker g c = let t = touched (2 ^ fetched_first) worker_after_fetch c.worker.inside.seat.me
    c.mark_fetched.new.seat.me (worker_in c.worker.inside.seat.me.0) c.args.worker.now c.args.life (2 ^ fetched_first)
    c.mark_fetched.result c.head_of.result c.worker.invariant.0 (cc c.worker.view_is) c.requires.held
    c.mark_fetched.ensures.told c.head_of.ensures in worker_read_back c.mark_fetched.new.seat.me
    (record c.args.worker.now { sheet = worker_after_fetch c.args.life c.head_of.result c.args.worker.now.sheet })
    t.view

pub returns-clause-generation : goal.returns-clause-generation
returns-clause-generation g c = let t = touched (2 ^ fetched_first) worker_after_fetch c.worker.inside.seat.me
    c.mark_fetched.new.seat.me (worker_in c.worker.inside.seat.me.0) c.args.worker.now c.args.life (2 ^ fetched_first)
    c.mark_fetched.result c.head_of.result c.worker.invariant.0 (cc c.worker.view_is) c.requires.held
    c.mark_fetched.ensures.told c.head_of.ensures in t.generation

pub returns-clause-count : goal.returns-clause-count
returns-clause-count g c = let t = touched (2 ^ fetched_first) worker_after_fetch c.worker.inside.seat.me
    c.mark_fetched.new.seat.me (worker_in c.worker.inside.seat.me.0) c.args.worker.now c.args.life (2 ^ fetched_first)
    c.mark_fetched.result c.head_of.result c.worker.invariant.0 (cc c.worker.view_is) c.requires.held
    c.mark_fetched.ensures.told c.head_of.ensures in t.count

pub returns-clause-first : goal.returns-clause-first
returns-clause-first g c = let t = touched (2 ^ fetched_first) worker_after_fetch c.worker.inside.seat.me
    c.mark_fetched.new.seat.me (worker_in c.worker.inside.seat.me.0) c.args.worker.now c.args.life (2 ^ fetched_first)
    c.mark_fetched.result c.head_of.result c.worker.invariant.0 (cc c.worker.view_is) c.requires.held
    c.mark_fetched.ensures.told c.head_of.ensures in first_hit c.args.life c.head_of.result
    c.args.worker.now.sheet.hits t.hit

pub returns-clause-named : goal.returns-clause-named
returns-clause-named g c = let t = touched (2 ^ fetched_first) worker_after_fetch c.worker.inside.seat.me
    c.mark_fetched.new.seat.me (worker_in c.worker.inside.seat.me.0) c.args.worker.now c.args.life (2 ^ fetched_first)
    c.mark_fetched.result c.head_of.result c.worker.invariant.0 (cc c.worker.view_is) c.requires.held
    c.mark_fetched.ensures.told c.head_of.ensures in named_hit c.args.life c.head_of.result
    c.args.worker.now.sheet.hits t.hit

pub returns-clause-once : goal.returns-clause-once
returns-clause-once g c = let t = touched (2 ^ fetched_first) worker_after_fetch c.worker.inside.seat.me
    c.mark_fetched.new.seat.me (worker_in c.worker.inside.seat.me.0) c.args.worker.now c.args.life (2 ^ fetched_first)
    c.mark_fetched.result c.head_of.result c.worker.invariant.0 (cc c.worker.view_is) c.requires.held
    c.mark_fetched.ensures.told c.head_of.ensures in once_after c.args.worker.now c.args.life c.head_of.result
    c.mark_fetched.new.seat.me t

pub returns-clause-noted : goal.returns-clause-noted
returns-clause-noted g c = let t = touched (2 ^ fetched_first) worker_after_fetch c.worker.inside.seat.me
    c.mark_fetched.new.seat.me (worker_in c.worker.inside.seat.me.0) c.args.worker.now c.args.life (2 ^ fetched_first)
    c.mark_fetched.result c.head_of.result c.worker.invariant.0 (cc c.worker.view_is) c.requires.held
    c.mark_fetched.ensures.told c.head_of.ensures in noted_after c.args.worker.now c.args.life c.head_of.result
    c.mark_fetched.new.seat.me t

pub invariant_of-worker : goal.invariant_of-worker
invariant_of-worker g c = let t = touched (2 ^ fetched_first) worker_after_fetch c.worker.inside.seat.me
    c.mark_fetched.new.seat.me
    (worker_in c.worker.inside.seat.me.0) c.args.worker.now c.args.life (2 ^ fetched_first) c.mark_fetched.result
    c.head_of.result
    c.worker.invariant.0 (cc c.worker.view_is) c.requires.held c.mark_fetched.ensures.told c.head_of.ensures in
    changed_seat g.N.Name.table c.worker.inside.worker c.worker.inside.seat.table_id c.mark_fetched.new.seat.table_id
    c.worker.inside.seat.me c.mark_fetched.new.seat.me c.args.worker.now
    (record c.args.worker.now { sheet = worker_after_fetch c.args.life c.head_of.result c.args.worker.now.sheet })
    c.worker.invariant
    (cc c.worker.view_is) c.mark_fetched.ensures.same.0 t.view (refl) (λ near. near)
    (fetch_kept c.args.life c.head_of.result c.args.worker.now.sheet)

pub mark_fetched-requires-clause-held : goal.mark_fetched-requires-clause-held
mark_fetched-requires-clause-held g c = may_touch c.worker.inside.seat.me (worker_in c.worker.inside.seat.me.0)
    c.args.worker.now c.args.life c.worker.invariant.0 (cc c.worker.view_is) c.requires.held
