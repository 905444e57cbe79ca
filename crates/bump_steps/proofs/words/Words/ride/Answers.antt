use Rattle.std.proofs.Common.{arith, ◌∙◌, ◌++◌, ◌∷◌, []}
use Rattle.bump_steps.proofs.RideTries.{ride_starts, ride_head, still_on, ride_goes_on, ride_refuses, ride_gives_up, reserves_it}
use Rattle.bump_steps.proofs.words.Words.ride.Goals as goal

pub loop-failed-init : goal.loop-failed-init
loop-failed-init g c = record {
  same = c.load_to_ride-word.ensures.same;
  tries = ride_starts c.args.limit.now c.args.life c.args.seat.now.me c.load_to_ride-word.new.seat.me
      c.load_to_ride-word.result
      c.load_to_ride-word.ensures.told;
}

pub head_of-head-requires : goal.head_of-head-requires
head_of-head-requires g c = let t = c.loop-failed.invariant.tries in
    ride_head c.args.limit.now c.args.life c.args.seat.now.me c.loop-failed.seat.me c.loop-failed.word
    c.loop-failed.failed t.0 t.1 t.2

pub try_to_ride-found-requires-clause-trying : goal.try_to_ride-found-requires-clause-trying
try_to_ride-found-requires-clause-trying g c = let t = c.loop-failed.invariant.tries in
    still_on c.args.limit.now c.args.life c.args.seat.now.me c.loop-failed.seat.me c.loop-failed.word
    c.loop-failed.failed t.0 t.1 t.2
    (omega (arith, c.loop-failed-test.true)) c.head_of-head.result c.head_of-head.ensures c.if-head-limit.false
    c.requires.trying

pub try_to_ride-found-requires-clause-room : goal.try_to_ride-found-requires-clause-room
try_to_ride-found-requires-clause-room g c = (c.head_of-head.result, c.head_of-head.ensures, c.if-head-limit.false)

pub returns-then-head-limit-clause-told : goal.returns-then-head-limit-clause-told
returns-then-head-limit-clause-told g c = let t = c.loop-failed.invariant.tries in
    let k = ride_refuses c.args.limit.now c.args.life c.args.seat.now.me c.loop-failed.seat.me c.loop-failed.word
    c.loop-failed.failed
    t.0 t.1 t.2 (omega (arith, c.loop-failed-test.true)) c.head_of-head.result c.head_of-head.ensures
    c.if-head-limit.true in
    (t.0, t.1, k.found, k.view, k.answer)

pub returns-then-found-word-clause-told : goal.returns-then-found-word-clause-told
returns-then-found-word-clause-told g c = let t = c.loop-failed.invariant.tries in
    let k = reserves_it c.args.limit.now c.args.life c.args.seat.now.me c.loop-failed.seat.me c.loop-failed.word
    c.loop-failed.failed
    t.0 t.1 t.2 (omega (arith, c.loop-failed-test.true)) c.head_of-head.result c.head_of-head.ensures
    c.if-head-limit.false
    c.try_to_ride-found.new.seat.me c.try_to_ride-found.result c.if-found-word.true
    (c.try_to_ride-found.ensures.told.0 c.if-found-word.true) in
    (t.0, t.1, k.found, k.view, k.answer)

pub loop-failed-preserved : goal.loop-failed-preserved
loop-failed-preserved g c = let t = c.loop-failed.invariant.tries in
    let k = ride_goes_on c.args.limit.now c.args.life c.args.seat.now.me c.loop-failed.seat.me c.loop-failed.word
    c.loop-failed.failed
    t.0 t.1 t.2 (omega (arith, c.loop-failed-test.true)) c.head_of-head.result c.head_of-head.ensures
    c.if-head-limit.false
    c.try_to_ride-found.new.seat.me c.try_to_ride-found.result c.if-found-word.false
    (c.try_to_ride-found.ensures.told.1 c.if-found-word.false) in record {
      same = (
        c.try_to_ride-found.ensures.same.0 ∙ c.loop-failed.invariant.same.0,
        c.try_to_ride-found.ensures.same.1 ∙ c.loop-failed.invariant.same.1,
      );
      tries = (t.0, t.1 ++ k.0 ∷ [], k.1);
    }

pub returns-clause-told : goal.returns-clause-told
returns-clause-told g c = let t = c.loop-failed.invariant.tries in
    let k = ride_gives_up c.args.limit.now c.args.life c.args.seat.now.me c.loop-failed.seat.me c.loop-failed.word
    c.loop-failed.failed
    t.0 t.1 t.2 (omega arith) in
    (t.0, t.1, k.found, k.view, k.answer)
