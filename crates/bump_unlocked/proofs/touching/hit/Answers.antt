use Rattle.std.proofs.Common.{rules, refl}
use Rattle.bump_unlocked.specs.Touches.{IsHeadOf}
use Rattle.bump_unlocked.proofs.HitLemmas.{first, already, already_active, timed, attempts, fetched_still}
use Rattle.bump_unlocked.proofs.touching.hit.Goals as goal

pub returns-then-not-first-clause-hit : goal.returns-then-not-first-clause-hit
returns-then-not-first-clause-hit g c =
    let m = c.mark_fetched-first in
    let head : IsHeadOf c.args.life m.result =
    record { fits = m.ensures.fits; generation = m.ensures.generation; held = m.ensures.count } in
    first _ _ _ _ _ _ _ _ m.ensures.worker head (search rules) (search rules) refl

pub returns-then-first-clause-hit : goal.returns-then-first-clause-hit
returns-then-first-clause-hit g c =
    let m = c.mark_fetched-first in
    let head : IsHeadOf c.args.life m.result =
    record { fits = m.ensures.fits; generation = m.ensures.generation; held = m.ensures.count } in
    already _ _ _ _ _ _ _ _ m.ensures.worker head (search rules) c.if-first.true refl

pub returns-then-second-clause-hit : goal.returns-then-second-clause-hit
returns-then-second-clause-hit g c =
    let m = c.mark_fetched-first in
    let k = c.mark_active-second in
    let head : IsHeadOf c.args.life m.result =
    record { fits = m.ensures.fits; generation = m.ensures.generation; held = m.ensures.count } in
    let head' : IsHeadOf c.args.life k.result =
    record { fits = k.ensures.fits; generation = k.ensures.generation; held = k.ensures.count } in
    already_active _ _ _ _ _ _ _ _ m.ensures.worker head (search rules) c.if-first.false head' _ _ k.ensures.worker
    c.if-second.true refl

pub returns-then-not-is_cold-clause-hit : goal.returns-then-not-is_cold-clause-hit
returns-then-not-is_cold-clause-hit g c =
    let m = c.mark_fetched-first in
    let k = c.mark_active-second in
    let head : IsHeadOf c.args.life m.result =
    record { fits = m.ensures.fits; generation = m.ensures.generation; held = m.ensures.count } in
    let head' : IsHeadOf c.args.life k.result =
    record { fits = k.ensures.fits; generation = k.ensures.generation; held = k.ensures.count } in
    timed _ _ _ _ _ _ _ _ m.ensures.worker head (search rules) c.if-first.false head' _ _ _ k.ensures.worker
    c.if-second.false (search rules) (search rules) refl

pub attempt_counted-requires-clause-fetched : goal.attempt_counted-requires-clause-fetched
attempt_counted-requires-clause-fetched g c =
    let m = c.mark_fetched-first in
    let k = c.mark_active-second in
    fetched_still c.args.life k.result m.new.worker k.new.worker k.ensures.worker m.ensures.noted

pub returns-clause-hit : goal.returns-clause-hit
returns-clause-hit g c =
    let m = c.mark_fetched-first in
    let k = c.mark_active-second in
    let head : IsHeadOf c.args.life m.result =
    record { fits = m.ensures.fits; generation = m.ensures.generation; held = m.ensures.count } in
    let head' : IsHeadOf c.args.life k.result =
    record { fits = k.ensures.fits; generation = k.ensures.generation; held = k.ensures.count } in
    attempts _ _ _ _ _ _ _ _ m.ensures.worker head (search rules) c.if-first.false head' _ _ _ _ k.ensures.worker
    c.if-second.false (search rules) c.requires.idle c.attempt_counted.ensures.attempted
