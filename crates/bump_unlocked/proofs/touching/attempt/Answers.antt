use Rattle.std.proofs.Common.{◌≡◌, ◌<◌, ap, sym, ◌∙◌, subst, refl, arith}
use Rattle.bump_rules.specs.declared.commands.Dropped.{Dropped}
use Rattle.bump_rules.specs.declared.commands.Touch.TheVariants as touch
use Rattle.bump_steps.specs.Marks.{worker_after_unmark}
use Rattle.bump_readers.specs.declared.views.WorkerView.{WorkerView}
use Rattle.bump_readers.specs.Touching.{fetches_of}
use Rattle.bump_ring.specs.Ends.{SenderView}
use Rattle.bump_unlocked.specs.Touches.{Findings, IsHeadOf}
use Rattle.bump_unlocked.specs.Attempts.{Attempted}
use Rattle.bump_unlocked.proofs.AttemptLemmas.{queued, refused_ride, refused_fetched, full, full_fetched}
use Rattle.bump_unlocked.proofs.touching.attempt.Goals.{in-Ok+in-Err-offer, in-Err}
use Rattle.bump_unlocked.proofs.touching.attempt.Goals as goal

pub returns-in-Ok-offer : goal.returns-in-Ok-offer
returns-in-Ok-offer g c =
    let r = c.in-Ok.ensures.rode in
    let o = c.in-Ok-offer.ensures in
    queued _ _ _ _ _ _ c.args.seat.now.sheet.accounts.accepted c.in-Ok-offer.number r.0 r.1 c.in-Ok.rider r.2 c.in-Ok.ensures.rider
    c.requires.accepted o.number o.sent

pub returns : goal.returns
returns g c =
    let limit = c.args.heads.now.refs_limit in
    let l = c.args.life in
    let v = c.args.seat.now in
    let s = c.args.sender.now in
    let u = c.unmark in
    let Goal : SenderView × Dropped → Type 0 = λ x.
    (f : Findings) × Attempted limit l v u.new.worker s x.0 (touch.Dropped x.1) f in
    let head : IsHeadOf l u.result =
    record { fits = u.ensures.fits; generation = u.ensures.generation; held = u.ensures.count } in
    let clears = λ (w : WorkerView) (is : c.match-ride.seat ≡ w).
    u.ensures.worker ∙ ap (λ (y : WorkerView). record y { sheet = worker_after_unmark l u.result y.sheet }) is in
    let sets = λ (w : WorkerView) (is : c.match-ride.seat ≡ w) (has : 0 < fetches_of l w.sheet).
    u.ensures.fetched (subst (λ (y : WorkerView). 0 < fetches_of l y.sheet) (sym is) has) in
    elim c.match-ride.branch [
      | in-Ok+in-Err-offer w ↦
          let r = w.in-Ok.ensures.rode in
          let o = w.in-Err-offer.ensures in
          let back = w.rider_back in
          let give = w.give_back_bump in
          let gave = give.new.worker in
          let given : IsHeadOf l give.result = record {
            fits = give.ensures.fits;
            generation = give.ensures.generation;
            held = omega (arith, give.ensures.counted);
          } in
          let came = back.new.worker in
          let rider = w.in-Ok.rider in
          let has = full_fetched limit l v _ came gave r.0 r.1 rider w.in-Err-offer.rider give.result r.2 back.ensures
          give.ensures.worker c.requires.fetched in
          subst Goal (λ i. (sym (w.sender-is ∙ o.unchanged) i, sym w.dropped-is i))
          (full limit l v _ came gave r.0 r.1 rider w.in-Err-offer.rider give.result r.2 back.ensures give.ensures.worker
          u.new.worker s s u.result given head (sets gave w.seat-is has) (clears gave w.seat-is) refl o.full)
      | in-Err w ↦
          let r = w.in-Err.ensures.rode in
          let why = w.in-Err.refusal in
          let rode_off = c.ride.new.worker in
          let has = refused_fetched limit l v rode_off r.0 r.1 why r.2 c.requires.fetched in
          subst Goal (λ i. (sym w.sender-is i, sym (w.dropped-is ∙ w.dropped_as-dropped.ensures) i))
          (refused_ride limit l v rode_off r.0 r.1 why r.2 u.new.worker s s u.result head
          (sets rode_off w.seat-is has) (clears rode_off w.seat-is) refl)
    ]
