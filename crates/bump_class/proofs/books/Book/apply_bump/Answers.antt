use Rattle.std.proofs.Common.{◌≡◌, ◌==◌, ◌<◌, ◌+◌, ℕ, refl, sym, ap, ◌∙◌, subst, arith, slice_index, true, length}
use Rattle.bump_rules.specs.declared.bumps.Applied.TheVariants as applied
use Rattle.bump_rules.specs.declared.bumps.Outcome.TheVariants.{Moved, TimeOnly, Gone}
use Rattle.bump_rules.specs.declared.history.Cause.TheVariants as cause
use Rattle.bump_rules.specs.declared.history.Change.TheVariants as change
use Rattle.bump_rules.specs.declared.places.Segment.TheVariants.{Warm, Cold}
use Rattle.bump_heads.specs.declared.views.ClassView.{ClassView}
use Rattle.bump_heads.specs.Applying.{IsShown, NamesNoBumpTwice, TellsMoves}
use Rattle.bump_heads.specs.Linking.{place_of_chunk}
use Rattle.bump_class.specs.Applications.{AppliesFront}
use Rattle.bump_class.specs.Books.{BookView}
use Rattle.bump_class.specs.Changes.{book_after_sweep_or_load}
use Rattle.bump_class.specs.Lanes.{LaneView, sheet_or, carries}
use Rattle.bump_steps.specs.Views.{owns}
use Rattle.bump_rules.specs.Entries.{moves_of}
use Rattle.bump_rules.specs.Lawful.{bit}
use Rattle.bump_class.proofs.Keeping.{listed_seen, entered_with}
use Rattle.bump_class.proofs.MoveLemmas.{counts_bump, few_before}
use Rattle.bump_class.proofs.LaneLemmas.{few_aboard, applied_keeps, carried_sheet, carried_seat, each_told}
use Rattle.bump_class.proofs.ApplicationLemmas.{gone_dies, shown_behind, once_behind, told_behind, fronts, time_only_keeps, bump_applied}
use Rattle.bump_class.proofs.books.Book.apply_bump.Goals as goal
use Rattle.bump_class.proofs.books.Book.apply_bump.Goals.{in-Moved, in-TimeOnly, in-Gone}

pub overflow_add-lane : goal.overflow_add-lane
overflow_add-lane g c =
    let y = c.lane.inside in
    omega (
      arith,
      few_aboard y.seat y.worker y.applied y.receiver.received c.args.bump c.lane.invariant
          (carried_seat y.seat y.worker y.applied y.receiver.received c.args.bump c.lane.invariant (ap carries c.lane.view_is ∙ c.requires.carries)),
    )

pub to_front-requires : goal.to_front-requires
to_front-requires g c = listed_seen _ _ c.args.bump.life.chunk c.self.view_is c.self.invariant.3 c.requires.own

pub invariant_of-self : goal.invariant_of-self
invariant_of-self g c =
    let i = c.self.inside in
    let y = c.lane.inside in
    let b = c.args.bump in
    let own = subst (λ (z : BookView). owns b.life.chunk z.sheet ≡ true) (sym c.self.view_is) c.requires.own in
    let e = change.Moved b.life Cold Warm (cause.Bump (sheet_or y.seat).worker b.number) in
    let more = c.count_move.new.moved in
    let many : length i.moved.items ≡ i.workers = c.self.invariant.5 in
    let one = subst (λ (n : ℕ). (w : ℕ) → w < i.workers
    → slice_index more.items w ≡ slice_index i.moved.items w + bit (n == w)) (sym c.lane.invariant.worker_is)
    (λ w near. c.count_move.ensures.counted w (omega (arith, near, many, i.moved.ok.0))) in
    entered_with i.seat c.update-outcome.new.class i.first i.end i.hot_limit i.warm_limit i.workers i.moved.items more.items
    i.lists c.to_front.new.self e _ _ _ c.self.invariant c.in-Moved.ensures.updates.1.class c.to_front.ensures own refl
    (counts_bump i.workers i.moved.items more.items i.seat.sheet.history (sheet_or y.seat).worker b c.self.invariant.4 one)
    (omega (arith, c.count_move.ensures.workers, many, i.moved.ok.0, more.ok.0))

pub count_move-requires : goal.count_move-requires
count_move-requires g c =
    let i = c.self.inside in
    let y = c.lane.inside in
    let b = c.args.bump in
    let x = c.update-outcome.new.lane in
    let after = c.update-outcome.new.class in
    let u = c.in-Moved.ensures.updates in
    record {
      few = λ near. omega (
        arith,
        c.self.invariant.4 y.worker (omega (arith, near, c.self.invariant.5, i.moved.ok.0)),
        ap (λ (w : ℕ). moves_of w i.seat.sheet.history) c.lane.invariant.worker_is,
        few_before i.seat.sheet after.sheet (sheet_or y.seat) (sheet_or x) b c.args.now u.0 c.self.invariant.3.causes
            (ap (λ (v : ClassView). v.sheet) u.1.class) u.1.lane u.1.told,
        few_aboard y.seat y.worker y.applied y.receiver.received b c.lane.invariant (carried_seat y.seat y.worker y.applied y.receiver.received c.args.bump c.lane.invariant (ap carries c.lane.view_is ∙ c.requires.carries)),
        c.lane.invariant.counted,
      );
    }

pub invariant_of-self-in-TimeOnly : goal.invariant_of-self-in-TimeOnly
invariant_of-self-in-TimeOnly g c =
    let i = c.self.inside in
    let y = c.lane.inside in
    let u = c.in-TimeOnly.ensures.updates in
    time_only_keeps i.seat c.update-outcome.new.class i.first i.end i.hot_limit i.warm_limit i.workers i.moved.items i.lists
    (sheet_or y.seat).worker c.args.bump c.args.now u.0 c.self.invariant u.1.class

pub seen_unheld-requires-clause-dying : goal.seen_unheld-requires-clause-dying
seen_unheld-requires-clause-dying g c =
    let i = c.self.inside in
    let y = c.lane.inside in
    let b = c.args.bump in
    let u = c.in-Gone.ensures.updates in
    let k : BookView = record {
      sheet = i.seat.sheet;
      lists = i.lists;
      hot_limit = i.hot_limit;
      warm_limit = i.warm_limit;
      workers = i.workers;
    } in
    let carried = carried_sheet y.seat b (carried_seat y.seat y.worker y.applied y.receiver.received c.args.bump c.lane.invariant (ap carries c.lane.view_is ∙ c.requires.carries)) in
    let own = subst (λ (z : BookView). owns b.life.chunk z.sheet ≡ true) (sym c.self.view_is) c.requires.own in
    ap (λ x. place_of_chunk x.sheet b.life.chunk) u.1.class
    ∙ gone_dies i.seat.sheet b u.0.tried u.0.cleared u.1.sight own u.1.table

pub invariant_of-lane : goal.invariant_of-lane
invariant_of-lane g c =
    let y = c.lane.inside in
    let u = c.update-outcome.ensures.updates in
    applied_keeps y.seat c.update-outcome.new.lane y.worker y.applied y.receiver.received c.args.bump
    c.update-outcome.result u.0 c.lane.invariant (carried_seat y.seat y.worker y.applied y.receiver.received c.args.bump c.lane.invariant (ap carries c.lane.view_is ∙ c.requires.carries))
    c.update-outcome.ensures.whole u.1.lane

pub returns : goal.returns
returns g c =
    let i = c.self.inside in
    let y = c.lane.inside in
    let b = c.args.bump in
    let m = c.match-outcome in
    let x = c.update-outcome.new.lane in
    let after = c.update-outcome.new.class in
    let old = c.args.self.now in
    let from = c.args.lane.now in
    let carried = carried_sheet y.seat b (carried_seat y.seat y.worker y.applied y.receiver.received c.args.bump c.lane.invariant (ap carries c.lane.view_is ∙ c.requires.carries)) in
    let own = subst (λ (z : BookView). owns b.life.chunk z.sheet ≡ true) (sym c.self.view_is) c.requires.own in
    let made = fronts i.seat i.lists i.hot_limit i.warm_limit i.workers y.receiver.ring y.receiver.received y.receiver.known
    y.seat x b c.args.now in
    let to : LaneView = record {
      ring = y.receiver.ring;
      received = y.receiver.received;
      known = y.receiver.known;
      sheet = sheet_or x;
    } in
    let front : AppliesFront c.args.now old from m.result m.self to = elim c.match-outcome.branch [
      | in-Moved w ↦ let u = w.in-Moved.ensures.updates in
          made Moved u.0 after u.1 own old from c.self.view_is c.lane.view_is carried u.0.tried m.result m.self
          u.1.fit.tried w.result-is (w.self-is ∙ (λ j. record {
            sheet = (u.1.class j).sheet;
            lists = w.to_front.ensures j;
            hot_limit = i.hot_limit;
            warm_limit = i.warm_limit;
            workers = i.workers;
          })) (subst (λ (z : BookView). IsShown z.sheet (sheet_or x) b Moved) (sym w.self-is) u.1.entry)
      | in-TimeOnly w ↦ let u = w.in-TimeOnly.ensures.updates in
          made TimeOnly u.0 after u.1 own old from c.self.view_is c.lane.view_is carried u.0.tried m.result m.self
          u.1.fit.tried w.result-is (w.self-is ∙ ap (λ (z : ClassView). record {
            sheet = z.sheet;
            lists = i.lists;
            hot_limit = i.hot_limit;
            warm_limit = i.warm_limit;
            workers = i.workers;
          }) u.1.class) (subst (λ (z : BookView). IsShown z.sheet (sheet_or x) b TimeOnly) (sym w.self-is) u.1.entry)
      | in-Gone w ↦ let u = w.in-Gone.ensures.updates in
          let h = w.seen_unheld.result in
          let left = w.self-is ∙ w.seen_unheld.ensures.seen in
          made Gone u.0 after u.1 own old from c.self.view_is c.lane.view_is carried h m.result m.self
          w.seen_unheld.ensures.fits (w.result-is ∙ ap (λ e. applied.Gone e) w.ended.ensures)
          (left ∙ ap (λ (z : ClassView). book_after_sweep_or_load b.life.chunk h (record {
            sheet = z.sheet;
            lists = i.lists;
            hot_limit = i.hot_limit;
            warm_limit = i.warm_limit;
            workers = i.workers;
          })) u.1.class) (subst (λ (z : BookView). IsShown z.sheet (sheet_or x) b Gone) (sym left)
          (shown_behind after.sheet b.life.chunk h (sheet_or x) b u.1.entry))
    ] in
    let once : NamesNoBumpTwice m.self.sheet = elim c.match-outcome.branch [
      | in-Moved w ↦ subst (λ (z : BookView). NamesNoBumpTwice z.sheet) (sym w.self-is)
          w.in-Moved.ensures.updates.1.once
      | in-TimeOnly w ↦ subst (λ (z : BookView). NamesNoBumpTwice z.sheet) (sym w.self-is)
          w.in-TimeOnly.ensures.updates.1.once
      | in-Gone w ↦ subst (λ (z : BookView). NamesNoBumpTwice z.sheet) (sym (w.self-is ∙ w.seen_unheld.ensures.seen))
          (once_behind after.sheet b.life.chunk w.seen_unheld.result w.in-Gone.ensures.updates.1.once)
    ] in
    let u = c.update-outcome.ensures.updates in
    let keeps = applied_keeps y.seat x y.worker y.applied y.receiver.received b c.update-outcome.result u.0 c.lane.invariant
    (carried_seat y.seat y.worker y.applied y.receiver.received c.args.bump c.lane.invariant (ap carries c.lane.view_is ∙ c.requires.carries)) c.update-outcome.ensures.whole u.1.lane in
    let tells : TellsMoves m.self.sheet (sheet_or x) = elim c.match-outcome.branch [
      | in-Moved w ↦ subst (λ (z : BookView). TellsMoves z.sheet (sheet_or x)) (sym w.self-is)
          w.in-Moved.ensures.updates.1.told
      | in-TimeOnly w ↦ subst (λ (z : BookView). TellsMoves z.sheet (sheet_or x)) (sym w.self-is)
          w.in-TimeOnly.ensures.updates.1.told
      | in-Gone w ↦ subst (λ (z : BookView). TellsMoves z.sheet (sheet_or x))
          (sym (w.self-is ∙ w.seen_unheld.ensures.seen))
          (told_behind after.sheet b.life.chunk w.seen_unheld.result (sheet_or x) w.in-Gone.ensures.updates.1.told)
    ] in
    let told = each_told m.self.sheet (sheet_or x) y.receiver.received keeps.lane tells in
    record { applied = bump_applied c.args.now old from m.result m.self to front once told }
