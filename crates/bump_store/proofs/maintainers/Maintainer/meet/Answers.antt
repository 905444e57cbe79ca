use Rattle.std.proofs.Common.{rules, ◌≡◌, ℕ, ◌+◌, ◌<◌, suc, length, refl, ap, ◌∙◌, subst, arith, Some, List}
use Rattle.std.specs.Prelude.{slice_set, slice_get, slice_index_or}
use Rattle.std.proofs.lemmas.List.{set-get_or}
use Rattle.std.proofs.lemmas.Option.{slice_get_read}
use Rattle.bump_rules.specs.declared.configs.Config.{Config}
use Rattle.bump_rules.specs.Entries.{moves_of}
use Rattle.bump_heads.specs.Applying.{NamesNoBumpTwice, NamesWorkersBelow}
use Rattle.bump_class.specs.Applications.{EachMoveIsTold, moved_in}
use Rattle.bump_class.specs.Books.{BookView}
use Rattle.bump_class.specs.Changes.{book_after_meet, book_after_meets}
use Rattle.bump_class.specs.Lanes.{entries}
use Rattle.bump_store.specs.Lanes.{LaneState}
use Rattle.bump_store.proofs.MeetingLemmas.{told_before, moves_before, once_before, workers_before, one_more, all_so_far, each_by_its_lane}
use Rattle.bump_store.proofs.maintainers.Maintainer.meet.Goals as goal

pub loop-worker-init : goal.loop-worker-init
loop-worker-init g c = record {
  lanes = c.self.view_is;
  book = refl;
  told = λ k x low is. absurd (omega (arith, low));
  moves = λ k x low is. absurd (omega (arith, low));
  end = search rules;
  place = omega arith;
}

pub loop-worker-preserved : goal.loop-worker-preserved
loop-worker-preserved g c =
    let i = c.loop-worker.invariant in
    let w = c.loop-worker.worker in
    let lanes = c.args.self.now in
    let before = c.args.book.now in
    let afters = c.loop-worker.self-inside.lanes.items in
    let this = c.index_mut.result.now in
    let e = c.meet.ensures in
    let value = c.index_mut.ensures.value in
    let low : w < length lanes = omega (arith, c.loop-worker-test.true, i.end) in
    let next : suc w ≡ w + 1 = omega arith in
    let there : slice_get lanes w ≡ Some this = slice_get_read lanes (length lanes) w this refl low
    (value ∙ ap (λ (ls : List LaneState). slice_index_or ls w this) i.lanes) in record {
      lanes = ap (slice_set afters w) (e.lane ∙ value) ∙ set-get_or afters w this ∙ i.lanes;
      book = e.book ∙ ap book_after_meet i.book ∙ ap (λ (n : ℕ). book_after_meets n before) next;
      told = one_more (λ x. EachMoveIsTold before.sheet x.lane.sheet) w lanes this there
          (told_before w before this.lane.sheet
          (subst (λ (b : BookView). EachMoveIsTold b.sheet this.lane.sheet) i.book e.told)) i.told;
      moves = one_more (λ x. moves_of x.lane.sheet.worker before.sheet.history ≡ moved_in before.sheet (entries x.lane)) w lanes
          this there (moves_before w before this.lane.sheet
          (subst (λ (b : BookView). moves_of this.lane.sheet.worker b.sheet.history ≡ moved_in b.sheet (entries this.lane))
          i.book e.moves)) i.moves;
      end = i.end;
      place = omega (arith, low);
    }

pub returns-clause-lanes : goal.returns-clause-lanes
returns-clause-lanes g c = c.loop-worker.invariant.lanes

pub returns-clause-book : goal.returns-clause-book
returns-clause-book g c =
    let i = c.loop-worker.invariant in
    let before = c.args.book.now in
    let all : suc c.loop-worker.worker ≡ length c.args.self.now + 1 =
    omega (arith, i.end, i.place, c.loop-worker-test.false) in
    c.meet_workers.ensures.book ∙ ap book_after_meet i.book ∙ ap (λ (n : ℕ). book_after_meets n before) all

pub returns-clause-once : goal.returns-clause-once
returns-clause-once g c = let i = c.loop-worker.invariant in
    once_before c.loop-worker.worker c.args.book.now
    (subst (λ (b : BookView). NamesNoBumpTwice b.sheet) i.book c.meet_workers.ensures.once)

pub returns-clause-workers : goal.returns-clause-workers
returns-clause-workers g c = let i = c.loop-worker.invariant in
    workers_before c.loop-worker.worker c.args.book.now c.args.store.now.workers
    (subst (λ (b : BookView). NamesWorkersBelow c.args.store.now.workers b.sheet) i.book
    (subst (λ (k : Config). NamesWorkersBelow k.workers c.loop-worker.book.sheet) c.deref.ensures
    c.meet_workers.ensures.workers))

pub returns-clause-told : goal.returns-clause-told
returns-clause-told g c = let i = c.loop-worker.invariant in
    all_so_far (λ x. EachMoveIsTold c.args.book.now.sheet x.lane.sheet) c.loop-worker.worker c.args.self.now
    (omega (arith, i.end, i.place, c.loop-worker-test.false)) i.told

pub returns-clause-moves : goal.returns-clause-moves
returns-clause-moves g c = let i = c.loop-worker.invariant in
    all_so_far (λ x. moves_of x.lane.sheet.worker c.args.book.now.sheet.history
    ≡ moved_in c.args.book.now.sheet (entries x.lane)) c.loop-worker.worker c.args.self.now
    (omega (arith, i.end, i.place, c.loop-worker-test.false)) i.moves

pub returns-clause-all_told : goal.returns-clause-all_told
returns-clause-all_told g c = λ all. let i = c.loop-worker.invariant in
    let before = c.args.book.now in
    each_by_its_lane c.args.store.now.workers before.sheet c.args.self.now all
    (workers_before c.loop-worker.worker before c.args.store.now.workers
    (subst (λ (b : BookView). NamesWorkersBelow c.args.store.now.workers b.sheet) i.book
    (subst (λ (k : Config). NamesWorkersBelow k.workers c.loop-worker.book.sheet) c.deref.ensures
    c.meet_workers.ensures.workers)))
    (all_so_far (λ x. EachMoveIsTold before.sheet x.lane.sheet) c.loop-worker.worker c.args.self.now
    (omega (arith, i.end, i.place, c.loop-worker-test.false)) i.told)
