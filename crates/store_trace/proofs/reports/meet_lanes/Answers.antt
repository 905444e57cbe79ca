use Rattle.std.proofs.Common.{◌≡◌, ℕ, zero, suc, ◌+◌, ◌<◌, ◌≤◌, List, length, get_or, map, ap, sym, subst, ◌∙◌, arith}
use Rattle.std.proofs.Math.ListN.{get_or-map}
use Rattle.std.proofs.Math.Seq.{map-set_same}
use Rattle.std.proofs.lemmas.List.{length-map, take_all}
use Rattle.bump_class.specs.Applications.{moved_in}
use Rattle.bump_class.specs.Books.{BookView}
use Rattle.bump_class.specs.Changes.{book_after_meet, book_after_meets}
use Rattle.bump_class.specs.Lanes.{entries}
use Rattle.bump_rules.specs.Entries.{moves_of}
use Rattle.bump_store.specs.Lanes.{LaneState}
use Rattle.bump_rules.specs.declared.bumps.AppliedBump.{AppliedBump}
use Rattle.store_trace.specs.Pairs.{lanes_of}
use Rattle.store_trace.specs.declared.pairs.Pair.{Pair}
use Rattle.store_trace.proofs.MoveLines.{same_next}
use Rattle.store_trace.proofs.reports.meet_lanes.Goals as goal

-- what a Book that met so many lanes has of moves, it had before
moves_before : (n : ℕ) (b : BookView) (worker : ℕ) (applied : List AppliedBump)
    → moves_of worker (book_after_meets n b).sheet.history ≡ moved_in (book_after_meets n b).sheet applied
    → moves_of worker b.sheet.history ≡ moved_in b.sheet applied
moves_before zero b worker applied told = told
moves_before (suc n) b worker applied told = moves_before n b worker applied told

pub loop-at-preserved : goal.loop-at-preserved
loop-at-preserved g c =
    let i = c.loop-at.invariant in
    let at = c.loop-at.at in
    let pair = c.index_mut.result.now in
    let lane = λ (p : Pair g.row.N.Denot). p.lane in
    let lanes = lanes_of c.args.pairs.now.items in
    let book = c.args.book.now in
    let low : at < length c.args.pairs.now.items = omega (arith, c.loop-at-test.true, i.end) in
    let inside : at < length lanes = omega (arith, low, length-map c.args.pairs.now.items lane) in
    let read : pair.lane ≡ get_or lanes at pair.lane =
    ap lane c.index_mut.ensures.value ∙ sym (get_or-map lane c.loop-at.pairs.items at pair) ∙ ap (λ (ls : List LaneState). get_or ls at pair.lane) i.lanes in
    let next : suc at ≡ at + 1 = omega arith in
    let met = moves_before at book pair.lane.lane.sheet.worker (entries pair.lane.lane)
    (subst (λ (b : BookView). moves_of pair.lane.lane.sheet.worker b.sheet.history ≡ moved_in b.sheet (entries pair.lane.lane)) i.book c.meet.ensures.moves) in record {
      book = c.meet.ensures.book ∙ ap book_after_meet i.book ∙ ap (λ (n : ℕ). book_after_meets n book) next;
      lanes = map-set_same lane c.loop-at.pairs.items at _ pair (c.meet.ensures.lane ∙ ap lane c.index_mut.ensures.value) ∙ i.lanes;
      told = same_next (λ (l : LaneState). moves_of l.lane.sheet.worker book.sheet.history) (λ (l : LaneState). moved_in book.sheet (entries l.lane)) lanes at
          pair.lane inside read met i.told;
      end = i.end;
      place = omega (arith, low);
    }

pub returns-clause-book : goal.returns-clause-book
returns-clause-book g c =
    let i = c.loop-at.invariant in
    let all : c.loop-at.at ≡ length c.args.pairs.now.items = omega (arith, i.end, i.place, c.loop-at-test.false) in
    i.book ∙ ap (λ (n : ℕ). book_after_meets n c.args.book.now) all

pub returns-clause-told : goal.returns-clause-told
returns-clause-told g c =
    let i = c.loop-at.invariant in
    let book = c.args.book.now in
    let lanes = lanes_of c.args.pairs.now.items in
    let all : length lanes ≤ c.loop-at.at =
    omega (arith, i.end, i.place, c.loop-at-test.false, length-map c.args.pairs.now.items (λ (p : Pair g.row.N.Denot). p.lane)) in
    subst (λ (ls : List LaneState). map (λ (l : LaneState). moves_of l.lane.sheet.worker book.sheet.history) ls ≡ map (λ (l : LaneState). moved_in book.sheet (entries l.lane)) ls)
    (take_all c.loop-at.at lanes all) i.told
