use Rattle.std.proofs.Common.{◌≡◌, ◌⊎◌, ◌++◌, ◌<◌, ◌≤◌, [], ◌∷◌, ℕ, zero, suc, ◌+◌, true, false, List, length, refl, sym, ap, ◌∙◌, subst, inl, inr, arith}
use Rattle.std.proofs.lemmas.Bool.{cases_lt, false≢true}
use Rattle.std.proofs.lemmas.List.{length_push}
use Rattle.bump_class.specs.Books.{BookView}
use Rattle.bump_class.specs.Changes.{book_after_meets}
use Rattle.bump_store.specs.Lanes.{LaneState}
use Rattle.bump_store.specs.Stores.{IsOfClass}
use Rattle.store_trace.specs.Pairs.{lanes_of}
use Rattle.store_trace.specs.Reports.{moves_lines, moves_of_each, moves_of_lanes, lane_moves_told, AreMovesOf}
use Rattle.store_trace.proofs.MoveLines.{each_push}
use Rattle.store_trace.proofs.NumberedTexts.{told_more}
use Rattle.store_trace.proofs.reports.put_all_moves.Goals as goal

-- a Book that met lanes has the workers, and the history, that it had
moves_stay : (n : ℕ) (b : BookView) → moves_of_each (book_after_meets n b).workers (book_after_meets n b).sheet.history
    ≡ moves_of_each b.workers b.sheet.history
moves_stay zero b = refl
moves_stay (suc n) b = moves_stay n b

-- a class whose Book was locked is one of so many
inside : (class count : ℕ) → (count ≤ class → false ≡ true) → class + 1 ≤ count
inside class count none = by (cases_lt class count)
  where
    by : (class < count) ⊎ (count ≤ class) → class + 1 ≤ count
    by (inl h) = omega arith
    by (inr h) = absurd (false≢true (none h))

pub loop-class-preserved : goal.loop-class-preserved
loop-class-preserved g c =
    let i = c.loop-class.invariant in
    let (moves, count, range, each, is) = i.told in
    let class = c.loop-class.class in
    let store = c.args.store.now in
    let lanes = lanes_of c.args.pairs.now.items in
    let book = c.deref_mut-book.result.now in
    let value = c.deref_mut-book.ensures.value in
    let before = c.loop-class.out.items in
    let workers : book.workers ≡ store.workers = ap (λ (b : BookView). b.workers) value ∙ c.in-Ok.ensures.workers in
    let counts = moves_of_each store.workers book.sheet.history in
    let one : AreMovesOf store lanes class counts = record {
      book = book;
      of_class = subst (λ (b : BookView). IsOfClass class store.classes b) (sym value) c.in-Ok.ensures.class;
      counted = refl;
      told = subst (λ (ls : List LaneState). moves_of_lanes book.sheet ls ≡ lane_moves_told book.sheet ls) i.lanes c.meet_lanes.ensures.told;
    } in record {
      lanes = c.meet_lanes.ensures.lanes ∙ i.lanes;
      told = (
        moves ++ counts ∷ [],
        length_push moves counts ∙ ap (λ (n : ℕ). n + 1) count,
        inside class (length store.classes) c.in-Ok.ensures.none.1,
        each_push (AreMovesOf store lanes) moves counts each (subst (λ (n : ℕ). AreMovesOf store lanes n counts) (sym count) one),
        told_more moves_lines moves counts class c.args.out.now.items before c.put_class_moves.new.out.items count is
            (c.in_ok-put_class_moves.ensures
            ∙ ap (λ (b : BookView). before ++ moves_lines class (moves_of_each b.workers b.sheet.history)) c.meet_lanes.ensures.book
            ∙ ap (λ (told : List ℕ). before ++ moves_lines class told) (moves_stay (length c.loop-class.pairs.items) book)
            ∙ ap (λ (n : ℕ). before ++ moves_lines class (moves_of_each n book.sheet.history)) workers),
      );
    }
