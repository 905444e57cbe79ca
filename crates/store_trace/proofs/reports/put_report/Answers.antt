use Rattle.std.proofs.Common.{◌≡◌, ℕ, ◌++◌, List, None, length, map, sym, ap, ◌∙◌, subst, append_assoc, refl}
use Rattle.std.specs.List.{All, AllZip}
use Rattle.std.proofs.lemmas.List.{length-map}
use Rattle.std.proofs.lemmas.List.Elements.{All-map, All-same, All-weaker}
use Rattle.bump_rules.specs.declared.configs.Config.{Config}
use Rattle.bump_store.specs.Finishing.{AreOfClasses, sum_of}
use Rattle.bump_store.specs.declared.finishing.ClassSizes.{ClassSizes}
use Rattle.store_trace.specs.Pairs.{lanes_of}
use Rattle.store_trace.specs.Reports.{numbered_text, worker_line, total_line, moves_lines, sizes_line, settled_told, AreMoves, IsLaterLane, IsReport}
use Rattle.store_trace.specs.Settled.{IsSettled}
use Rattle.store_trace.specs.declared.pairs.Pair.{Pair}
use Rattle.store_trace.specs.declared.totals.Totals.{Totals}
use Rattle.store_trace.proofs.InTurn.{zip_seen}
use Rattle.store_trace.proofs.reports.put_report.Goals as goal

-- four texts, one behind the other
behind_each_other : (old w t m s one two three four : List ℕ) → one ≡ old ++ w → two ≡ one ++ t → three ≡ two ++ m → four ≡ three ++ s
    → four ≡ old ++ (w ++ t ++ m ++ s)
behind_each_other old w t m s one two three four is_one is_two is_three is_four =
    is_four ∙ ap (λ (xs : List ℕ). xs ++ s) (is_three ∙ ap (λ (xs : List ℕ). xs ++ m) (is_two ∙ ap (λ (xs : List ℕ). xs ++ t) is_one))
    ∙ simp append_assoc

module _ {N : Type 0} (pairs : List (Pair N)) (closed : All (λ (pair : Pair N). pair.worker ≡ None) pairs) where
  -- of workers that were closed it is told what they came to
  all_settled : All IsSettled (map (λ (pair : Pair N). settled_told pair.worker pair.lane pair.settled) pairs)
  all_settled =
      All-map IsSettled (λ (pair : Pair N). settled_told pair.worker pair.lane pair.settled) pairs
      (All-weaker (λ (pair : Pair N). pair.worker ≡ None) (λ (pair : Pair N). IsSettled (settled_told pair.worker pair.lane pair.settled))
      (λ pair none. subst (λ worker. IsSettled (settled_told worker pair.lane pair.settled)) (sym none) pair.adds_up) pairs closed)

  -- the report, by its parts
  reported : (config : Config) (totals : Totals) (moves : List (List ℕ)) (sizes : List ClassSizes) → length pairs ≡ config.workers
      → AreMoves config (lanes_of pairs) moves → AreOfClasses config.classes sizes → map sum_of sizes ≡ map (λ class. class.chunks) config.classes
      → IsReport config (lanes_of pairs) totals (numbered_text worker_line 0 (map (λ (pair : Pair N). settled_told pair.worker pair.lane pair.settled) pairs)
      ++ total_line totals ++ numbered_text moves_lines 0 moves ++ numbered_text sizes_line 0 sizes)
  reported config totals moves sizes each moved of_classes sums = record {
    workers = map (λ (pair : Pair N). settled_told pair.worker pair.lane pair.settled) pairs;
    moves = moves;
    sizes = sizes;
    lines = refl;
    each = length-map pairs (λ (pair : Pair N). settled_told pair.worker pair.lane pair.settled) ∙ each;
    settled = all_settled;
    moved = moved;
    of_classes = of_classes;
    sums = sums;
  }

pub returns : goal.returns
returns g c =
    let N = g.row.N.Denot in
    let before = c.settle_all.new.pairs.items in
    let pairs = c.deref.result.now in
    let same = c.deref.ensures.value in
    let (moves, moved, is_three) = c.in_ok-put_all_moves.ensures.moves in
    let sizes = c.in-Ok.all.items in
    let closed : All (λ (pair : Pair N). pair.worker ≡ None) pairs = All-same (λ (pair : Pair N). pair.worker ≡ None) pairs before same c.in_ok-_applied.ensures.closed in
    let all_moved : AreMoves c.args.store (lanes_of pairs) moves = subst (λ (ps : List (Pair N)). AreMoves c.args.store (lanes_of ps) moves) (sym same) moved in
    let later : AllZip IsLaterLane (lanes_of c.args.pairs.items) (lanes_of pairs) =
    subst (λ (ps : List (Pair N)). AllZip IsLaterLane (lanes_of c.args.pairs.items) (lanes_of ps)) (sym same)
    (zip_seen IsLaterLane (λ (p : Pair N). p.lane) (λ (p : Pair N). p.lane) c.args.pairs.items before c.in_ok-_applied.ensures.later) in
    record {
      report = (
        _,
        lanes_of pairs,
        reported pairs closed c.args.store c.args.totals moves sizes (ap length same ∙ c.settle_all.ensures.count ∙ c.requires.workers)
            all_moved c.in-Ok.ensures.books c.in-Ok.ensures.sums,
        later,
        behind_each_other c.args.out.now.items (numbered_text worker_line 0 (map (λ (pair : Pair N). settled_told pair.worker pair.lane pair.settled) pairs))
            (total_line c.args.totals) (numbered_text moves_lines 0 moves) (numbered_text sizes_line 0 sizes)
            c.put_workers.new.out.items c.put_total.new.out.items c.put_all_moves.new.out.items c.put_all_sizes.new.out.items
            c.in_ok-put_workers.ensures c.in_ok-put_total.ensures is_three
            (c.in_ok-put_all_sizes.ensures ∙ ap (λ (xs : List ClassSizes). c.put_all_moves.new.out.items ++ numbered_text sizes_line 0 xs) c.deref-2.ensures.value),
      );
    }
