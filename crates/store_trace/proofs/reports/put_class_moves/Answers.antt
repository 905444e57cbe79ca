use Rattle.std.proofs.Common.{◌++◌, ℕ, ◌+◌, List, sym, ap, ◌∙◌, arith}
use Rattle.std.proofs.lemmas.List.FromFn.{map-range_with_len_more, length-map-range_with_len}
use Rattle.bump_rules.specs.Entries.{moves_of}
use Rattle.trace_lines.specs.Text.{moves_line}
use Rattle.store_trace.specs.Reports.{moves_lines, moves_of_each}
use Rattle.store_trace.proofs.NumberedTexts.{told_more}
use Rattle.store_trace.proofs.reports.put_class_moves.Goals as goal

pub loop-worker-preserved : goal.loop-worker-preserved
loop-worker-preserved g c =
    let class = c.args.class in
    let worker = c.loop-worker.worker in
    let history = c.args.book.now.sheet.history in
    let told = λ (w : ℕ). moves_of w history in
    told_more (moves_line class) (moves_of_each worker history) (told worker) worker c.args.out.now.items c.loop-worker.out.items
    c.put_moves.new.out.items (length-map-range_with_len told 0 worker) c.loop-worker.invariant
    (c.in_ok-put_moves.ensures ∙ ap (λ (n : ℕ). c.loop-worker.out.items ++ moves_line class worker n) c.moves.ensures)
    ∙ ap (λ (counts : List ℕ). c.args.out.now.items ++ moves_lines class counts) (sym (map-range_with_len_more told 0 worker worker (omega arith)))
