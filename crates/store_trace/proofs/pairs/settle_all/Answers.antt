use Rattle.std.proofs.Common.{◌≡◌, ℕ, ◌+◌, ◌<◌, suc, None, length, take, sym, ◌∙◌, subst, arith}
use Rattle.std.specs.List.{All}
use Rattle.std.specs.Prelude.{slice_set}
use Rattle.std.proofs.lemmas.List.{length-set, take_more_set}
use Rattle.std.proofs.lemmas.List.Elements.{All-push}
use Rattle.store_trace.specs.Reports.{IsLaterLane}
use Rattle.store_trace.specs.declared.pairs.Pair.{Pair}
use Rattle.store_trace.proofs.InTurn.{ChangedSoFar, changed_next, all_changed}
use Rattle.store_trace.proofs.pairs.settle_all.Goals as goal

pub loop-at-preserved : goal.loop-at-preserved
loop-at-preserved g c =
    let i = c.loop-at.invariant in
    let at = c.loop-at.at in
    let R = λ (before after : Pair g.row.N.Denot). IsLaterLane before.lane after.lane in
    let P = λ (pair : Pair g.row.N.Denot). pair.worker ≡ None in
    let befores = c.args.pairs.now.items in
    let afters = c.loop-at.pairs.items in
    let before = c.index_mut.result.now in
    let after = c.settle.new.self in
    let low : at < length befores = omega (arith, c.loop-at-test.true, i.end) in
    let inside : at < length afters = omega (arith, low, i.count) in
    let one : R before after = c.settle.ensures.later in
    let next : suc at ≡ at + 1 = omega arith in record {
      count = length-set afters at after ∙ i.count;
      closed = subst (All P) (sym (take_more_set afters at after inside)) (All-push P (take at afters) after i.closed c.settle.ensures.closed);
      later = subst (λ (n : ℕ). ChangedSoFar R n befores (slice_set afters at after)) next
          (changed_next R at befores afters after before i.later low (subst (λ (p : Pair g.row.N.Denot). R p after) c.index_mut.ensures.value one));
      end = i.end;
      place = omega (arith, low);
    }

pub returns-clause-later : goal.returns-clause-later
returns-clause-later g c =
    let i = c.loop-at.invariant in
    let R = λ (before after : Pair g.row.N.Denot). IsLaterLane before.lane after.lane in
    let befores = c.args.pairs.now.items in
    let all : c.loop-at.at ≡ length befores = omega (arith, i.end, i.place, c.loop-at-test.false) in
    all_changed R befores c.loop-at.pairs.items (subst (λ (n : ℕ). ChangedSoFar R n befores c.loop-at.pairs.items) all i.later)
