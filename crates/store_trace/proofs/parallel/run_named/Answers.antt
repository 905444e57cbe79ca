use Rattle.std.proofs.Common.{ℕ, List, ◌++◌, sym, ap, ◌∙◌, subst}
use Rattle.trace_lines.specs.Counted.{inner_of}
use Rattle.model_state.specs.Opening.{new_state}
use Rattle.bump_trace.specs.Gathering.{Gathers}
use Rattle.bump_trace.specs.Meaning.{parts_of}
use Rattle.bump_trace.specs.Stages.{StoreState, Open, nameless}
use Rattle.store_trace.specs.Endings.{EndsAt, Whole}
use Rattle.store_trace.proofs.ToldText.{tells_report}
use Rattle.store_trace.proofs.parallel.run_named.Goals as goal

pub returns-clause-text : goal.returns-clause-text
returns-clause-text g c =
    let mid = (g.W.Sink.contents (inner_of c.run_all-ended.new.writer)) in
    let holds = (g.W.Sink.contents (inner_of c.gather.new.writer)) in
    let place = c.args.beginning.now.place in
    let told = rw c.in-Some.is at c.in_ok-totals.ensures.told in
    let (store, is_state, ends) = rw c.in-Some.is at c.in_ok-totals.ensures.whole in
    let (report, lanes, is_report, later, is) = c.in-Ok.ensures.report in
    let same = c.finish-store.ensures.store ∙ c.in_ok-totals.ensures.store in
    tells_report (g.W.Sink.contents (inner_of c.args.writer.now)) mid holds c.args.gathered.now.items c.run_all-ended.new.gathered.items c.gather.new.gathered.items told
    place.number (parts_of place.rest.now) (Open (nameless (new_state c.args.beginning.now.config)))
    c.finish-store.result.0 lanes c.in-Some.field-0.totals store report (is_state ∙ sym (ap new_state same)) is_report
    (subst (λ (s : StoreState). EndsAt place.number (parts_of place.rest.now) (Open s) (Whole store)) c.in_ok-open_store.ensures.seen ends)
    (subst (λ (t : List ℕ). Gathers mid holds c.run_all-ended.new.gathered.items c.gather.new.gathered.items t)
    (c.deref.ensures.value ∙ is ∙ ap (λ (l : List ℕ). l ++ report) c.new-text.ensures.items) c.in_ok-gather.ensures.ok)
