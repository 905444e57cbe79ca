use Rattle.std.proofs.Common.{◌≡◌, ℕ, ◌*◌, ◌<◌, List, length, sym, ap, ◌∙◌, subst}
use Rattle.std.specs.Arc.{arc_value}
use Rattle.seen_words.specs.declared.views.Moment.{Moment}
use Rattle.seen_words.specs.Past.{note_of}
use Rattle.seen_words.specs.Windows.{AtLast}
use Rattle.cache_index.specs.History.{AreNoted, LeadsAll}
use Rattle.cache_index.specs.Views.{IndexReaderView, IndexView, NestsView}
use Rattle.cache_index.proofs.EyeLemmas.{sees_all, some_nests}
use Rattle.cache_index.proofs.from_zero.IndexFromZero.reader.Goals as goal

pub returns-clause-sees : goal.returns-clause-sees
returns-clause-sees c =
    let nests = (arc_value c.self.inside.nests).nests in
    let ways = c.self.inside.ways.items in
    let seen = c.eye-eye.result.seen in
    subst (λ (v : IndexView). AtLast (LeadsAll 0 v.table) seen) c.self.view_is
    (sees_all nests c.self.inside.pen.words ways seen c.self.invariant.1 (some_nests nests ways c.self.invariant.2)
    (sym c.eye-eye.ensures.words)
    (subst (λ (past : List Moment). AreNoted (note_of past) ways) (sym c.eye-eye.ensures.seen) c.self.invariant.3))

pub returns-clause-eye : goal.returns-clause-eye
returns-clause-eye c =
    let nests = (arc_value c.self.inside.nests).nests in
    let same : c.new.result.nests ≡ nests =
    ap (λ (r : IndexReaderView). r.nests) c.new.ensures ∙ ap (λ (v : NestsView). v.nests) c.in_ok-nests.ensures in
    record {
      table = c.eye-eye.ensures.table ∙ (ap (λ (v : NestsView). v.table) c.deref.ensures
          ∙ sym (ap (λ (r : IndexReaderView). r.table) c.new.ensures ∙ ap (λ (v : NestsView). v.table) c.in_ok-nests.ensures));
      size = ap (λ (ws : List ℕ). length ws) c.eye-eye.ensures.words
          ∙ (c.self.invariant.1.size ∙ ap (λ (n : ℕ). 8 * n) (sym same));
      some = subst (λ (n : ℕ). 0 < n) (sym same) (some_nests nests c.self.inside.ways.items c.self.invariant.2);
    }
