use Rattle.std.proofs.Common.{◌≡◌, ℕ, ◌+◌, ◌-◌, ◌*◌, ◌<◌, List, length, length-set, set, refl, sym, ap, ◌∙◌, subst, arith, ◌≤◌}
use Rattle.std.proofs.Common.{rules}
use Rattle.cache_index.specs.Places.{home_of, nest_of, steps_to}
use Rattle.seen_words.specs.declared.views.Moment.{Moment}
use Rattle.seen_words.specs.Past.{PenView, note_of}
use Rattle.cache_index.specs.Views.{NestsView}
use Rattle.cache_index.proofs.StepsLemmas.{home_of-lt}
use Rattle.cache_index.specs.History.{AreNoted, IsReached}
use Rattle.cache_index.proofs.HistoryLemmas.{law_of, noted_are}
use Rattle.cache_index.proofs.KeepLemmas.{keep_noted, keep_same}
use Rattle.cache_index.proofs.WriterLemmas.{unpass_step, still_counts}
use Rattle.cache_index.proofs.nests.Nests.pass_no_more.Goals as goal

pub loop-steps-preserved : goal.loop-steps-preserved
loop-steps-preserved c =
    let nests = c.args.self.now.nests in
    let hash = c.args.hash in
    let home = home_of nests hash in
    let count : c.self.inside.count ≡ nests = ap (λ (v : NestsView). v.nests) c.self.view_is in
    let some : 0 < nests = omega (arith, count, c.self.invariant.1) in
    let in_home = home_of-lt nests hash c.ranges.hash.fits some in
    let in_steps : c.loop-steps.steps < nests = omega (
      arith,
      c.loop-steps-test.true,
      c.steps-steps-end.ensures.within,
    ) in
    let nearer : c.loop-steps.steps < steps_to nests home (nest_of c.args.place) =
    omega (arith, c.loop-steps-test.true, c.steps-steps-end.ensures.steps) in
    let full : length c.loop-steps.pen.words ≡ 8 * nests = c.loop-steps.invariant.1 in
    let same = ap (λ (p : PenView). p.words) c.read-passed.ensures.pen in
    let size : length c.write.new.pen.words ≡ length c.read-passed.new.pen.words =
    ap (λ (ws : List ℕ). length ws) c.write.ensures.words ∙ length-set c.read-passed.new.pen.words (8 * c.nest.result
    + 1) (c.read-passed.result - 1) in (
      search rules,
      size ∙ (ap (λ (ws : List ℕ). length ws) same ∙ full),
      unpass_step nests home c.loop-steps.steps c.nest.result c.read-passed.result c.args.pen.now.words
          c.loop-steps.pen.words c.read-passed.new.pen.words c.write.new.pen.words
          c.loop-steps.invariant.2 in_home in_steps c.nest.ensures.nest full
          (still_counts nests home c.loop-steps.steps (steps_to nests home (nest_of c.args.place)) c.nest.result
          c.args.pen.now.words
          c.loop-steps.pen.words c.loop-steps.invariant.2 in_home in_steps c.nest.ensures.nest nearer c.requires.passed)
          same c.read-passed.ensures.read c.write.ensures.words,
      noted_are _ _ (ap (λ (p : List Moment). note_of p) c.write.ensures.past),
    )

pub write-requires-clause-lawful : goal.write-requires-clause-lawful
write-requires-clause-lawful c =
    let nests = c.args.self.now.nests in
    let hash = c.args.hash in
    let home = home_of nests hash in
    let count : c.self.inside.count ≡ nests = ap (λ (v : NestsView). v.nests) c.self.view_is in
    let some : 0 < nests = omega (arith, count, c.self.invariant.1) in
    let in_home = home_of-lt nests hash c.ranges.hash.fits some in
    let in_steps : c.loop-steps.steps < nests = omega (
      arith,
      c.loop-steps-test.true,
      c.steps-steps-end.ensures.within,
    ) in
    let nearer : c.loop-steps.steps < steps_to nests home (nest_of c.args.place) =
    omega (arith, c.loop-steps-test.true, c.steps-steps-end.ensures.steps) in
    let near : c.loop-steps.steps + 1 ≤ steps_to nests home (nest_of c.args.place) = omega (arith, nearer) in
    let full : length c.loop-steps.pen.words ≡ 8 * nests = c.loop-steps.invariant.1 in
    let mid = c.read-passed.new.pen.words in
    let same = ap (λ (p : PenView). p.words) c.read-passed.ensures.pen in
    let next : List ℕ = set mid (8 * c.nest.result + 1) (c.read-passed.result - 1) in
    let size : length next ≡ 8 * nests =
    length-set mid (8 * c.nest.result + 1) (c.read-passed.result - 1) ∙ (ap (λ (ws : List ℕ). length ws) same ∙ full) in
    let ways = c.args.ways.now.items in
    let noted : AreNoted (note_of c.read-passed.new.pen.past) ways =
    subst (λ (p : PenView). AreNoted (note_of p.past) ways) (sym c.read-passed.ensures.pen) c.loop-steps.invariant.3 in
    let reached : IsReached nests next ways =
    c.requires.reached (c.loop-steps.steps + 1) next near
    (unpass_step nests home c.loop-steps.steps c.nest.result c.read-passed.result c.args.pen.now.words
    c.loop-steps.pen.words mid next c.loop-steps.invariant.2 in_home in_steps c.nest.ensures.nest full
    (still_counts nests home c.loop-steps.steps (steps_to nests home (nest_of c.args.place)) c.nest.result
    c.args.pen.now.words c.loop-steps.pen.words c.loop-steps.invariant.2 in_home in_steps c.nest.ensures.nest nearer
    c.requires.passed) same c.read-passed.ensures.read refl) in
    law_of nests next ways c.read-passed.new.pen.past size reached
    (keep_noted _ ways ways noted (keep_same nests next ways reached))
