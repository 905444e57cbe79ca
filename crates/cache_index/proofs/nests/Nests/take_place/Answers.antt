use Rattle.std.proofs.Common.{◌≡◌, ℕ, ◌+◌, ◌*◌, ◌^◌, ◌<◌, List, length, length-set, set, refl, sym, ap, ◌∙◌, subst, arith, rules}
use Rattle.cache_index.specs.Changes.{OneMorePassed}
use Rattle.cache_index.specs.Places.{home_of, nest_of, passed_at, steps_to}
use Rattle.seen_words.specs.declared.views.Moment.{Moment}
use Rattle.seen_words.specs.Past.{PenView, note_of}
use Rattle.cache_index.specs.Views.{NestsView}
use Rattle.cache_index.specs.History.{AreNoted}
use Rattle.cache_index.proofs.HistoryLemmas.{law_of, noted_are, pass_reached}
use Rattle.cache_index.proofs.KeepLemmas.{keep_noted, keep_same}
use Rattle.cache_index.proofs.StepsLemmas.{home_of-lt, not_yet, steps_to-nest_behind}
use Rattle.cache_index.proofs.WriterLemmas.{all_on, on_step, pass_step}
use Rattle.cache_index.proofs.nests.Nests.take_place.Goals as goal

pub loop-steps-preserved : goal.loop-steps-preserved
loop-steps-preserved c =
    let nests = c.args.self.now.nests in
    let home = home_of nests c.args.hash in
    let before = c.args.pen.now.words in
    let nest = c.nest-nest.result in
    let count : c.self.inside.count ≡ nests = ap (λ (v : NestsView). v.nests) c.self.view_is in
    let some : 0 < nests = omega (arith, count, c.self.invariant.1) in
    let in_home = home_of-lt nests c.args.hash c.ranges.hash.fits some in
    let in_steps : c.loop-steps.steps < nests = omega (arith, c.loop-steps-test.true, count) in
    let full : length c.loop-steps.pen.words ≡ 8 * nests = c.loop-steps.invariant.1 in
    let so_far = c.loop-steps.invariant.2 in
    let looked = ap (λ (p : PenView). p.words) c.lane-lane.ensures.pen in
    let same = ap (λ (p : PenView). p.words) c.read-passed.ensures.pen ∙ looked in
    let value = c.read-passed.ensures.read ∙ ap (λ (ws : List ℕ). passed_at ws nest) looked in
    let size : length c.write.new.pen.words ≡ length c.read-passed.new.pen.words =
    ap (λ (ws : List ℕ). length ws) c.write.ensures.words
    ∙ length-set c.read-passed.new.pen.words (8 * nest + 1) (c.read-passed.result + 1) in (
      search rules,
      size ∙ (ap (λ (ws : List ℕ). length ws) same ∙ full),
      pass_step nests home c.loop-steps.steps nest c.read-passed.result before c.loop-steps.pen.words
          c.read-passed.new.pen.words c.write.new.pen.words so_far in_home in_steps c.nest-nest.ensures.nest full same
          value c.write.ensures.words,
      on_step nests home c.loop-steps.steps nest c.lane-lane.result before c.loop-steps.pen.words so_far
          c.nest-nest.ensures.nest c.if-lane-lt-LANES.false c.lane-lane.ensures.others c.loop-steps.invariant.3,
      noted_are _ _ (ap (λ (p : List Moment). note_of p) c.write.ensures.past),
    )

pub returns-clause-full : goal.returns-clause-full
returns-clause-full c =
    let nests = c.args.self.now.nests in
    let count : c.self.inside.count ≡ nests = ap (λ (v : NestsView). v.nests) c.self.view_is in
    let some : 0 < nests = omega (arith, count, c.self.invariant.1) in
    all_on nests (home_of nests c.args.hash) c.args.pen.now.words c.loop-steps.steps
    (home_of-lt nests c.args.hash c.ranges.hash.fits some) (omega (arith, count, c.loop-steps-test.false))
    c.loop-steps.invariant.3

pub write-requires-clause-lawful : goal.write-requires-clause-lawful
write-requires-clause-lawful c =
    let nests = c.args.self.now.nests in
    let home = home_of nests c.args.hash in
    let before = c.args.pen.now.words in
    let nest = c.nest-nest.result in
    let count : c.self.inside.count ≡ nests = ap (λ (v : NestsView). v.nests) c.self.view_is in
    let some : 0 < nests = omega (arith, count, c.self.invariant.1) in
    let in_home = home_of-lt nests c.args.hash c.ranges.hash.fits some in
    let in_steps : c.loop-steps.steps < nests = omega (arith, c.loop-steps-test.true, count) in
    let full : length c.loop-steps.pen.words ≡ 8 * nests = c.loop-steps.invariant.1 in
    let looked = ap (λ (p : PenView). p.words) c.lane-lane.ensures.pen in
    let mid = c.read-passed.new.pen.words in
    let same = ap (λ (p : PenView). p.words) c.read-passed.ensures.pen ∙ looked in
    let value = c.read-passed.ensures.read ∙ ap (λ (ws : List ℕ). passed_at ws nest) looked in
    let next : List ℕ = set mid (8 * nest + 1) (c.read-passed.result + 1) in
    let size : length next ≡ 8 * nests =
    length-set mid (8 * nest + 1) (c.read-passed.result + 1) ∙ (ap (λ (ws : List ℕ). length ws) same ∙ full) in
    let ways = c.args.ways.now.items in
    let noted : AreNoted (note_of c.read-passed.new.pen.past) ways =
    subst (λ (p : PenView). AreNoted (note_of p.past) ways) (sym (c.read-passed.ensures.pen ∙ c.lane-lane.ensures.pen))
    c.loop-steps.invariant.4 in
    law_of nests next ways c.read-passed.new.pen.past size
    (pass_reached nests home (c.loop-steps.steps + 1) before next c.args.ways.now.items c.requires.reached
    (pass_step nests home c.loop-steps.steps nest c.read-passed.result before c.loop-steps.pen.words mid next
    c.loop-steps.invariant.2 in_home in_steps c.nest-nest.ensures.nest full same value refl))
    (keep_noted _ ways ways noted (keep_same nests before ways c.requires.reached))

pub returns-then-lane-lt-LANES-clause-words : goal.returns-then-lane-lt-LANES-clause-words
returns-then-lane-lt-LANES-clause-words c =
    let nests = c.args.self.now.nests in
    let home = home_of nests c.args.hash in
    let nest = c.nest-nest.result in
    let count : c.self.inside.count ≡ nests = ap (λ (v : NestsView). v.nests) c.self.view_is in
    let some : 0 < nests = omega (arith, count, c.self.invariant.1) in
    let in_home = home_of-lt nests c.args.hash c.ranges.hash.fits some in
    let in_steps : c.loop-steps.steps < nests = omega (arith, c.loop-steps-test.true, count) in
    let here : nest_of (8 * nest + 2 + c.lane-lane.result) ≡ nest = omega (arith, c.if-lane-lt-LANES.true) in
    let steps : c.loop-steps.steps ≡ steps_to nests home (nest_of (8 * nest + 2 + c.lane-lane.result)) =
    sym (ap (λ (n : ℕ). steps_to nests home n) (here ∙ c.nest-nest.ensures.nest)
    ∙ steps_to-nest_behind nests home c.loop-steps.steps in_home in_steps) in
    subst (λ (n : ℕ). OneMorePassed nests home n c.args.pen.now.words c.lane-lane.new.pen.words) steps
    (subst (λ (p : PenView). OneMorePassed nests home c.loop-steps.steps c.args.pen.now.words p.words)
    (sym c.lane-lane.ensures.pen) c.loop-steps.invariant.2)

pub overflow_add-passed : goal.overflow_add-passed
overflow_add-passed c =
    let nests = c.args.self.now.nests in
    let home = home_of nests c.args.hash in
    let before = c.args.pen.now.words in
    let nest = c.nest-nest.result in
    let count : c.self.inside.count ≡ nests = ap (λ (v : NestsView). v.nests) c.self.view_is in
    let some : 0 < nests = omega (arith, count, c.self.invariant.1) in
    let in_home = home_of-lt nests c.args.hash c.ranges.hash.fits some in
    let in_steps : c.loop-steps.steps < nests = omega (arith, c.loop-steps-test.true, count) in
    let looked = ap (λ (p : PenView). p.words) c.lane-lane.ensures.pen in
    let value : c.read-passed.result ≡ passed_at c.loop-steps.pen.words nest =
    c.read-passed.ensures.read ∙ ap (λ (ws : List ℕ). passed_at ws nest) looked in
    let same = not_yet nests home c.loop-steps.steps nest before c.loop-steps.pen.words c.loop-steps.invariant.2 in_home
    in_steps c.nest-nest.ensures.nest in
    let few : passed_at before nest < 2 ^ 32 = c.requires.few nest c.nest-nest.ensures.within in
    omega (arith, value, same, few)
