use Rattle.std.proofs.Common.{◌≡◌, ℕ, suc, Some, ap, ◌∙◌}
use Rattle.bump_steps.specs.Views.{last_label, last_word, last_words}
use Rattle.bump_heads.specs.declared.views.ClassView.{ClassView}
use Rattle.bump_heads.specs.Applying.{seat_after_put_time}
use Rattle.bump_class.proofs.Widening.{just_stored}
use Rattle.bump_class.proofs.linking.open_item.Goals as goal

-- the label and the further words before the life begins
pub open_life_in-requires-clause-law : goal.open_life_in-requires-clause-law
open_life_in-requires-clause-law g c =
    let at = c.args.chunk in
    let word : ℕ → ClassView → ℕ = λ i v. last_word i v.sheet at in
    let same : (i : ℕ) → word i c.put_time.new.self ≡ word i (seat_after_put_time at c.args.now c.put_label.new.self) =
    λ i. ap (word i) c.put_time.ensures.timed in
    let stored : (i : ℕ) → word i (seat_after_put_time at c.args.now c.put_label.new.self) ≡ _ =
    λ i. ap (λ v. word i (seat_after_put_time at c.args.now v)) c.put_label.ensures.labelled in
    let last = just_stored at c.args.seat.now.sheet.labels c.args.label in
    c.requires.law (last_words c.put_time.new.self.sheet at) (same 0 ∙ (stored 0 ∙ last))
    (λ j. same (suc j) ∙ stored (suc j))

pub returns-clause-label : goal.returns-clause-label
returns-clause-label g c =
    let at = c.args.chunk in
    let word : ClassView → ℕ = λ v. last_label v.sheet at in
    let timed = ap word c.put_time.ensures.timed in
    let stored = ap (λ v. word (seat_after_put_time at c.args.now v)) c.put_label.ensures.labelled in
    let last = just_stored at c.args.seat.now.sheet.labels c.args.label in
    c.open_life_in.ensures.label ∙ ap (λ (x : ℕ). Some x) (timed ∙ (stored ∙ last))

pub returns-clause-words : goal.returns-clause-words
returns-clause-words g c j =
    let at = c.args.chunk in
    let word : ClassView → ℕ = λ v. last_word (suc j) v.sheet at in
    let timed = ap word c.put_time.ensures.timed in
    let stored = ap (λ v. word (seat_after_put_time at c.args.now v)) c.put_label.ensures.labelled in
    c.open_life_in.ensures.words j ∙ ap (λ (x : ℕ). Some x) (timed ∙ stored)
