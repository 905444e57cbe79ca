-- Looks of a class's seat at a chunk's label and further words: by the rule each is what the class stored last.
use Rattle.std.proofs.Common.{◌≡◌, ℕ, suc, ◌+◌, ◌<◌, ◌&&◌, eqb, not, Bool, true, false, refl, ap, arith, eqb-true}
use mathlib.Core.Option.{none}
use Rattle.atomic_table.specs.Table.{step, Allows}
use Rattle.bump_rules.specs.declared.configs.Config.{Config}
use Rattle.bump_rules.specs.Lawful.{bit}
use Rattle.bump_rules.specs.Totals.{total}
use Rattle.bump_steps.specs.declared.views.Kind.TheVariants as kind
use Rattle.bump_steps.specs.declared.views.ClassSheet.{ClassSheet}
use Rattle.bump_steps.specs.declared.views.View.{View}
use Rattle.bump_steps.specs.Views.{Measure, mislabels, owns, last_word}
use Rattle.bump_steps.specs.Rule.{RowPredicate, Sound, chunks, Kept}
use Rattle.bump_steps.specs.Places.{head_place}
use Rattle.bump_steps.specs.Plays.{Sat, on_label, on_word}
use Rattle.bump_steps.specs.Sights.{IsStoredLast, label_sight_tells, word_sight_tells}
use Rattle.bump_steps.proofs.Frame.{Amid, on_words_load}
use Rattle.bump_steps.proofs.Looking.{reaches_by_look}
use Rattle.bump_steps.proofs.StepLemmas.{at_label, at_word}

-- where no owner has another word, this one has it
equal_where : (own b : Bool) → own ≡ true → bit (own && not b) ≡ 0 → b ≡ true
equal_where true true o e = refl
equal_where true false o e = absurd (omega arith)
equal_where false b o e = absurd (cc o)

-- where the rule holds, the class that has the chunk stored its word i last
pub stored_last : {law : RowPredicate} (c i limit n : ℕ) (x : ℕ → ℕ) (v : View) (t : Measure → ℕ) → Sound law limit n x t → Amid c v t
    → IsStoredLast i c v (x i)
stored_last c i limit n x v t o a k ks mine =
    eqb-true _ _ (equal_where (owns c k) (eqb (last_word i k c) (x i)) mine (omega (
      arith,
      a.mine (mislabels i (x i)),
      o.labelled i,
      ap (total (λ (k : ClassSheet). bit (owns c k && not (eqb (last_word i k c) (x i))))) ks,
    )))

module _ {law : RowPredicate} (key : Config) (slots id : ℕ) (m : Sat) (c : ℕ) (near : c < chunks key) where
  -- any class may look at any label
  pub may_see_label : Allows (Kept law key) slots id m (head_place slots c + (2 + 0)) (λ y. y)
      (on_label label_sight_tells (step slots (head_place slots c + (2 + 0)) 0 0 none) m)
  may_see_label = at_label label_sight_tells key slots id m c 0 (λ y. y) (λ y. y)
      (on_words_load key slots id m c 0 (λ y w. label_sight_tells c 0 m y w) (omega arith) near (λ n x t limits o a.
      reaches_by_look key slots id m c near kind.SeeLabel (x 0) n x t (label_sight_tells c 0 m (x 0)) o
      (refl, stored_last c 0 key.refs_limit n x m.0 t o a)))

  -- and at any further word
  pub may_see_word : (j : ℕ) → j < slots → Allows (Kept law key) slots id m (head_place slots c + (2 + suc j)) (λ y. y)
      (on_word word_sight_tells (step slots (head_place slots c + (2 + suc j)) 0 0 none) m)
  may_see_word j low = at_word word_sight_tells key slots id m c j 0 (λ y. y) (λ y. y) low
      (on_words_load key slots id m c (suc j) (λ y w. word_sight_tells j c 0 m y w) (omega (arith, low)) near
      (λ n x t limits o a. reaches_by_look key slots id m c near kind.SeeWord (x (suc j)) n x t
      (word_sight_tells j c 0 m (x (suc j))) o (refl, stored_last c (suc j) key.refs_limit n x m.0 t o a)))
