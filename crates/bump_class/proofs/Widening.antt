-- Further words of a chunk: those that are stored one by one, and what the life that begins then has.
use Rattle.std.proofs.Common.{◌≡◌, ℕ, zero, suc, ◌+◌, ◌<◌, Bool, List, [], ◌∷◌, ◌++◌, get_or, drop, length, if◌then◌else◌, refl, sym, ap, ◌∙◌, arith, append_assoc, append-nil, eq-eqb, ne_eqb}
use Rattle.bump_rules.specs.declared.labels.LabelStep.{LabelStep}
use Rattle.bump_rules.specs.declared.labels.LabelStep.TheVariants.{Stored}
use Rattle.bump_rules.specs.Labels.{label_word}
use Rattle.bump_steps.specs.declared.views.ClassSheet.{ClassSheet}
use Rattle.bump_steps.specs.declared.views.WordStep.{WordStep}
use Rattle.bump_steps.specs.declared.views.WordStep.TheVariants.{Put}
use Rattle.bump_steps.specs.Views.{of_word}
use Rattle.bump_steps.proofs.LabelLists.{of_word_put, word_stored}
use Rattle.bump_class.specs.Changes.{puts, put_steps}

-- the word that was stored last is the one that a chunk has
pub just_stored : (c : ℕ) (ls : List LabelStep) (x : ℕ) → label_word c 0 (ls ++ Stored c x ∷ []) ≡ x
just_stored c ls x = word_stored c 0 ls c x ∙ ap (λ (b : Bool). if b then x else label_word c 0 ls) (eq-eqb c c refl)

-- those below i stay
stays : (c i j : ℕ) (xs : List ℕ) (ws : List WordStep) → j < i
    → label_word c 0 (of_word j (ws ++ puts c i xs)) ≡ label_word c 0 (of_word j ws)
stays c i j [] ws low = ap (λ (l : List WordStep). label_word c 0 (of_word j l)) (append-nil ws)
stays c i j (x ∷ xs) ws low = ap (λ (l : List WordStep). label_word c 0 (of_word j l))
    (sym (append_assoc ws (Put c i x ∷ []) (puts c (suc i) xs)))
    ∙ stays c (suc i) j xs (ws ++ Put c i x ∷ []) (omega (arith, low))
    ∙ ap (label_word c 0) (of_word_put j ws c i x
    ∙ ap (λ (b : Bool). if b then of_word j ws ++ Stored c x ∷ [] else of_word j ws)
    (ne_eqb i j (λ e. omega (arith, e, low))))

-- and each of the others is the one given
pub last_put : (c i j : ℕ) (xs : List ℕ) (ws : List WordStep) → j < length xs
    → label_word c 0 (of_word (i + j) (ws ++ puts c i xs)) ≡ get_or xs j 0
last_put c i j [] ws low = absurd (omega (arith, low))
last_put c i zero (x ∷ xs) ws low = ap (λ (l : List WordStep). label_word c 0 (of_word (i + 0) l))
    (sym (append_assoc ws (Put c i x ∷ []) (puts c (suc i) xs)))
    ∙ stays c (suc i) (i + 0) xs (ws ++ Put c i x ∷ []) (omega arith)
    ∙ ap (label_word c 0) (of_word_put (i + 0) ws c i x
    ∙ ap (λ (b : Bool). if b then of_word (i + 0) ws ++ Stored c x ∷ [] else of_word (i + 0) ws)
    (eq-eqb i (i + 0) (omega arith)))
    ∙ just_stored c (of_word (i + 0) ws) x
last_put c i (suc j) (x ∷ xs) ws low = ap (λ (l : List WordStep). label_word c 0 (of_word (i + suc j) l))
    (sym (append_assoc ws (Put c i x ∷ []) (puts c (suc i) xs)))
    ∙ ap (λ (n : ℕ). label_word c 0 (of_word n ((ws ++ Put c i x ∷ []) ++ puts c (suc i) xs))) (omega arith)
    ∙ last_put c (suc i) j xs (ws ++ Put c i x ∷ []) (omega (arith, low))

-- how far the loop is that stores them
pub record Putting (chunk index : ℕ) (xs : List ℕ) (from now : ClassSheet) : Type 0 where
  pub words : now.words ++ puts chunk index (drop index xs) ≡ from.words ++ puts chunk 0 xs
  pub steps : now.steps ++ put_steps chunk (drop index xs) ≡ from.steps ++ put_steps chunk xs
  pub rest : now ≡ record from { words = now.words; steps = now.steps }

pub putting_starts : (chunk : ℕ) (xs : List ℕ) (k : ClassSheet) → Putting chunk 0 xs k k
putting_starts chunk xs k = record { words = refl; steps = refl; rest = refl }
