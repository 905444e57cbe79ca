-- Labels and lives' labels after one more step.
use Rattle.std.proofs.Common.{◌≡◌, ◌≢◌, ℕ, zero, suc, eqb, Bool, true, false, List, [], ◌∷◌, ◌++◌, Option, Some, None, if◌then◌else◌, refl, sym, ap, ◌∙◌, eq-eqb, ne_eqb}
use Rattle.bump_rules.specs.declared.items.ItemId.{ItemId}
use Rattle.bump_rules.specs.declared.labels.LabelStep.{LabelStep}
use Rattle.bump_rules.specs.declared.labels.LabelStep.TheVariants.{Stored, Linked}
use Rattle.bump_rules.specs.Labels.{label_of_life, label_word}
use Rattle.bump_rules.specs.Lives.{is_same}
use Rattle.bump_steps.specs.declared.views.WordStep.{WordStep}
use Rattle.bump_steps.specs.declared.views.WordStep.TheVariants.{Put, Begun}
use Rattle.bump_steps.specs.Views.{of_word, labels_of}

-- a label that is stored is its chunk's label
pub word_stored : (c x : ℕ) (ls : List LabelStep) (d y : ℕ) → label_word c x (ls ++ Stored d y ∷ [])
    ≡ (if eqb d c then y else label_word c x ls)
word_stored c x [] d y = refl
word_stored c x (Stored e z ∷ ls) d y = word_stored c (if eqb e c then z else x) ls d y
word_stored c x (Linked m ∷ ls) d y = word_stored c x ls d y

-- a life that begins stores none
pub word_linked : (c x : ℕ) (ls : List LabelStep) (m : ItemId) → label_word c x (ls ++ Linked m ∷ []) ≡ label_word c x
    ls
word_linked c x [] m = refl
word_linked c x (Stored e z ∷ ls) m = word_linked c (if eqb e c then z else x) ls m
word_linked c x (Linked n ∷ ls) m = word_linked c x ls m

-- where a life began before, or not at all, its label is the same
same_where : (b : Bool) (x : ℕ) (p q : Option ℕ) → p ≡ q → (if b then Some x else p) ≡ (if b then Some x else q)
same_where b x p q e = ap (λ (o : Option ℕ). if b then Some x else o) e

-- a label that is stored is that of no life that began
pub life_stored : (l : ItemId) (x : ℕ) (ls : List LabelStep) (d y : ℕ) → label_of_life l x (ls ++ Stored d y ∷ [])
    ≡ label_of_life l x ls
life_stored l x [] d y = refl
life_stored l x (Stored e z ∷ ls) d y = life_stored l (if eqb e l.chunk then z else x) ls d y
life_stored l x (Linked n ∷ ls) d y = same_where (is_same l n) x (label_of_life l x (ls ++ Stored d y ∷ []))
    (label_of_life l x ls) (life_stored l x ls d y)

-- nor does a life get one by the beginning of another
pub life_linked_else : (l : ItemId) (x : ℕ) (ls : List LabelStep) (m : ItemId) → is_same l m ≡ false
    → label_of_life l x (ls ++ Linked m ∷ []) ≡ label_of_life l x ls
life_linked_else l x [] m other = ap (λ (b : Bool). if b then Some x else None) other
life_linked_else l x (Stored e z ∷ ls) m other = life_linked_else l (if eqb e l.chunk then z else x) ls m other
life_linked_else l x (Linked n ∷ ls) m other = same_where (is_same l n) x (label_of_life l x (ls ++ Linked m ∷ []))
    (label_of_life l x ls) (life_linked_else l x ls m other)

-- a life that begins has the label that its chunk has then
pub life_linked : (l : ItemId) (x : ℕ) (ls : List LabelStep) → is_same l l ≡ true → label_of_life l x ls ≡ None
    → label_of_life l x (ls ++ Linked l ∷ []) ≡ Some (label_word l.chunk x ls)
life_linked l x [] same none = ap (λ (b : Bool). if b then Some x else None) same
life_linked l x (Stored e z ∷ ls) same none = life_linked l (if eqb e l.chunk then z else x) ls same none
life_linked l x (Linked n ∷ ls) same none = by (is_same l n) none (life_linked l x ls same)
  where
    by : (b : Bool) → (if b then Some x else label_of_life l x ls) ≡ None
        → (label_of_life l x ls ≡ None → label_of_life l x (ls ++ Linked l ∷ []) ≡ Some (label_word l.chunk x ls))
        → (if b then Some x else label_of_life l x (ls ++ Linked l ∷ [])) ≡ Some (label_word l.chunk x ls)
    by true none goes = absurd (let u : ⊥ = cc none in u)
    by false none goes = goes none

-- ---- further words

-- a word that is stored is stored as its own
pub of_word_put : (j : ℕ) (ws : List WordStep) (c i y : ℕ) → of_word j (ws ++ Put c i y ∷ [])
    ≡ (if eqb i j then of_word j ws ++ Stored c y ∷ [] else of_word j ws)
of_word_put j [] c i y = refl
of_word_put j (Put d k z ∷ ws) c i y = by (eqb k j) (eqb i j) (of_word_put j ws c i y)
  where
    by : (b o : Bool) → of_word j (ws ++ Put c i y ∷ []) ≡ (if o then of_word j ws ++ Stored c y ∷ [] else of_word j ws)
        → (if b then Stored d z ∷ of_word j (ws ++ Put c i y ∷ []) else of_word j (ws ++ Put c i y ∷ []))
        ≡ (if o then (if b then Stored d z ∷ of_word j ws else of_word j ws) ++ Stored c y ∷ []
        else (if b then Stored d z ∷ of_word j ws else of_word j ws))
    by true true e = ap (λ (l : List LabelStep). Stored d z ∷ l) e
    by true false e = ap (λ (l : List LabelStep). Stored d z ∷ l) e
    by false true e = e
    by false false e = e
of_word_put j (Begun m ∷ ws) c i y = by (eqb i j) (of_word_put j ws c i y)
  where
    by : (o : Bool) → of_word j (ws ++ Put c i y ∷ []) ≡ (if o then of_word j ws ++ Stored c y ∷ [] else of_word j ws)
        → Linked m ∷ of_word j (ws ++ Put c i y ∷ [])
        ≡ (if o then (Linked m ∷ of_word j ws) ++ Stored c y ∷ [] else Linked m ∷ of_word j ws)
    by true e = ap (λ (l : List LabelStep). Linked m ∷ l) e
    by false e = ap (λ (l : List LabelStep). Linked m ∷ l) e

-- a life that begins begins for each word
pub of_word_begun : (j : ℕ) (ws : List WordStep) (m : ItemId) → of_word j (ws ++ Begun m ∷ []) ≡ of_word j ws ++ Linked m
    ∷ []
of_word_begun j [] m = refl
of_word_begun j (Put d k z ∷ ws) m = by (eqb k j) (of_word_begun j ws m)
  where
    by : (b : Bool) → of_word j (ws ++ Begun m ∷ []) ≡ of_word j ws ++ Linked m ∷ []
        → (if b then Stored d z ∷ of_word j (ws ++ Begun m ∷ []) else of_word j (ws ++ Begun m ∷ []))
        ≡ (if b then Stored d z ∷ of_word j ws else of_word j ws) ++ Linked m ∷ []
    by true e = ap (λ (l : List LabelStep). Stored d z ∷ l) e
    by false e = e
of_word_begun j (Begun n ∷ ws) m = ap (λ (l : List LabelStep). Linked n ∷ l) (of_word_begun j ws m)

pub labels_begun : (i : ℕ) (ls : List LabelStep) (ws : List WordStep) (m : ItemId) → labels_of i (ls ++ Linked m ∷ [])
    (ws ++ Begun m ∷ []) ≡ labels_of i ls ws ++ Linked m ∷ []
labels_begun zero ls ws m = refl
labels_begun (suc j) ls ws m = of_word_begun j ws m

-- of the words of all chunks the one that is stored changes alone: the label here, or a further word
pub labels_put_label : (i : ℕ) (ls : List LabelStep) (ws : List WordStep) (c y : ℕ) → i ≢ 0
    → labels_of i (ls ++ Stored c y ∷ []) ws ≡ labels_of i ls ws
labels_put_label zero ls ws c y ne = absurd (ne refl)
labels_put_label (suc j) ls ws c y ne = refl

pub labels_put_word : (i j : ℕ) (ls : List LabelStep) (ws : List WordStep) (c y : ℕ) → i ≢ suc j
    → labels_of i ls (ws ++ Put c j y ∷ []) ≡ labels_of i ls ws
labels_put_word zero j ls ws c y ne = refl
labels_put_word (suc k) j ls ws c y ne = of_word_put k ws c j y
    ∙ ap (λ (o : Bool). if o then of_word k ws ++ Stored c y ∷ [] else of_word k ws)
    (ne_eqb j k (λ e. ne (ap suc (sym e))))

pub labels_put_same : (j : ℕ) (ls : List LabelStep) (ws : List WordStep) (c y : ℕ)
    → labels_of (suc j) ls (ws ++ Put c j y ∷ []) ≡ labels_of (suc j) ls ws ++ Stored c y ∷ []
labels_put_same j ls ws c y = of_word_put j ws c j y
    ∙ ap (λ (o : Bool). if o then of_word j ws ++ Stored c y ∷ [] else of_word j ws) (eq-eqb j j refl)
