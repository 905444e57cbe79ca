-- A hold that is joined to the seat of its class: what both know of the words of its life.
use Rattle.std.proofs.Common.{◌≡◌, ℕ, zero, suc, true, get_or, Option, Some, None, IsSome, refl, sym, ap, ap₂, ◌∙◌, subst}
use Rattle.bump_rules.specs.declared.items.ItemId.{ItemId}
use Rattle.bump_rules.specs.Labels.{label_of_life}
use Rattle.bump_rules.specs.Lives.{life}
use Rattle.bump_steps.specs.declared.views.HoldSheet.{HoldSheet}
use Rattle.bump_steps.specs.Cuts.{joined}
use Rattle.bump_steps.specs.Meetings.{Met, Meets}
use Rattle.bump_steps.specs.Plays.{Sat}
use Rattle.bump_steps.specs.Views.{owns, labels_of, of_word, last_label, last_word}
use Rattle.bump_readers.specs.Seats.{hold_me, IsHoldOf, row_in}
use Rattle.bump_heads.specs.declared.views.ClassView.{ClassView}
use Rattle.bump_heads.specs.Seats.{class_me, IsClassSheet}

-- the sheet of a whole hold
pub part_of_whole : (o : Option HoldSheet) → IsSome o → (h : HoldSheet) × (o ≡ Some h)
part_of_whole None whole = absurd (cc whole)
part_of_whole (Some h) whole = (h, refl)

module _ (m s q : Sat) (v w : ClassView) (o : Option HoldSheet) (l held : ItemId) (word n : ℕ) (h : HoldSheet)
    (class : m ≡ class_me v) (same : v ≡ w) (hold : s ≡ hold_me o) (some : o ≡ Some h) (of : IsHoldOf l o)
    (is : held ≡ l) (joins : q ≡ (joined m.0 s.0, m.1)) (sheet : IsClassSheet n v.sheet) (own : owns l.chunk w.sheet ≡ true)
    (meets : Meets held.chunk q.0 word) where
  -- the hold's life is the one that it names
  h_life : h.life ≡ l
  h_life = subst (IsHoldOf l) some of

  all : q ≡ (joined (class_me w).0 (hold_me (Some h)).0, (class_me w).1)
  all = joins ∙ ap₂ (λ (x y : Sat). (joined x.0 y.0, x.1)) (class ∙ ap class_me same) (hold ∙ ap hold_me some)

  kept : IsClassSheet n w.sheet
  kept = subst (λ (x : ClassView). IsClassSheet n x.sheet) same sheet

  met : Met w.sheet h word
  met = meets w.sheet h (ap (λ (x : Sat). x.0.classes) all) (ap (λ (x : Sat). x.0.holds) all)
      (subst (λ (x : ItemId). owns x.chunk w.sheet ≡ true) (sym is) own)
      (ap (λ (x : ItemId). x.chunk) (h_life ∙ sym is))

  -- word i of the life is the one that the class stored last
  met_word : (i : ℕ) → label_of_life l 0 (labels_of i w.sheet.labels w.sheet.words) ≡ Some (last_word i w.sheet l.chunk)
  met_word i = subst (λ (x : ItemId). label_of_life x 0 (labels_of i w.sheet.labels w.sheet.words) ≡ Some
      (last_word i w.sheet x.chunk)) h_life
      (subst (λ (g : ℕ). label_of_life (life h.life.chunk g) 0 (labels_of i w.sheet.labels w.sheet.words) ≡ Some
      (last_word i w.sheet h.life.chunk)) met.generation
      (kept.labelled i h.life.chunk (subst (λ (x : ItemId). owns x.chunk w.sheet ≡ true) (sym h_life) own) met.used))

  pub met_stored : label_of_life l 0 w.sheet.labels ≡ Some word
  met_stored = met_word 0
      ∙ ap (λ (x : ItemId). Some (last_label w.sheet x.chunk)) (sym h_life) ∙ ap (λ (y : ℕ). Some y) met.label

  -- and it is the one in the hold's row
  row_is : (i : ℕ) → get_or h.row i 0 ≡ get_or (row_in o) i 0
  row_is i = ap (λ (x : Option HoldSheet). get_or (row_in x) i 0) (sym some)

  pub met_last : (i : ℕ) → last_word i w.sheet l.chunk ≡ get_or (row_in o) i 0
  met_last i = ap (λ (x : ItemId). last_word i w.sheet x.chunk) (sym h_life) ∙ met.row i ∙ row_is i

  pub met_read : word ≡ get_or (row_in o) 0 0
  met_read = sym met.label ∙ met.row zero ∙ row_is zero

  pub met_words : (j : ℕ) → label_of_life l 0 (of_word j w.sheet.words) ≡ Some (get_or (row_in o) (suc j) 0)
  met_words j = met_word (suc j) ∙ ap (λ (y : ℕ). Some y) (met_last (suc j))
