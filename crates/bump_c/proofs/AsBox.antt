-- A handle and its open box own what a box at the same type owns, whatever stands for the name.
use mir.Syntax.{Sym, impl, tnil, dnil}
use mathlib.Core.List.{[]}
use mathlib.Core.Path.{◌≡◌, subst}
use mathlib.Core.HProp.{HProp, HProp-ext}
use seplogic.Ra.Ura.{Ura}
use base.Logic.{ent, id⊢}
use base.Fml.{Fml}
use types.Logic.{Logic, sem}
use denote.RattleType.{RattleType}
use denote.Param.{param}
use denote.Param.Laws.{Laws}
use Rattle.std_alloc.proofs.BoxSteps.Form.{Bx}
use Rattle.std_alloc.specs.contracts.boxed.Box as Box
use Rattle.std_heap.specs.contracts.Global as Heap
use Rattle.std_heap.specs.contracts.GlobalAllocator.TheImpl.{ghosts, dict}
use Rattle.std_heap.proofs.Global.TheLaws as heap
use Rattle.open_box.specs.contracts.boxes.OpenBox as Opened
use Rattle.atomic_table.specs.Seated.{TableId}
use Rattle.bump_c.specs.One.{IsOne, as_fact, trivial_proposition}

-- a box of what has this row, with its laws
abbrev pub boxed : (R : RattleType) → Laws R → Bx
boxed R laws = record { row = R; laws = laws; al = record { row = Heap.the_row; laws = heap.the_row_laws; g = ghosts; d = dict; drops = impl [] tnil dnil } }

-- the box itself, and the open one
abbrev pub BoxOf : RattleType → RattleType
BoxOf R = Box.the_row (param 0 R) (param 1 Heap.the_row) ghosts

abbrev pub OpenedOf : RattleType → RattleType
OpenedOf R = Opened.the_row R Heap.the_row ghosts

-- the name of the struct of an open box
abbrev pub OpenedName : RattleType → Sym
OpenedName R = (Opened.the_type R Heap.the_row ghosts).name

module _ {M : Type 1} {𝓤 : Ura M} (𝓛 : Logic 𝓤) (A : Type 0) (is : IsOne A) where
  -- what is owned where a type of one value stands for the name is owned where the unit does
  pub unnamed : (own : HProp {0} → Fml) → ent 𝓤 (sem 𝓛 (own (as_fact A is))) (sem 𝓛 (own trivial_proposition))
  unnamed own = subst (λ (B : HProp {0}). ent 𝓤 (sem 𝓛 (own (as_fact A is))) (sem 𝓛 (own B))) (HProp-ext (as_fact A is) trivial_proposition (λ _. tt) (λ _. is.value)) (id⊢ 𝓤 _)

  -- and the other way round, at an equal table
  pub named_again : (own : HProp {0} → TableId → Fml) {y z : TableId} → y ≡ z → ent 𝓤 (sem 𝓛 (own trivial_proposition y)) (sem 𝓛 (own (as_fact A is) z))
  named_again own {y} same =
      subst (λ (t : TableId). ent 𝓤 (sem 𝓛 (own trivial_proposition y)) (sem 𝓛 (own (as_fact A is) t))) same
      (subst (λ (B : HProp {0}). ent 𝓤 (sem 𝓛 (own B y)) (sem 𝓛 (own (as_fact A is) y))) (HProp-ext (as_fact A is) trivial_proposition (λ _. tt) (λ _. is.value)) (id⊢ 𝓤 _))
