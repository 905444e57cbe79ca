-- A function that takes a struct of a pointer and its allocator apart and makes another one of the two: what a box at the
-- same type owns goes with them. So `of_open` and `into_open` of each handle and each slot are proved at once.
use mathlib.Core.List.{List, [], ◌∷◌, ◌++◌}
use mathlib.Core.Path.{refl, sym, subst}
use seplogic.Ra.Ura.{Ura}
use mir.Syntax.{Sym, Fn, Tys, tcons, tnil, ty_ptr, ty_struct, local, value_local, seq, assign, return, rv_opd, aggregate, copy, place, field}
use mir.Val.{Val}
use base.Logic.{ent, emp}
use base.Fml.{ftrue, fsep, flft}
use prog.Wp.{WpFn, Tables}
use types.Logic.{Logic, sem}
use types.Kit.{Item, ‵, raw, ◌⊛◌, ◌$◌, ◌∵◌, !, qed, by, move, drop, use1, join, split, frame, fsplit, fjoin, suffices}
use types.Part.{whole, sub, agg}
use types.Run.{stop, fld, no_more, and_then, of_opd, returns, enter}
use types.ByLocal.{alloc_all, pass_all, free_all, look_at, get, get_in, sets}
use contract.Lifetimes.{Lfts}
use contract.Monad.{fact}
use sound.WpLaws.{WpFn-mono}
use denote.RattleType.{RattleType}
use denote.Exit.{Kept, Last}
use denote.Signature.{plain}
use denote.Param.{layout}
use denote.Param.Laws.{Laws}
use denote.Steps.{nothing, heard}
use denote.Triple.Clauses.{Clauses, Ended, at_exit, closing}
use denote.Triple.Entry.{Args}
use denote.Triple.Spec.{Meets}
use denote.Triple.Walked.{Stays, stay_dropped, walk_of, ends_at, Silent, Goes-dropped, walk_Meets}
use Rattle.std_heap.specs.contracts.Global as Heap
use Rattle.bump_c.proofs.AsBox.{boxed}
use Rattle.std_alloc.proofs.BoxSteps.Form.{Bx, D, B, word, box_typed}
use Rattle.std_alloc.proofs.BoxSteps.Steps.{box_out, box_in}

-- such a function, from the struct of this name to the one of that
abbrev pub moved : Sym → Sym → Fn
moved from to = let fields : Tys = tcons ty_ptr (tcons (layout Heap.the_row) tnil) in record {
  lifetimes = 0;
  outlives = [];
  ty_params = [];
  givens = 0;
  params = 1;
  locals = local (ty_struct to fields) value_local ∷ local (ty_struct from fields) value_local ∷ local ty_ptr value_local ∷ local (layout Heap.the_row) value_local ∷ local ty_ptr value_local ∷ [];
  body = seq (assign (place 2 []) (rv_opd (copy (place 1 (field 0 ∷ [])))))
      (seq (assign (place 3 []) (rv_opd (copy (place 1 (field 1 ∷ [])))))
      (seq (assign (place 4 []) (rv_opd (copy (place 2 []))))
      (seq (assign (place 0 []) (aggregate (copy (place 4 []) ∷ copy (place 3 []) ∷ [])))
      return)));
}

module _ (F S : RattleType) (k : Kept) where
  -- one parameter, by value, and what is made of it
  abbrev pub moving : Ended
  moving = record { signature = record { lifetimes = 1; outlives = []; params = plain (λ _. F) ∷ []; result = plain (λ _. S) }; kept = (k, tt) }

  abbrev stayed : Stays moving.signature.params moving.kept
  stayed = (stay_dropped (plain (λ _. F)) k, tt)

  -- How what is passed owns what a box owns, and what is made of it too, if what is required holds.
  pub record Moves {M : Type 1} {𝓤 : Ura M} (𝓛 : Logic 𝓤) (c : Clauses 𝓤 moving) (E : Bx) : Type 2 where
    pub Holds : F.Denot → Type 0
    pub box : F.Denot → D E
    pub made : F.Denot → S.Denot
    pub last : (x : F.Denot) → Last (F.exit k) x
    pub silent : Silent 𝓛 1 (plain (λ _. F)) k
    pub heeds : (κs : Lfts 1) (a : Args moving.signature κs) (g : (c κs a).ghost) → ent 𝓤 ((c κs a).requires g) (fact 𝓤 (Holds a.0))
    pub opens : (x : F.Denot) (vs : List Val) → Holds x → ent 𝓤 (sem 𝓛 (F.own_val x vs)) (sem 𝓛 ((B E).own_val (box x) vs))
    pub shuts : (x : F.Denot) (vs : List Val) → Holds x → ent 𝓤 (sem 𝓛 ((B E).own_val (box x) vs)) (sem 𝓛 (S.own_val (made x) vs))
    pub says : (κs : Lfts 1) (a : Args moving.signature κs) (g : (c κs a).ghost) → Holds a.0 → ent 𝓤 (emp 𝓤) ((c κs a).ensures g (made a.0) (at_exit moving κs a (last a.0, tt)))

module _ (F S : RattleType) (k : Kept) (from to : Sym) {M : Type 1} {𝓤 : Ura M} (𝓛 : Logic 𝓤) (𝓣 : Tables 𝓤 𝓛.H) (c : Clauses 𝓤 (moving F S k)) (R : RattleType) (laws : Laws R) (m : Moves F S k 𝓛 c (boxed R laws)) where
  open 𝓛 use {H}

  abbrev E : Bx
  E = boxed R laws

  walk : (z : (walk_of 𝓛 (moving F S k) (stayed F S k) c).Ghost) → ent 𝓤 ((walk_of 𝓛 (moving F S k) (stayed F S k) c).pre z) (WpFn 𝓤 H 𝓣.C 𝓣.Λ (moved from to) (z.0.4.0 ++ []) ((walk_of 𝓛 (moving F S k) (stayed F S k) c).post z))
  walk z =
      let Post = (walk_of 𝓛 (moving F S k) (stayed F S k) c).post z in
      let x = z.0.3.0 in
      let ts : Item 𝓤 = ‵ (flft z.0.0.0 z.0.1.0) ⊛ ‵ ftrue in
      qed 𝓛 ((ts ⊛ ‵ (fsep (F.own_val x z.0.4.0) ftrue)) ∷ raw ((c z.0.0 z.0.3).requires z.1) ∷ []) ∵ move ! (1 ∷ []) $
      use1 𝓛 (raw (fact 𝓤 (m.Holds x))) (m.heeds z.0.0 z.0.3 z.1) $ heard ! (m.Holds x) (λ holds.
      split ! $ move ! (1 ∷ []) $ fsplit ! $ move ! (1 ∷ []) $ drop ! $
      use1 𝓛 (‵ ((B E).own_val (m.box x) z.0.4.0)) (m.opens x z.0.4.0 holds) $
      box_out E ! (m.box x) z.0.4.0 (λ b o hv e ws fa. box_in E ! (m.box x) b o (m.box x).value e refl $
      use1 𝓛 (‵ (S.own_val (m.made x) (word E hv b o ∷ []))) (m.shuts x (word E hv b o ∷ []) holds) $
      let w = word E hv b o in
      let Γ : List (Item 𝓤) = ‵ (S.own_val (m.made x) (w ∷ [])) ∷ ts ∷ [] in
      by ! (subst (λ (us : List Val). ent 𝓤 (types.Kit.⋆ 𝓛 Γ) (WpFn 𝓤 H 𝓣.C 𝓣.Λ (moved from to) (us ++ []) Post)) (sym ws)
      (qed 𝓛 Γ ∵ enter ! 𝓣.C 𝓣.Λ (moved from to) (w ∷ []) _ $ alloc_all ! (λ ls. pass_all ! refl (box_typed E hv b o fa, tt) $
      sets ! (of_opd ! (get_in ! (fld ! refl (stop !)) (sub ! 0 refl (whole !)))) refl (tt, tt) $
      sets ! (of_opd ! (get_in ! (fld ! refl (stop !)) (sub ! 1 refl (whole !)))) refl fa $
      sets ! (of_opd ! (get ! refl)) refl (tt, tt) $
      sets ! (agg ! (and_then ! (get ! refl) (and_then ! (get ! refl) (no_more !)))) refl (box_typed E hv b o fa) $
      returns ! (look_at ! 0 refl) $ free_all ! refl $
      suffices ! _ (ends_at 𝓛 (moving F S k) (stayed F S k) c z w (m.made x) (m.last x, tt) (tt, tt)) $
      nothing ! $ nothing ! $ fjoin ! $ join ! $ move ! (1 ∷ 0 ∷ []) $ join ! $ frame ! $ by ! (m.says z.0.0 z.0.3 z.1 holds))))))

  -- the function meets its contract
  pub moves : Meets 𝓛 (moving F S k).signature (WpFn 𝓤 H 𝓣.C 𝓣.Λ (moved from to)) (closing 𝓛 (moving F S k) c)
  moves = walk_Meets 𝓛 (moving F S k) (stayed F S k) (Goes-dropped 𝓛 1 (plain (λ _. F)) k m.silent, tt) c (WpFn 𝓤 H 𝓣.C 𝓣.Λ (moved from to)) (WpFn-mono 𝓤 H 𝓛.laws 𝓣 (moved from to)) walk
