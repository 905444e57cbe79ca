-- The part comes back with the gain.
use Rattle.std.proofs.Common.{◌≡◌, ℕ, true, List, [], ◌∷◌, refl, ap}
use mir.Syntax.{a_type, dcons, dnil, named}
use mir.Val.{Val, vunit, vptr}
use mir.MapTy.{inst_fn}
use base.Logic.{SProp, emp}
use base.Fml.{Fml, ftrue, fsep, flft}
use types.Kit.{‵, raw, ◌⊛◌, given, ◌$◌, ◌∵◌, !, qed, by, move, keep, drop, split, join, fsplit, fsplit3, fjoin, fjoin3, fpick, learn, use0, rewrite, feq_i}
use types.Run.{unit_lit, of_opd, returns, enter}
use types.ByLocal.{alloc_all, pass_all, free_all, look_at, sets}
use contract.Monad.{fact, fact_i}
use contract.Running.{tables}
use denote.Exit.{no}
use denote.RattleType.{RattleType, owns}
use denote.Signature.{types_at, plain}
use denote.Builtin.{u64}
use denote.Ref.{mut_vals, mut_Tells}
use denote.Steps.{nothing, opens, closes}
use denote.Param.{param, bounded}
use denote.Struct.Tuple.{Tuple}
use denote.Triple.Walked.{Stays, stay_dropped, stay_ref, walk_of, Goes-dropped, Goes-ref}
use Rattle.logbook.proofs.Walks.{proved, leaves}
use Rattle.logbook.proofs.Fields.{token, token_told}
use Rattle.logbook.specs.contracts.tokens.Gained as Gained
use Rattle.call_log.specs.Tallies.{calls_known, name_in, tally_owns}
use Rattle.call_log.specs.contracts.law.Counted as Counted
use Rattle.call_log.specs.contracts.law.CountedGainTuple2U64U64.TheImpl as Gain
use Rattle.call_log.specs.contracts.tallies.Tally as Tally
use Rattle.call_log.specs.contracts.tallies.Tally.settle.{ended, clauses}
use Rattle.call_log.specs.contracts.tallies.Tally.settle.Key.{name as #self}
use Rattle.call_log.proofs.tallies.Tally.settle.Statement.{statement}
use Rattle.call_log.proofs.tallies.Tally.settle.Code as code

pub settle_spec : {M : Type 1} → statement M
settle_spec 𝓤 𝓛 𝓜 𝓡 wired E _ g d _ =
    let H = 𝓛.H in let 𝓣 = tables 𝓤 H 𝓜 𝓡 𝓡.env in let E' : RattleType = param 0 E in let En = ended E g d in
    let inst = bounded (a_type ∷ []) (E, tt) (dcons d dnil) in let fn = inst_fn inst code.function in
    let c = clauses E g d 𝓛 𝓜.mem 𝓡.returns in
    let Entry' : RattleType = Tuple (E' ∷ u64 ∷ []) in let All : RattleType = Tuple (Entry' ∷ u64 ∷ Counted.the_row ∷ []) in
    let Gd : RattleType = Gained.the_row Entry' u64 Counted.the_row (Gain.ghosts E') in let Ts : RattleType = Tally.the_row in
    let hs : Stays En.signature.params En.kept = (stay_ref (0 ∷ []) tt (plain (λ _. Ts)), (stay_dropped (plain (λ _. Gd)) no, tt)) in
    proved 𝓛 En hs c 𝓜 𝓡 (Goes-ref 𝓛 2 0 tt (plain (λ _. Ts)), (Goes-dropped 𝓛 2 (plain (λ _. Gd)) no (λ κs x f. refl), tt)) (#self inst) fn
    (code.unfolded 𝓤 H 𝓜 𝓡 wired (E, tt) d)
    (λ κs. (mut_vals, ((λ x. token ∷ []), tt))) (λ κs. (mut_Tells (named 0) κs.0 Ts, ((λ x vs is. token_told All vs is.0), tt))) (λ κs qs bounds a gh are.
    let b : ℕ = a.0.ref_ptr.0 in let o : ℕ = a.0.ref_ptr.1 in let h : Ts.Denot = a.0.now in let gained : Gd.Denot = a.1.0 in
    let h' : Ts.Denot = record { marker = h.marker; name = h.name; number = h.number; here = true; calls = gained.answer } in
    let A₁ : Type 0 = gained.answer ≡ calls_known gained.about in
    let A₂ : Type 0 = h' ≡ record h { here = true; calls = gained.answer } in
    let y : (walk_of 𝓛 En hs c).Ghost = ((κs, qs, bounds, a, (vptr b o ∷ [], (token ∷ [], tt))), gh) in
    let Post : Val → SProp 𝓤 = (walk_of 𝓛 En hs c).post y in let toks : Fml = fsep (flft κs.0 qs.0) (fsep (flft κs.1.0 qs.1.0) ftrue) in
    qed 𝓛 ((‵ toks ⊛ ‵ (owns (types_at En.signature.params κs) a y.0.4)) ∷ raw (fact 𝓤 _) ∷ given _ (‵ ftrue) ∷ given _ (‵ ftrue) ∷ []) ∵
    keep ! (2 ∷ 3 ∷ 0 ∷ []) $ learn ! (λ named_so. drop ! $ learn ! (λ about_it. drop ! $ split ! $ move ! (1 ∷ []) $ fsplit ! $ move ! (1 ∷ []) $ fsplit ! $ fsplit ! $
    keep ! (1 ∷ 3 ∷ 4 ∷ []) $ fsplit ! $ fpick ! (λ told. drop ! $
    rewrite ! 0 (λ (t : ℕ × ℕ). ‵ (tally_owns t.0 t.1 true gained.answer)) (λ i. (ap name_in named_so i, about_it i)) refl $
    move ! (1 ∷ []) $ fsplit3 ! $ keep ! (1 ∷ 2 ∷ 4 ∷ 3 ∷ []) $ move ! (2 ∷ []) $ fsplit ! $ move ! (2 ∷ 3 ∷ 0 ∷ 1 ∷ []) $
    enter ! 𝓣.C 𝓣.Λ fn (vptr b o ∷ token ∷ []) Post $ alloc_all ! (λ l. pass_all ! refl ((tt, tt), ((tt, (tt, tt)), tt)) $
    opens ! tt Ts b o (λ ts. move ! (1 ∷ []) $ fsplit ! $ move ! (1 ∷ []) $ drop ! $ move ! (0 ∷ 6 ∷ []) $ fjoin ! $ move ! (1 ∷ 0 ∷ []) $
    closes ! tt Ts h' ts b o $ feq_i ! (List Val) (vptr b o ∷ []) (vptr b o ∷ []) refl $ fjoin3 ! $
    nothing ! $ nothing ! $ fjoin ! $ move ! (1 ∷ 0 ∷ []) $ fjoin ! $ move ! (1 ∷ 2 ∷ []) $ fjoin ! $
    sets ! (of_opd ! (unit_lit !)) refl (tt, tt) $ feq_i ! (List Val) (vunit ∷ []) (vunit ∷ []) refl $
    use0 𝓛 (raw (fact 𝓤 A₂)) (fact_i 𝓤 A₂ (emp 𝓤) refl) $
    use0 𝓛 (raw (fact 𝓤 A₁)) (fact_i 𝓤 A₁ (emp 𝓤) told) $ join ! $
    returns ! (look_at ! 0 refl) $ free_all ! refl $ keep ! (2 ∷ 3 ∷ 1 ∷ 0 ∷ []) $ by ! (leaves 𝓛 En hs c y vunit tt (h', (tt, tt)) (tt, (tt, tt)))))))))
