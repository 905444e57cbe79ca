-- The part becomes an offer.
use Rattle.std.proofs.Common.{◌≡◌, ℕ, Bool, false, List, [], ◌∷◌, sym, refl, subst, None}
use mir.Syntax.{a_type, dcons, dnil, named}
use mir.Val.{Val, vptr}
use mir.MapTy.{inst_fn}
use base.Logic.{SProp, ent, emp}
use base.Fml.{Fml, ftrue, fsep, flft}
use types.Logic.{sem}
use types.Kit.{‵, raw, ◌⊛◌, given, ◌$◌, ◌∵◌, !, qed, by, move, keep, drop, split, join, fsplit, fsplit3, fjoin, fjoin3, learn, use0, use1, feq_i}
use types.Run.{no_more, and_then, returns, enter}
use types.ByLocal.{alloc_all, pass_all, free_all, look_at, get, sets}
use types.Part.{agg}
use contract.Monad.{fact, fact_i}
use contract.Running.{tables}
use denote.Exit.{yes}
use denote.RattleType.{RattleType, owns}
use denote.Signature.{types_at, plain}
use denote.Builtin.{RefOf, u64}
use denote.Ref.{mut_vals, mut_Tells, shr_vals, shr_Tells}
use denote.Steps.{nothing, opens, closes}
use denote.Param.{param, bounded}
use denote.Struct.Tuple.{Tuple}
use denote.Triple.Walked.{Stays, stay_dropped, stay_ref, walk_of, Goes-dropped, Goes-ref}
use Rattle.logbook.proofs.Walks.{proved, leaves}
use Rattle.logbook.proofs.Fields.{token, Token, token_made}
use Rattle.logbook.specs.Kept.{offer_owns}
use Rattle.logbook.specs.contracts.tokens.Offer as Offer
use Rattle.call_log.specs.Tallies.{IsDone, calls_asked, gains_tally, keeps_tallies, known, tally_owns}
use Rattle.call_log.specs.contracts.law.Counted as Counted
use Rattle.call_log.specs.contracts.law.CountedGainTuple2U64U64.TheImpl as Gain
use Rattle.call_log.specs.contracts.law.Law as Law
use Rattle.call_log.specs.contracts.law.LawRuleTuple2U64U64.TheImpl as Rule
use Rattle.call_log.specs.contracts.tallies.Tally as Tally
use Rattle.call_log.proofs.Sharing.{no_part, offers}
use Rattle.call_log.specs.contracts.tallies.Tally.ask.{ended, clauses}
use Rattle.call_log.specs.contracts.tallies.Tally.ask.Key.{name as #self}
use Rattle.call_log.proofs.tallies.Tally.ask.Statement.{statement}
use Rattle.call_log.proofs.tallies.Tally.ask.Code as code

pub ask_spec : {M : Type 1} → statement M
ask_spec 𝓤 𝓛 𝓜 𝓡 wired E X P _ _ _ g d gp dp _ _ =
    let H = 𝓛.H in let 𝓣 = tables 𝓤 H 𝓜 𝓡 𝓡.env in let E' : RattleType = param 0 E in let X' : RattleType = param 1 X in
    let En = ended E X P g d gp dp in
    let inst = bounded (a_type ∷ a_type ∷ a_type ∷ []) (E, (X, (P, tt))) (dcons d (dcons dp dnil)) in
    let fn = inst_fn inst code.function in let c = clauses E X P g d gp dp 𝓛 𝓜.mem 𝓡.returns in
    let Entry' : RattleType = Tuple (E' ∷ u64 ∷ []) in let All : RattleType = Tuple (Entry' ∷ u64 ∷ Law.the_row ∷ Counted.the_row ∷ []) in
    let Of : RattleType = Offer.the_row Entry' u64 Law.the_row Counted.the_row (Rule.ghosts E' g Rule.no_dict) (Gain.ghosts E') in
    let Ts : RattleType = Tally.the_row in let About : RattleType = X' in
    let hs : Stays En.signature.params En.kept = (stay_ref (0 ∷ []) tt (plain (λ _. Ts)), (stay_dropped (RefOf (1 ∷ []) tt (plain (λ _. About)) (λ _. tt)) yes, tt)) in
    proved 𝓛 En hs c 𝓜 𝓡 (Goes-ref 𝓛 5 0 tt (plain (λ _. Ts)), (Goes-dropped 𝓛 5 (RefOf (1 ∷ []) tt (plain (λ _. About)) (λ _. tt)) yes (λ κs x f. refl), tt)) (#self inst) fn
    (code.unfolded 𝓤 H 𝓜 𝓡 wired (E, (X, (P, tt))) d dp)
    (λ κs. (mut_vals, (shr_vals, tt))) (λ κs. (mut_Tells (named 0) κs.0 Ts, (shr_Tells (named 1) κs.1.0 About, tt))) (λ κs qs bounds a gh are.
    let b : ℕ = a.0.ref_ptr.0 in let o : ℕ = a.0.ref_ptr.1 in let h : Ts.Denot = a.0.now in let x = a.1.0.now in let at : Val = vptr a.1.0.ref_ptr.0 a.1.0.ref_ptr.1 in
    let request : E.Denot × ℕ = gp.ask x in let names : List ℕ = h.name ∷ [] in
    let about : List (E.Denot × ℕ) = known g.some_state h.number (calls_asked request h.calls) in
    let h' : Ts.Denot = record { marker = h.marker; name = h.name; number = h.number; here = false; calls = h.calls } in
    let r : Of.Denot = record { marker = record {}; names = names; ask = request; about = about; state = None } in
    let A₁ : Type 0 = r.names ≡ names in let A₂ : Type 0 = r.ask ≡ request in let A₃ : Type 0 = r.about ≡ about in
    let A₄ : Type 0 = r.state ≡ None in let A₅ : Type 0 = h' ≡ record h { here = false } in
    let y : (walk_of 𝓛 En hs c).Ghost = ((κs, qs, bounds, a, (vptr b o ∷ [], (at ∷ [], tt))), gh) in
    let Post : Val → SProp 𝓤 = (walk_of 𝓛 En hs c).post y in
    let toks : Fml = fsep (flft κs.0 qs.0) (fsep (flft κs.1.0 qs.1.0) (fsep (flft κs.1.1.0 qs.1.1.0) (fsep (flft κs.1.1.1.0 qs.1.1.1.0) (fsep (flft κs.1.1.1.1.0 qs.1.1.1.1.0) ftrue)))) in
    qed 𝓛 ((‵ toks ⊛ ‵ (owns (types_at En.signature.params κs) a y.0.4)) ∷ raw (fact 𝓤 _) ∷ raw (fact 𝓤 _) ∷ raw (fact 𝓤 _) ∷ given _ (‵ ftrue) ∷ given _ (‵ ftrue) ∷ []) ∵
    keep ! (4 ∷ 5 ∷ 0 ∷ []) $ learn ! (λ here. drop ! $ learn ! (λ about_it. drop ! $ split ! $ move ! (1 ∷ []) $ fsplit ! $ fsplit3 ! $ keep ! (1 ∷ 2 ∷ 4 ∷ []) $
    move ! (2 ∷ []) $ fsplit ! $ move ! (2 ∷ 3 ∷ 0 ∷ []) $
    enter ! 𝓣.C 𝓣.Λ fn (vptr b o ∷ at ∷ []) Post $ alloc_all ! (λ l. pass_all ! refl ((tt, tt), ((tt, tt), tt)) $
    opens ! tt Ts b o (λ ts. move ! (1 ∷ []) $ fsplit ! $ move ! (1 ∷ []) $
    use1 𝓛 (‵ (offer_owns (keeps_tallies g.number names) (IsDone g.number request) (gains_tally names about) None))
    (subst (λ (t : Bool × ℕ). ent 𝓤 (sem 𝓛 (tally_owns h.name t.1 t.0 h.calls))
    (sem 𝓛 (offer_owns (keeps_tallies g.number names) (IsDone g.number request) (gains_tally names (known g.some_state t.1 (calls_asked request h.calls))) None)))
    (λ i. (sym here i, about_it i)) (offers 𝓛 g.number g.some_state h.name request h.calls)) $
    use0 𝓛 (‵ (tally_owns h.name h.number false h.calls)) (no_part 𝓛 h.name h.number h.calls) $
    move ! (2 ∷ 0 ∷ []) $ fjoin ! $ move ! (2 ∷ 0 ∷ 3 ∷ 4 ∷ 5 ∷ []) $
    closes ! tt Ts h' ts b o $ feq_i ! (List Val) (vptr b o ∷ []) (vptr b o ∷ []) refl $ fjoin3 ! $
    nothing ! $ nothing ! $ fjoin ! $ move ! (1 ∷ 0 ∷ []) $ fjoin ! $ move ! (1 ∷ 3 ∷ []) $ fjoin ! $ move ! (2 ∷ []) $
    use0 𝓛 (‵ ((Token All).own_val (record {}, tt) (token ∷ []))) (token_made All 𝓛) $ fjoin ! $
    sets ! (agg ! (no_more !)) refl (tt, tt) $ sets ! (agg ! (and_then ! (get ! refl) (no_more !))) refl (tt, (tt, tt)) $
    use0 𝓛 (raw (fact 𝓤 A₅)) (fact_i 𝓤 A₅ (emp 𝓤) refl) $
    use0 𝓛 (raw (fact 𝓤 A₄)) (fact_i 𝓤 A₄ (emp 𝓤) refl) $ join ! $
    use0 𝓛 (raw (fact 𝓤 A₃)) (fact_i 𝓤 A₃ (emp 𝓤) refl) $ join ! $
    use0 𝓛 (raw (fact 𝓤 A₂)) (fact_i 𝓤 A₂ (emp 𝓤) refl) $ join ! $
    use0 𝓛 (raw (fact 𝓤 A₁)) (fact_i 𝓤 A₁ (emp 𝓤) refl) $ join ! $
    returns ! (look_at ! 0 refl) $ free_all ! refl $ keep ! (2 ∷ 3 ∷ 1 ∷ 0 ∷ []) $ by ! (leaves 𝓛 En hs c y token r (h', (tt, tt)) (tt, (tt, tt))))))))
