-- The numbers are made, each in two parts.
use Rattle.std.proofs.Common.{◌≡◌, ℕ, List, [], ◌∷◌, ◌++◌, refl, w32}
use mir.Syntax.{a_type, dcons, dnil}
use mir.Val.{Val, vint, vstruct, vcons, vnil, of_list}
use mir.MapTy.{inst_fn}
use base.Logic.{SProp, emp}
use base.Fml.{Fml, ftrue, fsep, feq, flft}
use types.Kit.{join, ‵, raw, ◌⊛◌, some, later, ◌$◌, ◌∵◌, !, qed, by, move, keep, split, fjoin, fjoin3, fpack, pick, use0, await, feq_i}
use types.Run.{no_more, and_then, returns, enter}
use types.ByLocal.{alloc_all, pass_all, free_all, look_at, get, sets}
use types.Part.{agg}
use contract.Monad.{fact, fact_i}
use contract.Running.{tables}
use denote.Exit.{yes}
use denote.RattleType.{RattleType, owns, Valss}
use denote.Signature.{types_at, plain}
use denote.Builtin.{u32, u64, unit}
use denote.Plain.{uint_vals, uint_Tells}
use denote.Steps.{nothing}
use denote.Param.{param, bounded}
use denote.Struct.Tuple.{Tuple}
use denote.Triple.Walked.{Stays, stay_dropped, walk_of, Goes-dropped}
use Rattle.logbook.proofs.Walks.{proved, leaves}
use Rattle.logbook.proofs.Fields.{token, Token, token_made}
use Rattle.logbook.specs.Kept.{pens_own}
use Rattle.logbook.specs.contracts.tokens.Start as Start
use Rattle.call_log.specs.Tallies.{keeps_tallies}
use Rattle.call_log.specs.contracts.law.Law as Law
use Rattle.call_log.specs.contracts.law.LawRuleTuple2U64U64.TheImpl as Rule
use Rattle.call_log.specs.contracts.tallies.Tallies as Tallies
use Rattle.call_log.proofs.Sharing.{begins}
use Rattle.call_log.specs.contracts.tallies.Tallies.begin.{ended, clauses}
use Rattle.call_log.specs.contracts.tallies.Tallies.begin.Key.{name as #self}
use Rattle.call_log.proofs.tallies.Tallies.begin.Statement.{statement}
use Rattle.call_log.proofs.tallies.Tallies.begin.Code as code

pub begin_spec : {M : Type 1} → statement M
begin_spec 𝓤 𝓛 𝓜 𝓡 wired E _ g d _ =
    let H = 𝓛.H in let 𝓣 = tables 𝓤 H 𝓜 𝓡 𝓡.env in let E' : RattleType = param 0 E in let En = ended E g d in
    let inst = bounded (a_type ∷ []) (E, tt) (dcons d dnil) in let fn = inst_fn inst code.function in
    let c = clauses E g d 𝓛 𝓜.mem 𝓡.returns in
    let Entry' : RattleType = Tuple (E' ∷ u64 ∷ []) in let All : RattleType = Tuple (Entry' ∷ u64 ∷ Law.the_row ∷ []) in
    let St : RattleType = Start.the_row Entry' u64 Law.the_row (Rule.ghosts E' g Rule.no_dict) in
    let hs : Stays En.signature.params En.kept = (stay_dropped (plain (λ _. u32)) yes, tt) in
    proved 𝓛 En hs c 𝓜 𝓡 (Goes-dropped 𝓛 1 (plain (λ _. u32)) yes (λ κs x f. refl), tt) (#self inst) fn
    (code.unfolded 𝓤 H 𝓜 𝓡 wired (E, tt) d)
    (λ κs. (uint_vals w32, tt)) (λ κs. (uint_Tells w32, tt)) (λ κs qs bounds a gh are.
    let n : ℕ = a.0 in let log : List (E.Denot × ℕ) = (g.some_state, n) ∷ [] in
    let y : (walk_of 𝓛 En hs c).Ghost = ((κs, qs, bounds, a, (vint w32 n ∷ [], tt)), gh) in
    let Post : Val → SProp 𝓤 = (walk_of 𝓛 En hs c).post y in let toks : Fml = fsep (flft κs.0 qs.0) ftrue in
    qed 𝓛 ((‵ toks ⊛ ‵ (owns (types_at En.signature.params κs) a y.0.4)) ∷ raw (fact 𝓤 _) ∷ ‵ ftrue ∷ []) ∵
    keep ! (0 ∷ []) $ split ! $ keep ! (0 ∷ []) $
    enter ! 𝓣.C 𝓣.Λ fn (vint w32 n ∷ []) Post $ alloc_all ! (λ l. pass_all ! refl ((tt, record { fits = are.0.1 }), tt) $
    use0 𝓛 (later (some (λ (name : ℕ). ‵ (keeps_tallies g.number (name ∷ []) log) ⊛ ‵ (pens_own name 0 n)))) (begins 𝓛 g.number g.some_state n) $
    await ! tt $ pick ! (λ name. split ! $
    sets ! (agg ! (no_more !)) refl (tt, tt) $ sets ! (agg ! (and_then ! (get ! refl) (no_more !))) refl (tt, (tt, tt)) $
    sets ! (agg ! (no_more !)) refl (tt, tt) $ sets ! (agg ! (and_then ! (get ! refl) (no_more !))) refl (tt, (tt, tt)) $
    sets ! (agg ! (and_then ! (get ! refl) (and_then ! (get ! refl) (no_more !)))) refl (tt, ((tt, tt), ((tt, tt), tt))) $
    use0 𝓛 (‵ ((Token All).own_val (record {}, tt) (token ∷ []))) (token_made All 𝓛) $ fjoin ! $ move ! (1 ∷ []) $
    use0 𝓛 (‵ ((Token unit).own_val (record {}, tt) (token ∷ []))) (token_made unit 𝓛) $ fjoin ! $ nothing ! $ move ! (2 ∷ 1 ∷ 0 ∷ []) $ fjoin3 ! $
    let v : Val = vstruct (vcons token (vcons token vnil)) in let Rs : List RattleType = St ∷ Tallies.the_row ∷ [] in
    let s : St.Denot = record { marker = record {}; names = name ∷ []; shown = log } in
    let t : Tallies.the_row.Denot = record { marker = record {}; name = name; next = 0; left = n } in
    let A₁ : Type 0 = s.names ≡ t.name ∷ [] in let A₂ : Type 0 = s.shown ≡ log in let A₃ : Type 0 = t.next ≡ 0 in
    let A₄ : Type 0 = t.left ≡ n in
    feq_i ! (List Val) (v ∷ []) (v ∷ []) refl $ fjoin ! $
    fpack ! (Valss Rs) (λ vss. fsep (feq (List Val) (v ∷ []) (vstruct (of_list (vss.0 ++ (vss.1.0 ++ []))) ∷ [])) (owns Rs (s, (t, tt)) vss)) (token ∷ [], (token ∷ [], tt)) $
    nothing ! $ nothing ! $ fjoin ! $
    use0 𝓛 (raw (fact 𝓤 A₄)) (fact_i 𝓤 A₄ (emp 𝓤) refl) $
    use0 𝓛 (raw (fact 𝓤 A₃)) (fact_i 𝓤 A₃ (emp 𝓤) refl) $ join ! $
    use0 𝓛 (raw (fact 𝓤 A₂)) (fact_i 𝓤 A₂ (emp 𝓤) refl) $ join ! $
    use0 𝓛 (raw (fact 𝓤 A₁)) (fact_i 𝓤 A₁ (emp 𝓤) refl) $ join ! $
    returns ! (look_at ! 0 refl) $ free_all ! refl $ keep ! (3 ∷ 1 ∷ 2 ∷ 0 ∷ []) $ by ! (leaves 𝓛 En hs c y v (s, t) (tt, tt) (tt, tt)))))
