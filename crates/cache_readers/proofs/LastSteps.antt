-- A get by a hold and one by a glance are told apart by the worker's last steps: a glance ends with two loads of a head.
-- Behind the exchange that takes a hold a touch makes one load at most.
use Rattle.std.proofs.Common.{◌≡◌, ℕ, ◌+◌, ◌&&◌, ◌≤◌, Bool, true, false, cond, nat_lt, List, [], ◌∷◌, ◌++◌, Option, Some, None, Ok, refl, sym, ap, ◌∙◌, subst, arith}
use Rattle.std.proofs.lemmas.Bool.{ltb-true, ltb-false}
use Rattle.std.proofs.lemmas.List.{append_assoc}
use Rattle.bump_rules.specs.declared.configs.Config.{Config}
use Rattle.bump_rules.specs.declared.items.Head.{Head}
use Rattle.bump_rules.specs.declared.items.ItemId.{ItemId}
use Rattle.bump_rules.specs.Totals.{how_many}
use Rattle.bump_steps.specs.declared.refusals.TakeRefusal.{TakeRefusal}
use Rattle.bump_steps.specs.declared.views.HoldSheet.{HoldSheet}
use Rattle.bump_steps.specs.declared.views.OwnStep.{OwnStep}
use Rattle.bump_steps.specs.Rule.{chunks as all_chunks}
use Rattle.bump_steps.specs.Tries.{asked_life, asked_refusal, last_found, load_and_failures, of_any, takes}
use Rattle.bump_unlocked.specs.Gets.{GotAny, get_any_answer}
use Rattle.bump_unlocked.specs.StepCounts.{MakesAtMost, is_load}
use Rattle.bump_unlocked.specs.Workers.{WorkerState}
use Rattle.cache_readers.specs.Looks.{WorkerGetsAny}

-- whether the last two steps are loads of a head
abbrev pub ends_by_loads : List OwnStep → Bool
ends_by_loads [] = false
ends_by_loads (x ∷ []) = false
ends_by_loads (x ∷ y ∷ []) = is_load x && is_load y
ends_by_loads (x ∷ y ∷ z ∷ more) = ends_by_loads (y ∷ z ∷ more)

-- of these two, whatever steps came before
pub last_two : (before : List OwnStep) (x y : OwnStep)
    → ends_by_loads (before ++ (x ∷ y ∷ [])) ≡ (is_load x && is_load y)
last_two [] x y = refl
last_two (a ∷ []) x y = refl
last_two (a ∷ b ∷ []) x y = refl
last_two (a ∷ b ∷ c ∷ more) x y = last_two (b ∷ c ∷ more) x y

-- a step that is none came last, or one load came behind it
none_last : (x : OwnStep) → (is_load x && false) ≡ false
none_last x = by (is_load x)
  where
    by : (b : Bool) → (b && false) ≡ false
    by true = refl
    by false = refl

-- where there is one load at most, the last two steps aren't two
few_loads : (steps : List OwnStep) → how_many is_load steps ≤ 1 → ends_by_loads steps ≡ false
few_loads [] few = refl
few_loads (x ∷ []) few = refl
few_loads (x ∷ y ∷ []) few = by (is_load x) (is_load y) few
  where
    by : (a b : Bool) → cond a 1 0 + (cond b 1 0 + 0) ≤ 1 → (a && b) ≡ false
    by true true few = absurd (omega (arith, few))
    by true false few = refl
    by false b few = refl
few_loads (x ∷ y ∷ z ∷ more) few = few_loads (y ∷ z ∷ more) (omega (arith, few))

-- whatever came before a step that isn't a load
behind_another : (before : List OwnStep) (x : OwnStep) (more : List OwnStep) → is_load x ≡ false
    → how_many is_load more ≤ 1 → ends_by_loads (before ++ (x ∷ more)) ≡ false
behind_another [] x more another few =
    few_loads (x ∷ more) (subst (λ (b : Bool). cond b 1 0 + how_many is_load more ≤ 1) (sym another) (omega (arith, few)))
behind_another (a ∷ []) x [] another few = ap (λ (b : Bool). is_load a && b) another ∙ none_last a
behind_another (a ∷ []) x (y ∷ more) another few = behind_another [] x (y ∷ more) another few
behind_another (a ∷ b ∷ []) x more another few = behind_another (b ∷ []) x more another few
behind_another (a ∷ b ∷ c ∷ before) x more another few = behind_another (b ∷ c ∷ before) x more another few

-- the exchange that takes a hold is the last step of a get
took_last : (config : Config) (chunk : ℕ) (before after : WorkerState) (hold : HoldSheet) (found : Head)
    → WorkerGetsAny config chunk before after (Ok (hold, found))
    → (earlier : List OwnStep) × (last : OwnStep) × (after.sheet.steps ≡ earlier ++ (last ∷ [])) × (is_load last ≡ false)
took_last config chunk before after hold found gets = by (nat_lt chunk (all_chunks config)) refl
  where
    Last : Type 0
    Last = (earlier : List OwnStep) × (last : OwnStep) × (after.sheet.steps ≡ earlier ++ (last ∷ []))
        × (is_load last ≡ false)

    of_takes : (o : Option TakeRefusal) (item : ItemId) (row : List ℕ) (last head : Head) (tries : List OwnStep)
        → Ok (hold, found) ≡ get_any_answer o item row last
        → after.sheet.steps ≡ before.sheet.steps ++ (tries ++ takes chunk o head) → Last
    of_takes None item row last head tries is steps =
        (before.sheet.steps ++ tries, _, steps ∙ sym (append_assoc before.sheet.steps tries _), refl)
    of_takes (Some why) item row last head tries is steps = absurd (cc is)

    of_got : (first : Head) (more : List Head)
        → GotAny config.refs_limit chunk before after (Ok (hold, found)) first more → Last
    of_got first more got = of_takes (asked_refusal config.refs_limit of_any first more)
        (asked_life of_any chunk first more) got.row (last_found first more) (last_found first more)
        (load_and_failures chunk first more) got.answer (ap (λ (w : WorkerState). w.sheet.steps) got.steps)

    by : (near : Bool) → nat_lt chunk (all_chunks config) ≡ near → Last
    by true is = let t = gets.got (ltb-true chunk (all_chunks config) is) in of_got t.0 t.1 t.2
    by false is = let far = ltb-false chunk (all_chunks config) is in
        absurd (cc (gets.missing (omega (arith, far))).0)

-- so a get by a hold doesn't end by two loads,
pub took_end : (config : Config) (chunk : ℕ) (before after : WorkerState) (hold : HoldSheet) (found : Head)
    → WorkerGetsAny config chunk before after (Ok (hold, found)) → ends_by_loads after.sheet.steps ≡ false
took_end config chunk before after hold found gets =
    let took = took_last config chunk before after hold found gets in
    ap ends_by_loads took.2 ∙ behind_another took.0 took.1 [] took.3 (omega arith)

-- even if a touch follows
pub held_last : (config : Config) (chunk : ℕ) (before between after : WorkerState) (hold : HoldSheet) (found : Head)
    (exchanges others : ℕ) → WorkerGetsAny config chunk before between (Ok (hold, found))
    → MakesAtMost 1 exchanges others between.sheet.steps after.sheet.steps → ends_by_loads after.sheet.steps ≡ false
held_last config chunk before between after hold found exchanges others gets few =
    let took = took_last config chunk before between hold found gets in
    ap ends_by_loads (few.grown ∙ ap (λ (ss : List OwnStep). ss ++ few.made) took.2
    ∙ append_assoc took.0 (took.1 ∷ []) few.made)
    ∙ behind_another took.0 took.1 few.made took.3 few.few_loads
