-- Why a run isn't traced.
use Rattle.std.proofs.Common.{◌≡◌, ◌<◌, ℕ, List, Option, None, Some, refl, sym, subst, inl, arith}
use Rattle.cache_config.specs.Configs.{first_cache_fault}
use Rattle.cache_config.specs.declared.config.CacheFault.{CacheFault}
use Rattle.cache_config.proofs.Soundness.{sound}
use Rattle.replay_runs.specs.Faults.{plan_fault, plan_fault_by, RefusesStore, IsOfTracing, Refuses}
use Rattle.replay_runs.specs.declared.plans.Plan.{Plan}
use Rattle.replay_runs.specs.declared.faults.ReplayFault.{ReplayFault}

-- no store is made of the plan
pub store_refused : (own : Option ReplayFault) (plan : Plan) (accesses times : List ℕ) (fault : ReplayFault)
    → RefusesStore own fault → Refuses own plan accesses times fault
store_refused None plan accesses times fault is = subst (λ (f : ReplayFault). IsOfTracing plan accesses times f) (sym is) (inl tt)
store_refused (Some first) plan accesses times fault is = is

-- a store is made of it, and no trace
pub trace_refused : (own : Option ReplayFault) (plan : Plan) (accesses times : List ℕ) (fault : ReplayFault) → own ≡ None
    → IsOfTracing plan accesses times fault → Refuses own plan accesses times fault
trace_refused own plan accesses times fault none is =
    subst (λ (o : Option ReplayFault). Refuses o plan accesses times fault) (sym none) is

-- the configuration of a plan without a fault has none
pub no_config_fault : (own : Option CacheFault) (parts : ℕ) → plan_fault_by own parts ≡ None → own ≡ None
no_config_fault None parts none = refl
no_config_fault (Some own) parts none = absurd (let u : ⊥ = cc none in u)

-- a plan without a fault has a part
pub some_part : (plan : Plan) → plan_fault plan ≡ None → 0 < plan.config.parts
some_part plan none =
    let is = sound plan.config (no_config_fault (first_cache_fault plan.config) plan.config.parts none) in
    omega (arith, is.parts_least)
