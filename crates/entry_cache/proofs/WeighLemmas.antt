-- Rows that are evicted one after the other.
use Rattle.std.proofs.Common.{ℕ, List, [], ◌∷◌, ◌++◌, Some, refl, subst}
use Rattle.call_log.specs.Calls.{CallerView}
use Rattle.bump_cache.specs.States.{PartState}
use Rattle.bump_cache.specs.declared.answers.Evicted.{Evicted}
use Rattle.entry_cache.specs.Weighing.{EvictsRow, EvictsRows}

-- one more was evicted
pub evicts_more : (part now : ℕ) (rows : List (Evicted ℕ ℕ)) (row : Evicted ℕ ℕ) (me between me' : CallerView PartState)
    → EvictsRows part now rows me between → EvictsRow part now (Some row) between me'
    → EvictsRows part now (rows ++ row ∷ []) me me'
evicts_more part now [] row me between me' same evicts =
    (me', subst (λ from. EvictsRow part now (Some row) from me') same evicts, refl)
evicts_more part now (first ∷ rows) row me between me' evicted evicts =
    (evicted.0, evicted.1, evicts_more part now rows row evicted.0 between me' evicted.2 evicts)
