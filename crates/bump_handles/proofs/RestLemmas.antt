-- How far a lane is whose worker is closed.
use Rattle.std.proofs.Common.{◌≡◌, ℕ, zero, suc, ◌<◌, ◌≤◌, refl, arith}
use Rattle.bump_handles.specs.Applying.{state_of_left}
use Rattle.bump_handles.specs.declared.drainers.RestState.TheVariants as state

-- where bumps are left it is Left
pub left_is_left : (left : ℕ) → 0 < left → state_of_left left ≡ state.Left
left_is_left zero some = absurd (omega arith)
left_is_left (suc others) some = refl

-- where none is left it is Settled
pub none_is_settled : (left : ℕ) → left ≤ 0 → state_of_left left ≡ state.Settled
none_is_settled zero none = refl
none_is_settled (suc others) none = absurd (omega arith)
