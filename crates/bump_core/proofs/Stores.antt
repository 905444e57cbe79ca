-- What the command of a link comes to, wherever its item begins.
use Rattle.std.proofs.Common.{◌≡◌, ℕ, refl}
use Rattle.bump_rules.specs.declared.places.Start.{Start}
use Rattle.bump_rules.specs.declared.places.Start.TheVariants.{Hot, Temp}
use Rattle.bump_rules.specs.Starts.{link_command}
use Rattle.model_state.specs.State.{State}
use Rattle.bump_core.specs.Commands.{may_store, is_allowed}

-- when it is allowed
pub store_allowed : (s : State) (a : Start) (k x now : ℕ) → is_allowed s (link_command a k x now) ≡ may_store s k
store_allowed s Hot k x now = refl
store_allowed s Temp k x now = refl
