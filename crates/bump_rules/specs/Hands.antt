-- How far a worker is with an attempted bump: which life it is on.
use Rattle.std.specs.Prelude.{ℕ, Bool, true, false, cond, Option, None, Some}
use Rattle.bump_rules.specs.declared.items.ItemId.{ItemId}
use Rattle.bump_rules.specs.declared.hands.Hand.{Hand}
use Rattle.bump_rules.specs.declared.hands.Hand.TheVariants as hand
use Rattle.bump_rules.specs.Lives.{is_same}

-- 1 where a worker that isn't Idle is on the life
abbrev pub is_on : ItemId → Hand → ℕ
is_on item hand.Idle = 0
is_on item (hand.Trying life) = cond (is_same item life) 1 0
is_on item (hand.InHand life) = cond (is_same item life) 1 0
is_on item (hand.Clearing life) = cond (is_same item life) 1 0

-- what a worker does with an attempted bump: the life, if it does this
abbrev pub tried_life : Hand → Option ItemId
tried_life (hand.Trying life) = Some life
tried_life _ = None

abbrev pub life_in_hand : Hand → Option ItemId
life_in_hand (hand.InHand life) = Some life
life_in_hand _ = None

abbrev pub cleared_life : Hand → Option ItemId
cleared_life (hand.Clearing life) = Some life
cleared_life _ = None

abbrev pub is_idle : Hand → Bool
is_idle hand.Idle = true
is_idle _ = false
