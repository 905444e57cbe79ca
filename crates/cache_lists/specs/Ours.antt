-- The ways that a cache's items go.
use Rattle.std.specs.Prelude.{◌≡◌, Bool, true, List, [], ◌∷◌, Option, Some, IfSome}
use Rattle.std.specs.List.{list_any}
use Rattle.bump_rules.specs.declared.places.Place.{Place}
use Rattle.bump_rules.specs.declared.places.Place.TheVariants.{Hot, Warm, Cold, Temp, Dying, Unused}
use Rattle.cache_lists.specs.Flows.{Way, is_way}

-- the ways of its items. From TEMP an item goes nowhere else: it ends there.
abbrev pub ways : List Way
ways = (Unused, Hot) ∷ (Unused, Temp) ∷ (Hot, Warm) ∷ (Hot, Cold) ∷ (Warm, Warm) ∷ (Warm, Cold) ∷ (Cold, Warm) ∷ (Hot, Dying)
    ∷ (Warm, Dying) ∷ (Cold, Dying) ∷ (Temp, Dying) ∷ []

abbrev pub is_ours : Place → Place → Bool
is_ours from to = list_any (λ (way : Way). is_way (Some way) from to) ways

-- the way is one of these, if one was taken
abbrev pub are_ours : Option Way → Type 0
are_ours way = IfSome way (λ w. is_ours w.0 w.1 ≡ true)
