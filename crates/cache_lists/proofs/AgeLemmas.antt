-- Looks at the times of the last items, and pulls behind them.
use Rattle.std.proofs.Common.{◌≡◌, ℕ, false, Some, None, is_some, refl, sym, ap, subst}
use Rattle.bump_rules.specs.declared.commands.Pulled.{Pulled}
use Rattle.bump_rules.specs.declared.places.Tail.{Tail}
use Rattle.bump_rules.specs.Tables.{pulled_to, last_pulled}
use Rattle.bump_class.specs.Books.{BookView}
use Rattle.cache_lists.specs.declared.ages.Bound.{Bound}
use Rattle.cache_lists.specs.Ages.{LooksPast, PullsPast, PullsPastAt, SeesTime}
use Rattle.cache_lists.specs.Flows.{Flows}
use Rattle.cache_lists.specs.Items.{KeepsItems}
use Rattle.cache_lists.proofs.Ways.{still}

-- a pull behind such a load, of the last chunk of its list
pub pulled_past : (from : Tail) (bound : Bound) (chunk now : ℕ) (answer : Pulled) (before after : BookView)
    → last_pulled from before.lists ≡ Some chunk → PullsPast from bound chunk now (is_some (pulled_to answer)) before after
    → LooksPast from bound now (is_some (pulled_to answer)) before after
pulled_past from bound chunk now answer before after last pulls =
    subst (λ at. PullsPastAt at from bound now (is_some (pulled_to answer)) before after) (sym last) pulls
