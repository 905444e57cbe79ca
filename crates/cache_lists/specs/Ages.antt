-- How long ago the last items of the lists were used, and what a look at one comes to.
use Rattle.std.specs.Prelude.{◌≡◌, ℕ, ◌-◌, ◌*◌, ◌/◌, Bool, false, ◌||◌, if◌then◌else◌, nat_lt, Option, None, Some, is_some}
use Rattle.bump_links.specs.Lists.{last_of}
use Rattle.bump_rules.specs.declared.commands.Pulled.{Pulled}
use Rattle.bump_rules.specs.declared.items.Head.{Head}
use Rattle.bump_rules.specs.declared.places.Tail.{Tail}
use Rattle.bump_rules.specs.declared.places.Tail.TheVariants as tail
use Rattle.bump_rules.specs.Tables.{pulled_to, last_pulled}
use Rattle.bump_class.specs.Books.{BookView}
use Rattle.bump_class.specs.Changes.{book_after_see}
use Rattle.bump_class.specs.Pulls.{PullsBy, limits_of_call}
use Rattle.cache_lists.specs.declared.ages.Bound.{Bound}
use Rattle.cache_lists.specs.declared.ages.Bounds.{Bounds}
use Rattle.cache_lists.specs.Counts.{capped}

-- how long ago this time was; no time ago where it is ahead
abbrev pub ticks_since : ℕ → ℕ → ℕ
ticks_since time now = now - time

-- so many percent of an age, as far as a word goes; without a percentage no age is too long
abbrev pub longest_idle : Option ℕ → ℕ → ℕ
longest_idle None age = 18446744073709551615
longest_idle (Some percent) age = capped (age * percent / 100)

-- the bound of HOT, and of WARM, where COLD's age is this
abbrev pub hot_bound : Bounds → ℕ → Bound
hot_bound bounds age = record { most = bounds.hot; idle = longest_idle bounds.hot_age age }

abbrev pub warm_bound : Bounds → ℕ → Bound
warm_bound bounds age = record { most = bounds.warm; idle = longest_idle bounds.warm_age age }

-- a list may have so many items where its last one was used so long ago: none where that is too long
abbrev pub most_of : Bound → ℕ → ℕ
most_of bound idle = if nat_lt bound.idle idle then 0 else bound.most

-- The time of COLD's last item was loaded, which is at this chunk.
pub record SeesTime (chunk age now : ℕ) (before after : BookView) : Type 0 where
  pub head : Head
  pub time : ℕ
  pub seen : after ≡ book_after_see chunk head time before
  pub age_is : age ≡ ticks_since time now

-- the age of COLD: how long ago its last item was used; none where it is empty, and then nothing changed
abbrev pub SeesAge : Option ℕ → ℕ → ℕ → BookView → BookView → Type 0
SeesAge None age now before after = (age ≡ 0) × (after ≡ before)
SeesAge (Some chunk) age now before after = SeesTime chunk age now before after

abbrev pub SeesColdAge : ℕ → ℕ → BookView → BookView → Type 0
SeesColdAge age now before after = SeesAge (last_of before.lists.cold) age now before after

-- The last item of a list was looked at, which is at this chunk: its time was loaded, and then it was pulled, by the limit
-- that its list has for an item that was used so long ago.
pub record PullsPast (from : Tail) (bound : Bound) (chunk now : ℕ) (moved : Bool) (before after : BookView) : Type 0 where
  pub idle : ℕ
  pub seen : BookView
  pub sees : SeesTime chunk idle now before seen
  pub answer : Pulled
  pub pulls : PullsBy (limits_of_call (most_of bound idle)) seen from answer after
  pub told : moved ≡ is_some (pulled_to answer)

-- where the list is empty nothing changed
abbrev pub PullsPastAt : Option ℕ → Tail → Bound → ℕ → Bool → BookView → BookView → Type 0
PullsPastAt None from bound now moved before after = (moved ≡ false) × (after ≡ before)
PullsPastAt (Some chunk) from bound now moved before after = PullsPast from bound chunk now moved before after

-- a look at the last item of HOT or WARM, by this bound
abbrev pub LooksPast : Tail → Bound → ℕ → Bool → BookView → BookView → Type 0
LooksPast from bound now moved before after = PullsPastAt (last_pulled from before.lists) from bound now moved before after

-- HOT is looked at, and then WARM; an item of one of them was moved, or none
pub record Balances (hot warm : Bound) (now : ℕ) (moved : Bool) (before after : BookView) : Type 0 where
  pub between : BookView
  pub moved_hot : Bool
  pub at_hot : LooksPast tail.Hot hot now moved_hot before between
  pub moved_warm : Bool
  pub at_warm : LooksPast tail.Warm warm now moved_warm between after
  pub told : moved ≡ (moved_hot || moved_warm)
