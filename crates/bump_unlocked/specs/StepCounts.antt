-- How many steps a call makes.
use Rattle.std.specs.Prelude.{◌≡◌, ℕ, ◌≤◌, Bool, true, false, List, ◌++◌}
use Rattle.bump_rules.specs.Totals.{how_many}
use Rattle.bump_steps.specs.declared.views.Kind.{Kind}
use Rattle.bump_steps.specs.declared.views.Kind.TheVariants as kind
use Rattle.bump_steps.specs.declared.views.OwnStep.{OwnStep}

-- as what a step counts
pub data Cost : Type 0 where
  -- a load of a head word, by which nothing else is done
  ALoad : Cost
  -- an exchange on a head word that takes a reference, or failed to
  AnExchange : Cost
  -- another step of a worker on a head word
  Another : Cost
  -- a step that isn't counted: on another word, or of a class or a lane
  Uncounted : Cost

-- as what a step of each kind counts
abbrev pub cost_of : Kind → Cost
cost_of kind.Load = ALoad
cost_of kind.Failed = AnExchange
cost_of kind.Take = AnExchange
cost_of kind.Fetch = Another
cost_of kind.Mark = Another
cost_of kind.Reserve = AnExchange
cost_of kind.Unmark = Another
cost_of kind.GiveBackBump = Another
cost_of kind.StoreTime = Uncounted
cost_of kind.Link = Uncounted
cost_of kind.Unlink = Uncounted
cost_of kind.Sweep = Uncounted
cost_of kind.ClearActive = Uncounted
cost_of kind.Move = Uncounted
cost_of kind.Try = Uncounted
cost_of kind.Alight = Uncounted
cost_of kind.PutLabel = Uncounted
cost_of kind.PutWord = Uncounted
cost_of kind.PutTime = Uncounted
cost_of kind.SeeTime = Uncounted
cost_of kind.SeeLabel = Uncounted
cost_of kind.SeeWord = Uncounted
cost_of kind.SeeGeneration = Uncounted
cost_of kind.Meet = Uncounted

-- a load of a head word, by which nothing else is done
abbrev pub is_load : OwnStep → Bool
is_load x = by (cost_of x.kind)
  where
    by : Cost → Bool
    by ALoad = true
    by _ = false

-- an exchange on a head word that takes a reference, or failed to
abbrev pub is_exchange : OwnStep → Bool
is_exchange x = by (cost_of x.kind)
  where
    by : Cost → Bool
    by AnExchange = true
    by _ = false

-- another step of a worker on a head word
abbrev pub is_other : OwnStep → Bool
is_other x = by (cost_of x.kind)
  where
    by : Cost → Bool
    by Another = true
    by _ = false

-- The steps that were made are at most so many loads, so many exchanges, and so many others on a head word.
pub record MakesAtMost (loads exchanges others : ℕ) (before after : List OwnStep) : Type 0 where
  pub made : List OwnStep
  pub grown : after ≡ before ++ made
  pub few_loads : how_many is_load made ≤ loads
  pub few_exchanges : how_many is_exchange made ≤ exchanges
  pub few_others : how_many is_other made ≤ others
