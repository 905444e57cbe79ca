-- What held at some moment, or at each, of a window: from the last moment that had been seen on.
use Rattle.std.specs.Prelude.{◌≡◌, ◌⊎◌, List, [], ◌∷◌, ◌++◌}
use Rattle.seen_words.specs.declared.views.Moment.{Moment}

module _ (P : Moment → Type 0) where
  -- at one of these, which came behind what had been seen, or at the last of what had been seen
  abbrev pub AtOneOf : List Moment → List Moment → Type 0
  AtOneOf [] [] = ⊥
  AtOneOf [] (last ∷ older) = P last
  AtOneOf (now ∷ more) before = P now ⊎ AtOneOf more before

  abbrev pub AtEachOf : List Moment → List Moment → Type 0
  AtEachOf [] [] = Unit {0}
  AtEachOf [] (last ∷ older) = P last
  AtEachOf (now ∷ more) before = P now × AtEachOf more before

-- Between what had been seen before and what was seen after there was a moment at which this held: no earlier than the
-- last that had been seen before, and no later than the last that was seen after.
pub record AtOneWithin (P : Moment → Type 0) (before after : List Moment) : Type 0 where
  pub more : List Moment
  pub is : after ≡ more ++ before
  pub one : AtOneOf P more before

-- the same, said of what did not hold at each
pub record NotAlways (P : Moment → Type 0) (before after : List Moment) : Type 0 where
  pub more : List Moment
  pub is : after ≡ more ++ before
  pub not : AtEachOf P more before → ⊥

-- at the last moment that was seen
abbrev pub AtLast : (Moment → Type 0) → List Moment → Type 0
AtLast P [] = ⊥
AtLast P (now ∷ older) = P now
