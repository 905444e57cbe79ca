-- Moves are counted by the numbers of their bumps: a history that has as many for each number as a lane tells has as many
-- in all.
use Rattle.std.proofs.Common.{◌≡◌, ℕ, zero, suc, ◌+◌, ◌<◌, ◌≤◌, ◌&&◌, ◌==◌, not, Bool, true, false, List, [], ◌∷◌, ◌++◌, length, refl, ap, ◌∙◌, arith, eq-eqb, ne_eqb}
use Rattle.std.proofs.Math.Bool.{and-true, and-false}
use mathlib.Core.Logic.{dite}
use native.Mathlib.Decide.{ℕ_discrete}
use Rattle.bump_rules.specs.declared.bumps.AppliedBump.{AppliedBump}
use Rattle.bump_rules.specs.declared.history.Cause.{Cause}
use Rattle.bump_rules.specs.declared.history.Cause.TheVariants.{Pull, Bump as BumpOf}
use Rattle.bump_rules.specs.declared.history.Change.{Change}
use Rattle.bump_rules.specs.declared.history.Change.TheVariants as change
use Rattle.bump_rules.specs.declared.items.ItemId.{ItemId}
use Rattle.bump_rules.specs.declared.lanes.LaneStage.{LaneStage}
use Rattle.bump_rules.specs.declared.lanes.LaneStage.TheVariants as lane
use Rattle.bump_rules.specs.declared.places.Segment.{Segment}
use Rattle.bump_rules.specs.Entries.{is_of_worker, is_any_bump, names_bump, is_stray, is_move_for, is_move_of, moves_of, is_moved, is_told_moved, is_told_of, told_of, moving, making, moves_told}
use Rattle.bump_rules.specs.Lanes.{is_half_made}
use Rattle.bump_rules.specs.Lawful.{bit}
use Rattle.bump_rules.specs.Tables.{is_cold, is_warm}
use Rattle.bump_rules.specs.Totals.{total, how_many}
use Rattle.bump_rules.proofs.Counted.{how_many_push}

-- ---- sums over the numbers below a bound

abbrev below : ℕ → (ℕ → ℕ) → ℕ
below zero f = 0
below (suc b) f = f b + below b f

below_same : (f g : ℕ → ℕ) → ((n : ℕ) → f n ≡ g n) → (b : ℕ) → below b f ≡ below b g
below_same f g same zero = refl
below_same f g same (suc b) = omega (arith, same b, below_same f g same b)

below_none : (b : ℕ) → below b (λ n. 0) ≡ 0
below_none zero = refl
below_none (suc b) = omega (arith, below_none b)

below_both : (f g : ℕ → ℕ) (b : ℕ) → below b (λ n. f n + g n) ≡ below b f + below b g
below_both f g zero = refl
below_both f g (suc b) = omega (arith, below_both f g b)

-- one number is counted nowhere below it, and once below a greater one
none_below : (k b : ℕ) → b ≤ k → below b (λ n. bit (k == n)) ≡ 0
none_below k zero low = refl
none_below k (suc b) low = omega (
  arith,
  ap bit (ne_eqb k b (λ e. absurd (omega (arith, low, e)))),
  none_below k b (omega (arith, low)),
)

one_below : (k b : ℕ) → k < b → below b (λ n. bit (k == n)) ≡ 1
one_below k zero high = absurd (omega (arith, high))
one_below k (suc b) high = dite (ℕ_discrete k b)
    (λ e. omega (arith, ap bit (eq-eqb k b e), none_below k b (omega (arith, e))))
    (λ ne. omega (arith, ap bit (ne_eqb k b ne), one_below k b (omega (arith, high, ne))))

-- ---- elements that count for one number each

module _ {A : Type 0} (by_number : ℕ → A → Bool) (in_all : A → Bool) (number : A → ℕ)
    (once : (x : A) (b : ℕ) → number x < b → below b (λ n. bit (by_number n x)) ≡ bit (in_all x)) where
  summed : (xs : List A) (b : ℕ) → total number xs < b
      → below b (λ n. how_many (by_number n) xs) ≡ how_many in_all xs
  summed [] b high = below_none b
  summed (x ∷ xs) b high = omega (
    arith,
    below_both (λ n. bit (by_number n x)) (λ n. how_many (by_number n) xs) b,
    once x b (omega (arith, high)),
    summed xs b (omega (arith, high)),
  )

-- ---- entries of a history

-- the number of its bump
abbrev number_of_cause : Cause → ℕ
number_of_cause Pull = 0
number_of_cause (BumpOf w n) = n

abbrev number_of_change : Change → ℕ
number_of_change (change.Linked l) = 0
number_of_change (change.LinkedTemp l) = 0
number_of_change (change.Moved l from to cause) = number_of_cause cause
number_of_change (change.Unlinked l) = 0
number_of_change (change.Swept l) = 0
number_of_change (change.Retired l) = 0

-- a move from COLD to WARM for a bump of the worker
abbrev is_bump_of : ℕ → Change → Bool
is_bump_of w (change.Linked l) = false
is_bump_of w (change.LinkedTemp l) = false
is_bump_of w (change.Moved l from to cause) = is_cold from && (is_warm to && is_of_worker w cause)
is_bump_of w (change.Unlinked l) = false
is_bump_of w (change.Swept l) = false
is_bump_of w (change.Retired l) = false

-- under tests that don't look at the number it is counted once
tested : (c h o : Bool) (k b : ℕ) → k < b
    → below b (λ n. bit (c && (h && (o && (k == n))))) ≡ bit (c && (h && o))
tested true true true k b high = one_below k b high
tested true true false k b high = below_none b
tested true false o k b high = below_none b
tested false h o k b high = below_none b

by_cause : (w : ℕ) (l : ItemId) (from to : Segment) (cause : Cause) (b : ℕ) → number_of_cause cause < b
    → below b (λ n. bit (is_move_for (λ i. true) w n (change.Moved l from to cause)))
    ≡ bit (is_bump_of w (change.Moved l from to cause))
by_cause w l from to Pull b high = none (is_cold from) (is_warm to)
  where
    none : (c h : Bool) → below b (λ n. bit (c && (h && false))) ≡ bit (c && (h && false))
    none true true = below_none b
    none true false = below_none b
    none false h = below_none b
by_cause w l from to (BumpOf v k) b high = tested (is_cold from) (is_warm to) (v == w) k b high

change_once : (w : ℕ) (e : Change) (b : ℕ) → number_of_change e < b
    → below b (λ n. bit (is_move_for (λ i. true) w n e)) ≡ bit (is_bump_of w e)
change_once w (change.Linked l) b high = below_none b
change_once w (change.LinkedTemp l) b high = below_none b
change_once w (change.Moved l from to cause) b high = by_cause w l from to cause b high
change_once w (change.Unlinked l) b high = below_none b
change_once w (change.Swept l) b high = below_none b
change_once w (change.Retired l) b high = below_none b

-- an entry that is no stray one is such a move where it is a move for a bump of the worker
straight : (w : ℕ) (e : Change) → bit (is_stray e) ≡ 0 → bit (is_move_of w e) ≡ bit (is_bump_of w e)
straight w (change.Linked l) fair = refl
straight w (change.LinkedTemp l) fair = refl
straight w (change.Moved l from to cause) fair = by cause fair
  where
    cold : (c h o : Bool) → bit (true && not (c && h)) ≡ 0 → bit o ≡ bit (c && (h && o))
    cold true true o none = refl
    cold true false o none = absurd (omega (arith, none))
    cold false h o none = absurd (omega (arith, none))

    pull : (c h : Bool) → bit false ≡ bit (c && (h && false))
    pull true true = refl
    pull true false = refl
    pull false h = refl

    by : (cause : Cause) → bit (is_any_bump cause && not (is_cold from && is_warm to)) ≡ 0
        → bit (is_of_worker w cause) ≡ bit (is_cold from && (is_warm to && is_of_worker w cause))
    by Pull none = pull (is_cold from) (is_warm to)
    by (BumpOf v k) none = cold (is_cold from) (is_warm to) (v == w) none
straight w (change.Unlinked l) fair = refl
straight w (change.Swept l) fair = refl
straight w (change.Retired l) fair = refl

all_straight : (w : ℕ) (es : List Change) → how_many is_stray es ≡ 0
    → moves_of w es ≡ how_many (is_bump_of w) es
all_straight w [] fair = refl
all_straight w (e ∷ es) fair = omega (
  arith,
  straight w e (omega (arith, fair)),
  all_straight w es (omega (arith, fair)),
)

-- an entry that names no bump adds no move
no_move_of : (w : ℕ) (e : Change) → names_bump e ≡ false → is_move_of w e ≡ false
no_move_of w (change.Linked l) quiet = refl
no_move_of w (change.LinkedTemp l) quiet = refl
no_move_of w (change.Moved l from to Pull) quiet = refl
no_move_of w (change.Moved l from to (BumpOf v k)) quiet = absurd (let u : ⊥ = cc quiet in u)
no_move_of w (change.Unlinked l) quiet = refl
no_move_of w (change.Swept l) quiet = refl
no_move_of w (change.Retired l) quiet = refl

pub moves_of_quiet : (w : ℕ) (es : List Change) (e : Change) → names_bump e ≡ false
    → moves_of w (es ++ e ∷ []) ≡ moves_of w es
moves_of_quiet w es e quiet = omega (arith, how_many_push (is_move_of w) es e, ap bit (no_move_of w e quiet))

-- a move for a bump adds one to those of its worker
pub moves_of_bump : (w v n : ℕ) (es : List Change) (l : ItemId) (from to : Segment)
    → moves_of w (es ++ change.Moved l from to (BumpOf v n) ∷ []) ≡ moves_of w es + bit (v == w)
moves_of_bump w v n es l from to = how_many_push (is_move_of w) es (change.Moved l from to (BumpOf v n))

-- ---- entries of a lane

told_tested : (m t : Bool) (k b : ℕ) → k < b → below b (λ n. bit (m && ((k == n) && t))) ≡ bit (m && t)
told_tested true true k b high =
    below_same (λ n. bit ((k == n) && true)) (λ n. bit (k == n)) (λ n. ap bit (and-true (k == n))) b
    ∙ one_below k b high
told_tested true false k b high =
    below_same (λ n. bit ((k == n) && false)) (λ n. 0) (λ n. ap bit (and-false (k == n))) b ∙ below_none b
told_tested false t k b high = below_none b

entry_once : (test : ItemId → Bool) (a : AppliedBump) (b : ℕ) → a.number < b
    → below b (λ n. bit (is_told_moved test n a)) ≡ bit (is_told_of test a)
entry_once test a b high = told_tested (is_moved a.outcome) (test a.life) a.number b high

-- no more are told than there are entries
pub told_few : (test : ItemId → Bool) (applied : List AppliedBump) → told_of test applied ≤ length applied
told_few test [] = omega arith
told_few test (a ∷ more) = by (is_told_of test a) (told_few test more)
  where
    by : (b : Bool) → told_of test more ≤ length more → bit b + told_of test more ≤ length (a ∷ more)
    by true few = omega (arith, few)
    by false few = omega (arith, few)

-- ---- the move in progress

abbrev number_moved : LaneStage → ℕ
number_moved lane.Empty = 0
number_moved (lane.Carrying b) = 0
number_moved (lane.Tried b) = 0
number_moved (lane.Cleared b f) = 0
number_moved (lane.Moved b) = b.number

moving_once : (test : ItemId → Bool) (x : LaneStage) (b : ℕ) → number_moved x < b
    → below b (λ n. moving test n x) ≡ making test x
moving_once test lane.Empty b high = below_none b
moving_once test (lane.Carrying d) b high = below_none b
moving_once test (lane.Tried d) b high = below_none b
moving_once test (lane.Cleared d f) b high = below_none b
moving_once test (lane.Moved d) b high = told_tested true (test d.life) d.number b high

-- a lane at rest has none
pub none_making : (test : ItemId → Bool) (x : LaneStage) → is_half_made x ≡ false → making test x ≡ 0
none_making test lane.Empty rests = refl
none_making test (lane.Carrying d) rests = refl
none_making test (lane.Tried d) rests = absurd (cc rests)
none_making test (lane.Cleared d f) rests = absurd (cc rests)
none_making test (lane.Moved d) rests = absurd (cc rests)

-- ---- both

-- what is equal for each number is equal in all
pub moves_as_told : (w : ℕ) (test : ItemId → Bool) (history : List Change) (applied : List AppliedBump) (x : LaneStage)
    → how_many is_stray history ≡ 0
    → ((n : ℕ) → how_many (is_move_for (λ l. true) w n) history ≡ moves_told test n applied x)
    → moves_of w history ≡ told_of test applied + making test x
moves_as_told w test history applied x fair each =
    let b : ℕ = total number_of_change history + total (λ (a : AppliedBump). a.number) applied + number_moved x + 1 in
    omega (
      arith,
      all_straight w history fair,
      summed (λ n e. is_move_for (λ l. true) w n e) (is_bump_of w) number_of_change (change_once w) history b
          (omega arith),
      below_same (λ n. how_many (is_move_for (λ l. true) w n) history) (λ n. moves_told test n applied x) each b,
      below_both (λ n. how_many (is_told_moved test n) applied) (λ n. moving test n x) b,
      summed (λ n a. is_told_moved test n a) (is_told_of test) (λ a. a.number) (entry_once test) applied b
          (omega arith),
      moving_once test x b (omega arith),
    )
