-- The moves for bumps that a history has, and those that a lane tells of, entry by entry:
-- over lists and one lane alone.
use Rattle.std.proofs.Common.{◌≡◌, ℕ, suc, ◌+◌, ◌<◌, ◌≤◌, Bool, true, false, ◌&&◌, ◌==◌, List, [], ◌∷◌, ◌++◌, map, slice_get, Some, refl, sym, ap, ◌∙◌, subst, arith, ne_eqb, ◌⊎◌, inl, inr}
use Rattle.std.proofs.Math.Bool.{and-true, and-false}
use Rattle.std.proofs.lemmas.Bool.{and_from, and_parts, cases_lt, not_from_false, eqb-true, eq-eqb}
use Rattle.std.specs.List.{Contains}
use Rattle.std.specs.Prelude.{not}
use Rattle.bump_rules.specs.declared.items.ItemId.{ItemId}
use Rattle.bump_rules.specs.declared.history.Cause.{Cause}
use Rattle.bump_rules.specs.declared.history.Cause.TheVariants.{Pull, Bump as BumpOf}
use Rattle.bump_rules.specs.declared.history.Change.{Change}
use Rattle.bump_rules.specs.declared.history.Change.TheVariants as change
use Rattle.bump_rules.specs.declared.bumps.AppliedBump.{AppliedBump}
use Rattle.bump_rules.specs.declared.bumps.Bump.{Bump}
use Rattle.bump_rules.specs.declared.lanes.LaneStage.{LaneStage}
use Rattle.bump_rules.specs.declared.lanes.LaneStage.TheVariants as lane
use Rattle.bump_rules.specs.Tables.{is_cold, is_warm}
use Rattle.bump_rules.specs.Totals.{how_many}
use Rattle.bump_rules.specs.Rings.{aboard, bump_applied, numbered_from}
use Rattle.bump_rules.specs.Entries.{is_any_bump, is_bump, names_bump, is_stray, is_move_for, is_moved, is_told_moved, moving, moves_told, ShowsMove}
use Rattle.bump_rules.specs.Lanes.{bump_of, applied_bump}
use Rattle.bump_rules.specs.declared.bumps.Outcome.{Outcome}
use Rattle.bump_rules.specs.declared.bumps.Outcome.TheVariants as outcome
use Rattle.bump_rules.proofs.Counted.{contained_counted}
use Rattle.bump_rules.proofs.Updates.{total_append, total_same}
use Rattle.bump_rules.specs.Lawful.{bit}

-- Entries of a history.

-- a cause that is no bump is not this bump
no_bump : (w n : ℕ) (cause : Cause) → is_any_bump cause ≡ false → is_bump w n cause ≡ false
no_bump w n Pull none = refl
no_bump w n (BumpOf v m) none = absurd (let u : ⊥ = cc in u)

-- an entry that names no bump is no move for one
pub no_move : (test : ItemId → Bool) (w n : ℕ) (e : Change) → names_bump e ≡ false → is_move_for test w n e ≡ false
no_move test w n (change.Linked life) none = refl
no_move test w n (change.LinkedTemp life) none = refl
no_move test w n (change.Moved life from to cause) none =
    ap (λ b. test life && (is_cold from && (is_warm to && b))) (no_bump w n cause none)
    ∙ (ap (λ b. test life && (is_cold from && b)) (and-false (is_warm to))
    ∙ (ap (λ b. test life && b) (and-false (is_cold from))
    ∙ and-false (test life)))
no_move test w n (change.Unlinked life) none = refl
no_move test w n (change.Swept life) none = refl
no_move test w n (change.Retired life) none = refl

-- nor is it a stray one
pub no_stray : (e : Change) → names_bump e ≡ false → is_stray e ≡ false
no_stray (change.Linked life) none = refl
no_stray (change.LinkedTemp life) none = refl
no_stray (change.Moved life from to cause) none = ap (λ b. b && not (is_cold from && is_warm to)) none
no_stray (change.Unlinked life) none = refl
no_stray (change.Swept life) none = refl
no_stray (change.Retired life) none = refl

-- The same four tests in the orders of an entry of a history and of a lane.
pub tests_turned : (a b c d : Bool) → (a && (b && (c && d))) ≡ (c && (d && (a && b)))
tests_turned true true c d = ap (λ x. c && x) (sym (and-true d))
tests_turned true false c d = sym (ap (λ x. c && x) (and-false d) ∙ and-false c)
tests_turned false b c d = sym (ap (λ x. c && x) (and-false d) ∙ and-false c)

-- Entries of a lane.

-- equal tests tell of equally many moves
pub told_same : (t u : ItemId → Bool) → ((l : ItemId) → t l ≡ u l) → (n : ℕ) (applied : List AppliedBump) (x : LaneStage)
    → moves_told t n applied x ≡ moves_told u n applied x
told_same t u same n applied x = omega (
  arith,
  total_same (λ (a : AppliedBump). bit (is_told_moved t n a)) (λ a. bit (is_told_moved u n a))
      (λ a. ap (λ b. bit (is_moved a.outcome && ((a.number == n) && b))) (same a.life)) applied,
  moving_same x,
)
  where
    moving_same : (x : LaneStage) → moving t n x ≡ moving u n x
    moving_same lane.Empty = refl
    moving_same (lane.Carrying b) = refl
    moving_same (lane.Tried b) = refl
    moving_same (lane.Cleared b found) = refl
    moving_same (lane.Moved b) = ap (λ p. bit ((b.number == n) && p)) (same b.life)

-- tests of which no item passes both tell of no more moves together than there are
pub told_apart : (t u : ItemId → Bool) → ((l : ItemId) → bit (t l) + bit (u l) ≤ 1)
    → (n : ℕ) (applied : List AppliedBump) (x : LaneStage)
    → moves_told t n applied x + moves_told u n applied x ≤ moves_told (λ l. true) n applied x
told_apart t u apart n applied x = omega (arith, entries applied, last x)
  where
    one : (p q r : Bool) → bit q + bit r ≤ 1 → bit (p && q) + bit (p && r) ≤ bit (p && true)
    one true q r few = omega (arith, few)
    one false q r few = omega arith

    entry : (m p q r : Bool) → bit q + bit r ≤ 1 → bit (m && (p && q)) + bit (m && (p && r)) ≤ bit (m && (p && true))
    entry true p q r few = one p q r few
    entry false p q r few = omega arith

    entries : (applied : List AppliedBump) → how_many (is_told_moved t n) applied + how_many
        (is_told_moved u n) applied ≤ how_many (is_told_moved (λ l. true) n) applied
    entries [] = omega arith
    entries (a ∷ more) = omega (
      arith,
      entry (is_moved a.outcome) (a.number == n) (t a.life) (u a.life) (apart a.life),
      entries more,
    )

    last : (x : LaneStage) → moving t n x + moving u n x ≤ moving (λ l. true) n x
    last lane.Empty = omega arith
    last (lane.Carrying b) = omega arith
    last (lane.Tried b) = omega arith
    last (lane.Cleared b found) = omega arith
    last (lane.Moved b) = one (b.number == n) (t b.life) (u b.life) (apart b.life)

-- a test tells of no more moves than there are
pub told_below : (test : ItemId → Bool) (n : ℕ) (applied : List AppliedBump) (x : LaneStage)
    → moves_told test n applied x ≤ moves_told (λ l. true) n applied x
told_below test n applied x = omega (arith, told_apart test (λ l. false) (λ l. few (test l)) n applied x)
  where
    few : (b : Bool) → bit b + bit false ≤ 1
    few true = omega arith
    few false = omega arith

-- Numbers of bumps.

-- the bump has this number
abbrev pub is_number : ℕ → Bump → Bool
is_number n b = b.number == n

-- the lane's entry is of bump n, and tells of no move
abbrev pub is_told_unmoved : ℕ → AppliedBump → Bool
is_told_unmoved n a = not (is_moved a.outcome) && (a.number == n)

-- bumps that are numbered from above a number have it never
numbered_above : (n m : ℕ) (ls : List ItemId) → n < m → how_many (is_number n) (numbered_from m ls) ≡ 0
numbered_above n m [] above = refl
numbered_above n m (l ∷ ls) above = omega (
  arith,
  ap bit (ne_eqb m n (λ e. absurd (omega arith))),
  numbered_above n (suc m) ls (omega arith),
)

-- bumps that are numbered have a number once at most
numbered_once : (n m : ℕ) (ls : List ItemId) → how_many (is_number n) (numbered_from m ls) ≤ 1
numbered_once n m [] = omega arith
numbered_once n m (l ∷ ls) = by (m == n) refl (numbered_once n (suc m) ls)
  where
    by : (b : Bool) → (m == n) ≡ b → how_many (is_number n) (numbered_from (suc m) ls) ≤ 1
        → how_many (is_number n) (numbered_from m (l ∷ ls)) ≤ 1
    by true is later = omega (arith, ap bit is, numbered_above n (suc m) ls (omega (arith, eqb-true m n is)))
    by false is later = omega (arith, ap bit is, later)

-- the moves of bump n that a lane tells of, and its entries of bump n that tell of none, are no
-- more than its bumps of that number
told_numbered : (n : ℕ) (applied : List AppliedBump) (x : LaneStage)
    → moves_told (λ l. true) n applied x + how_many (is_told_unmoved n) applied ≤ how_many (is_number n)
    (map bump_applied applied ++ aboard x)
told_numbered n applied x = omega (
  arith,
  total_append (λ (b : Bump). bit (is_number n b)) (map bump_applied applied)
      (aboard x),
  entries applied,
  last x,
)
  where
    entry : (m p : Bool) → bit (m && (p && true)) + bit (not m && p) ≤ bit p
    entry true true = omega arith
    entry true false = omega arith
    entry false p = omega arith

    entries : (applied : List AppliedBump) → how_many (is_told_moved (λ l. true) n) applied + how_many
        (is_told_unmoved n) applied ≤ how_many (is_number n) (map bump_applied applied)
    entries [] = omega arith
    entries (a ∷ more) = omega (arith, entry (is_moved a.outcome) (a.number == n), entries more)

    last : (x : LaneStage) → moving (λ l. true) n x ≤ how_many (is_number n) (aboard x)
    last lane.Empty = omega arith
    last (lane.Carrying b) = omega arith
    last (lane.Tried b) = omega arith
    last (lane.Cleared b found) = omega arith
    last (lane.Moved b) = omega (arith, ap bit (and-true (b.number == n)))

module _ (applied : List AppliedBump) (x : LaneStage) (received : List ItemId)
    (in_order : map bump_applied applied ++ aboard x ≡ numbered_from 0 received) where
  -- a lane that applies what it received, in order, tells of one move at most for a bump
  pub told_once : (n : ℕ) → moves_told (λ l. true) n applied x ≤ 1
  told_once n = omega (
    arith,
    told_numbered n applied x,
    ap (how_many (is_number n)) in_order,
    numbered_once n 0 received,
  )

  -- and of none for a bump of which an entry tells otherwise
  pub told_never : (a : AppliedBump) → Contains applied a → is_moved a.outcome ≡ false
      → moves_told (λ l. true) a.number applied x ≡ 0
  told_never a has stays = omega (
    arith,
    told_numbered a.number applied x,
    ap (how_many (is_number a.number)) in_order,
    numbered_once a.number 0 received,
    contained_counted (is_told_unmoved a.number) applied a has (and_from (not (is_moved a.outcome))
        (a.number == a.number) (not_from_false (is_moved a.outcome) stays) (eq-eqb a.number a.number refl)),
  )

-- Where a move is told.

-- an outcome that is Moved
moved_from : (o : Outcome) → is_moved o ≡ true → o ≡ outcome.Moved
moved_from outcome.Moved is = refl
moved_from outcome.TimeOnly is = absurd (let u : ⊥ = cc in u)
moved_from outcome.Gone is = absurd (let u : ⊥ = cc in u)

-- A test that one life alone passes.
module _ (l : ItemId) (test : ItemId → Bool) (only : (j : ItemId) → test j ≡ true → j ≡ l) (n : ℕ) where
  -- an entry that tells of a move for bump n of the life
  entry_is : (a : AppliedBump) → is_told_moved test n a ≡ true → a ≡ applied_bump (bump_of n l) outcome.Moved
  entry_is a told =
      let parts = and_parts (is_moved a.outcome) ((a.number == n) && test a.life) told in
      let more = and_parts (a.number == n) (test a.life) parts.1 in
      ap (λ (k : ℕ). applied_bump (bump_of k a.life) a.outcome) (eqb-true a.number n more.0)
      ∙ (ap (λ (j : ItemId). applied_bump (bump_of n j) a.outcome) (only a.life more.1)
      ∙ ap (applied_bump (bump_of n l)) (moved_from a.outcome parts.0))

  -- among entries that are numbered from m it stands at its number
  entry_at : (m : ℕ) (applied : List AppliedBump) (rest : List Bump) (received : List ItemId)
      → map bump_applied applied ++ rest ≡ numbered_from m received
      → 0 < how_many (is_told_moved test n) applied → (k : ℕ) × (n ≡ m + k) × (slice_get applied k
      ≡ Some (applied_bump (bump_of n l) outcome.Moved))
  entry_at m [] rest received is some = absurd (omega (arith, some))
  entry_at m (a ∷ more) rest [] is some = absurd (let u : ⊥ = cc in u)
  entry_at m (a ∷ more) rest (j ∷ ls) is some = by (is_told_moved test n a) refl (entry_at (suc m) more rest ls)
    where
      first : a.number ≡ m
      first = let e : bump_applied a ≡ bump_of m j = cc in ap (λ (b : Bump). b.number) e

      behind : map bump_applied more ++ rest ≡ numbered_from (suc m) ls
      behind = cc

      by : (b : Bool) → is_told_moved test n a ≡ b
          → (map bump_applied more ++ rest ≡ numbered_from (suc m) ls → 0 < how_many (is_told_moved test n) more
          → (k : ℕ) × (n ≡ suc m + k) × (slice_get more k ≡ Some (applied_bump (bump_of n l) outcome.Moved)))
          → (k : ℕ) × (n ≡ m + k) × (slice_get (a ∷ more) k ≡ Some (applied_bump (bump_of n l) outcome.Moved))
      by true told later = let e = entry_is a told in (
        0,
        omega (arith, first, ap (λ (x : AppliedBump). x.number) e),
        ap (λ (x : AppliedBump). Some x) e,
      )
      by false told later = let k = later behind (omega (arith, some, ap bit told)) in (
        suc k.0,
        omega (arith, k.1),
        k.2,
      )

  -- a lane that has just made the move
  moving_is : (x : LaneStage) → 0 < moving test n x → x ≡ lane.Moved (bump_of n l)
  moving_is lane.Empty some = absurd (omega (arith, some))
  moving_is (lane.Carrying b) some = absurd (omega (arith, some))
  moving_is (lane.Tried b) some = absurd (omega (arith, some))
  moving_is (lane.Cleared b found) some = absurd (omega (arith, some))
  moving_is (lane.Moved b) some = by ((b.number == n) && test b.life) refl
    where
      by : (t : Bool) → ((b.number == n) && test b.life) ≡ t → lane.Moved b ≡ lane.Moved (bump_of n l)
      by true is =
          let parts = and_parts (b.number == n) (test b.life) is in
          ap (λ (k : ℕ). lane.Moved (bump_of k b.life)) (eqb-true b.number n parts.0)
          ∙ ap (λ (j : ItemId). lane.Moved (bump_of n j)) (only b.life parts.1)
      by false is = absurd (omega (arith, some, ap bit is))

  -- a lane that tells of a move for bump n of the life shows it
  pub told_shows : (applied : List AppliedBump) (x : LaneStage) (received : List ItemId)
      → map bump_applied applied ++ aboard x ≡ numbered_from 0 received
      → 0 < moves_told test n applied x → ShowsMove n l applied x
  told_shows applied x received is some = by (cases_lt 0 (how_many (is_told_moved test n) applied))
    where
      by : (0 < how_many (is_told_moved test n) applied) ⊎ (how_many (is_told_moved test n) applied ≤ 0)
          → ShowsMove n l applied x
      by (inl told) =
          let k = entry_at 0 applied (aboard x) received is told in
          let same : k.0 ≡ n = omega (arith, k.1) in
          inl (subst (λ (i : ℕ). slice_get applied i ≡ Some (applied_bump (bump_of n l) outcome.Moved)) same k.2)
      by (inr none) = inr (moving_is x (omega (arith, some, none)))
