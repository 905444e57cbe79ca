-- What a lane keeps when the next bump goes aboard, and when the bump aboard is applied.
use Rattle.std.proofs.Common.{◌≡◌, ℕ, suc, ◌+◌, ◌<◌, ◌==◌, true, false, List, [], ◌∷◌, ◌++◌, length, map, slice_get, inl, inr, Option, None, Some, IfSome, refl, sym, ap, ◌∙◌, subst, arith, eqb-true}
use Rattle.std.specs.Prelude.{option_map}
use Rattle.std.proofs.lemmas.Bool.{and_parts}
use Rattle.std.proofs.lemmas.List.{append-nil, map-append, length-append, length-map}
use Rattle.bump_rules.specs.declared.bumps.Bump.{Bump}
use Rattle.bump_rules.specs.declared.bumps.Outcome.{Outcome}
use Rattle.bump_rules.specs.declared.bumps.Outcome.TheVariants as outcome
use Rattle.bump_rules.specs.declared.items.ItemId.{ItemId}
use Rattle.bump_rules.specs.declared.lanes.LaneStage.{LaneStage}
use Rattle.bump_rules.specs.declared.lanes.LaneStage.TheVariants as lane
use Rattle.bump_rules.specs.Entries.{ShowsMove}
use Rattle.bump_rules.specs.Lanes.{carried, bump_of, applied_bump, is_half_made}
use Rattle.bump_rules.specs.Lives.{life, is_same}
use Rattle.bump_rules.specs.Rings.{aboard, bump_applied, numbered_from, most_attempts}
use Rattle.bump_rules.proofs.ToldMoves.{told_shows}
use Rattle.bump_steps.specs.declared.views.ClassSheet.{ClassSheet}
use Rattle.bump_steps.specs.declared.views.LaneSheet.{LaneSheet}
use Rattle.bump_steps.specs.declared.views.Ride.{Ride}
use Rattle.bump_steps.specs.Riders.{lane_after_board, bump_of_ride, applied_by}
use Rattle.bump_steps.specs.Views.{bump_aboard, owns}
use Rattle.bump_heads.specs.Applying.{carried_by, TellsMoves, is_own}
use Rattle.bump_heads.specs.Seats.{aboard_lane}
use Rattle.bump_class.specs.Lanes.{KeepsLane, LaneView, IsRawLane, Boards, TellsAboard, carries, entries, sheet_or, lives}
use Rattle.bump_class.specs.Applications.{FoundHeads, lane_after_update, EachMoveIsTold}

-- a numbered list is as long as its lives
numbered_long : (n : ℕ) (ls : List ItemId) → length (numbered_from n ls) ≡ length ls
numbered_long n [] = refl
numbered_long n (l ∷ ls) = ap suc (numbered_long (suc n) ls)

-- one more life has the next number
numbered_push : (n : ℕ) (xs : List ItemId) (l : ItemId)
    → numbered_from n (xs ++ l ∷ []) ≡ numbered_from n xs ++ bump_of (n + length xs) l ∷ []
numbered_push n [] l = ap (λ (k : ℕ). bump_of k l ∷ []) (let same : n ≡ n + 0 = omega arith in same)
numbered_push n (x ∷ xs) l = ap (λ (bs : List Bump). bump_of n x ∷ bs) (numbered_push (suc n) xs l
    ∙ ap (λ (k : ℕ). numbered_from (suc n) xs ++ bump_of k l ∷ [])
    (let same : suc n + length xs ≡ n + suc (length xs) = omega arith in same))

-- the bump that is carried is the one aboard
aboard_where_carried : (s : LaneStage) (b : Bump) → carried s ≡ Some b → aboard s ≡ b ∷ []
aboard_where_carried lane.Empty b is = absurd (cc is)
aboard_where_carried (lane.Carrying d) b is = let e : d ≡ b = cc is in ap (λ (x : Bump). x ∷ []) e
aboard_where_carried (lane.Tried d) b is = absurd (cc is)
aboard_where_carried (lane.Cleared d f) b is = absurd (cc is)
aboard_where_carried (lane.Moved d) b is = absurd (cc is)

-- so it is of the sheet of a seat that is whole
pub carried_sheet : (o : Option LaneSheet) (b : Bump) → carried_by o ≡ Some b → carried (sheet_or o).stage ≡ Some b
carried_sheet None b is = absurd (cc is)
carried_sheet (Some l) b is = is

-- and of the seat itself, which is whole
pub carried_seat : (o : Option LaneSheet) (v n : ℕ) (rs : List Ride) (b : Bump) → KeepsLane o v n rs
    → carried (sheet_or o).stage ≡ Some b → carried_by o ≡ Some b
carried_seat None v n rs b keeps is = absurd (cc keeps.whole)
carried_seat (Some l) v n rs b keeps is = is

-- one more bump than a lane applied has a number
pub few_aboard : (o : Option LaneSheet) (v n : ℕ) (rs : List Ride) (b : Bump) → KeepsLane o v n rs
    → carried_by o ≡ Some b → n < most_attempts
few_aboard o v n rs b keeps is = subst (λ (x : Option Bump). IfSome x (λ d. n < most_attempts)) (carried_sheet o b is)
    keeps.few

-- nothing is aboard
none_aboard : (s : LaneStage) → bump_aboard s ≡ None → (s ≡ lane.Empty) × (aboard s ≡ [])
none_aboard lane.Empty is = (refl, refl)
none_aboard (lane.Carrying d) is = absurd (cc is)
none_aboard (lane.Tried d) is = absurd (cc is)
none_aboard (lane.Cleared d f) is = absurd (cc is)
none_aboard (lane.Moved d) is = absurd (cc is)

-- a lane at rest that carries none has none aboard
pub none_carried : (o : Option LaneSheet) (v n : ℕ) (rs : List Ride) → KeepsLane o v n rs
    → carried (sheet_or o).stage ≡ None → aboard_lane o ≡ None
none_carried None v n rs keeps none = refl
none_carried (Some l) v n rs keeps none = by l.stage keeps.lane.at_rest none
  where
    by : (s : LaneStage) → is_half_made s ≡ false → carried s ≡ None → bump_aboard s ≡ None
    by lane.Empty rests none = refl
    by (lane.Carrying d) rests none = absurd (cc none)
    by (lane.Tried d) rests none = absurd (cc rests)
    by (lane.Cleared d f) rests none = absurd (cc rests)
    by (lane.Moved d) rests none = absurd (cc rests)

-- then the number of the next bump is that of the bumps applied
next_is : (l : LaneSheet) (rs : List Ride) → map bump_applied l.applied ++ aboard l.stage ≡ numbered_from 0 (lives rs)
    → aboard l.stage ≡ [] → length l.applied ≡ length rs
next_is l rs order none = omega (
  arith,
  ap length order,
  length-append (map bump_applied l.applied) (aboard l.stage),
  ap length none,
  length-map l.applied bump_applied,
  numbered_long 0 (lives rs),
  length-map rs (λ (r : Ride). r.life),
)

pub next_number : (o : Option LaneSheet) (v n : ℕ) (rs : List Ride) → KeepsLane o v n rs → aboard_lane o ≡ None
    → length (applied_by o) ≡ length rs
next_number None v n rs keeps is = absurd (cc keeps.whole)
next_number (Some l) v n rs keeps is = next_is l rs keeps.lane.in_order (none_aboard l.stage is).1

-- so the count of a lane with nothing aboard is the number of the next bump
pub count_is : (o : Option LaneSheet) (v n : ℕ) (rs : List Ride) (r : Ride) → KeepsLane o v n rs → aboard_lane o ≡ None
    → r.number ≡ length rs → n ≡ r.number
count_is None v n rs r keeps none next = absurd (cc keeps.whole)
count_is (Some l) v n rs r keeps none next = keeps.counted ∙ next_number (Some l) v n rs keeps none ∙ sym next

-- a sheet of a seat that is whole changes as the seat does
pub sheet_boarded : (o : Option LaneSheet) (b : Bump) → o ≡ Some (sheet_or o)
    → sheet_or (option_map (lane_after_board b) o) ≡ lane_after_board b (sheet_or o)
sheet_boarded None b whole = absurd (cc whole)
sheet_boarded (Some l) b whole = refl

-- the next bump goes aboard
pub boarded_keeps : (o : Option LaneSheet) (v n : ℕ) (rs : List Ride) (r : Ride) → KeepsLane o v n rs
    → aboard_lane o ≡ None → r.number ≡ length rs → r.number < most_attempts
    → KeepsLane (option_map (lane_after_board (bump_of_ride r)) o) v n (rs ++ r ∷ [])
boarded_keeps None v n rs r keeps is next few = absurd (cc keeps.whole)
boarded_keeps (Some l) v n rs r keeps is next few = record {
  whole = refl;
  worker_is = keeps.worker_is;
  worker_few = keeps.worker_few;
  counted = keeps.counted;
  lane = record {
    in_order = ap (λ (bs : List Bump). bs ++ bump_of_ride r ∷ []) (sym (append-nil (map bump_applied l.applied))
        ∙ ap (λ (bs : List Bump). map bump_applied l.applied ++ bs) (sym (none_aboard l.stage is).1)
        ∙ keeps.lane.in_order)
        ∙ ap (λ (k : ℕ). numbered_from 0 (lives rs) ++ bump_of k r.life ∷ [])
        (omega (arith, next, length-map rs (λ (x : Ride). x.life)))
        ∙ sym (ap (numbered_from 0) (map-append (λ (x : Ride). x.life) rs (r ∷ []))
        ∙ numbered_push 0 (lives rs) r.life);
    at_rest = refl;
  };
  few = omega (arith, keeps.counted, next_is l rs keeps.lane.in_order (none_aboard l.stage is).1, next, few);
}

-- the bump aboard was applied
pub applied_keeps : (o x : Option LaneSheet) (v n : ℕ) (rs : List Ride) (b : Bump) (out : Outcome) (f : FoundHeads)
    → KeepsLane o v n rs → carried_by o ≡ Some b → x ≡ Some (sheet_or x)
    → sheet_or x ≡ lane_after_update out b f (sheet_or o) → KeepsLane x v (n + 1) rs
applied_keeps o x v n rs b out f keeps is whole after =
    let l = sheet_or o in
    let all = subst (λ (p : LaneSheet). (n + 1 ≡ length p.applied) × IsRawLane p rs
    × IfSome (carried p.stage) (λ d. n + 1 < most_attempts)) (sym after) (
      omega (arith, keeps.counted, length-append l.applied (applied_bump b out ∷ [])),
      record {
        in_order = append-nil (map bump_applied (l.applied ++ applied_bump b out ∷ []))
            ∙ map-append bump_applied l.applied (applied_bump b out ∷ [])
            ∙ ap (λ (bs : List Bump). map bump_applied l.applied ++ bs)
            (sym (aboard_where_carried l.stage b (carried_sheet o b is)))
            ∙ keeps.lane.in_order;
        at_rest = refl;
      },
      tt,
    ) in record {
      whole = whole;
      worker_is = ap (λ (p : LaneSheet). p.worker) after ∙ keeps.worker_is;
      worker_few = keeps.worker_few;
      counted = all.0;
      lane = all.1;
      few = all.2;
    }

-- lives that test as one are one
same_lives : (l m : ItemId) → is_same l m ≡ true → m ≡ l
same_lives l m e =
    let both = and_parts (l.chunk == m.chunk) (l.generation == m.generation) e in
    let chunks = eqb-true l.chunk m.chunk both.0 in
    let generations = eqb-true l.generation m.generation both.1 in
    λ i. life (sym chunks i) (sym generations i)

-- a lane tells each move by its entry of the bump's number
pub each_told : (k : ClassSheet) (l : LaneSheet) (rs : List Ride) → IsRawLane l rs → TellsMoves k l → EachMoveIsTold k l
each_told k l rs is tells item n some = by (told_shows item (is_own k (is_same item)) own_life n l.applied l.stage
    (lives rs) is.in_order (omega (arith, some, tells (is_same item) n)))
  where
    own_life : (life : ItemId) → is_own k (is_same item) life ≡ true → life ≡ item
    own_life life e = same_lives item life (and_parts (owns life.chunk k) (is_same item life) e).1

    by : ShowsMove n item l.applied l.stage → slice_get l.applied n ≡ Some
        (applied_bump (bump_of n item) outcome.Moved)
    by (inl told) = told
    by (inr moving) = absurd (let e : true ≡ false = sym (ap is_half_made moving) ∙ is.at_rest in cc e)

-- the bump that went aboard is told
pub boarded_told : {before after : LaneView} {bump : Bump} {ride : Ride} → Boards before bump after ride
    → TellsAboard before (Some bump) after
boarded_told boards = record {
  ring = ap (λ (x : LaneView). x.ring) boards.lane;
  kept = ap entries boards.lane;
  told = ap carries boards.lane;
  none = tt;
  unchanged = tt;
}
