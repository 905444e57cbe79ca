-- What an application comes to on a Book and a lane.
use Rattle.std.proofs.Common.{◌≡◌, ℕ, ◌&&◌, ◌==◌, not, Bool, true, false, List, Option, Some, IfSome, if◌then◌else◌, length, [], ◌∷◌, refl, sym, ap, ◌∙◌, subst, arith}
use Rattle.std.proofs.lemmas.List.{length-append}
use Rattle.bump_rules.specs.declared.bumps.Applied.{Applied}
use Rattle.bump_rules.specs.declared.bumps.Bump.{Bump}
use Rattle.bump_rules.specs.declared.bumps.Outcome.{Outcome}
use Rattle.bump_rules.specs.declared.bumps.Outcome.TheVariants.{Moved, TimeOnly, Gone}
use Rattle.bump_rules.specs.declared.items.Head.{Head}
use Rattle.bump_rules.specs.declared.items.ItemId.{ItemId}
use Rattle.bump_rules.specs.declared.places.Place.TheVariants.{Dying}
use Rattle.bump_rules.specs.Entries.{is_unlink_of, is_move_for, moves_told}
use Rattle.bump_rules.specs.History.{freed_change}
use Rattle.bump_rules.specs.Lanes.{carried, applied_bump}
use Rattle.bump_rules.specs.Lists.{Lists}
use Rattle.bump_rules.specs.Lawful.{bit}
use Rattle.bump_rules.specs.Tables.{is_cold, outcome_of, ended_of}
use Rattle.bump_rules.specs.Totals.{how_many}
use Rattle.bump_rules.proofs.Counted.{how_many_push}
use Rattle.bump_rules.proofs.Laws.{dying_where_unlinked}
use Rattle.bump_rules.proofs.ToldMoves.{no_move}
use Rattle.bump_word.specs.Words.{word_of, Fits}
use Rattle.bump_steps.specs.declared.views.ClassSheet.{ClassSheet}
use Rattle.bump_steps.specs.declared.views.LaneSheet.{LaneSheet}
use Rattle.bump_steps.specs.declared.views.Ride.{Ride}
use Rattle.bump_steps.specs.Applications.{life_in}
use Rattle.bump_steps.specs.Lives.{class_after_load, class_after_sweep, class_after_sweep_or_load}
use Rattle.bump_steps.specs.Views.{owns, standing}
use Rattle.bump_steps.proofs.Entering.{freed_quiet}
use Rattle.bump_heads.specs.declared.views.ClassView.{ClassView}
use Rattle.bump_heads.specs.Applying.{IsShown, FoundOfBump, NamesNoBumpTwice, TellsMoves, is_own}
use Rattle.bump_ring.specs.Ends.{Ring}
use Rattle.bump_class.specs.Applications.{FoundHeads, Updates, Applies, AppliesFront, AppliesBump, EachMoveIsTold, class_with_time, with_clearing, class_after_update, book_after_update, applied_answer}
use Rattle.bump_class.specs.Books.{BookView, KeepsBook}
use Rattle.bump_class.specs.Lanes.{LaneView, carries, entries, sheet_or}

-- where the update table says Gone, the item isn't linked
not_linked : (h a : Head) → Gone ≡ outcome_of h a → h.linked ≡ false
not_linked h a is = by h.linked (is_cold h.segment && a.active) is
  where
    by : (x y : Bool) → Gone ≡ (if not x then Gone else (if y then Moved else TimeOnly)) → x ≡ false
    by false y e = refl
    by true true e = absurd (cc e)
    by true false e = absurd (cc e)

-- so its chunk is DYING
pub gone_dies : (k : ClassSheet) (b : Bump) (h a : Head) → FoundOfBump k b.life h → owns b.life.chunk k ≡ true
    → Gone ≡ outcome_of h a → (standing k b.life.chunk).0 ≡ Dying
gone_dies k b h a sight own is = let s = sight.stands own in
    dying_where_unlinked h (standing k b.life.chunk).0 s.0 s.2 (not_linked h a is)

-- What a look at a chunk of DYING leaves true of the class's history, whether or not it frees the chunk.
module _ (k : ClassSheet) (c : ℕ) (h : Head) where
  -- no entry is lost
  pub shown_behind : (l : LaneSheet) (b : Bump) → IsShown k l b Gone
      → IsShown (class_after_sweep_or_load c h.refs (word_of h) k) l b Gone
  shown_behind l b is = by (h.refs == 0)
    where
      by : (x : Bool)
          → IsShown (if x then class_after_sweep c (word_of h) k else class_after_load c (word_of h) k) l b Gone
      by true = omega (arith, is, how_many_push (is_unlink_of b.life) k.history (freed_change (life_in k c)))
      by false = is

  -- and no move is added
  same_moves : (test : ItemId → Bool) (w n : ℕ)
      → how_many (is_move_for test w n) (class_after_sweep_or_load c h.refs (word_of h) k).history
      ≡ how_many (is_move_for test w n) k.history
  same_moves test w n = by (h.refs == 0)
    where
      by : (x : Bool) → how_many (is_move_for test w n)
          (if x then class_after_sweep c (word_of h) k else class_after_load c (word_of h) k).history
          ≡ how_many (is_move_for test w n) k.history
      by true = omega (
        arith,
        how_many_push (is_move_for test w n) k.history (freed_change (life_in k c)),
        ap bit (no_move test w n (freed_change (life_in k c)) (freed_quiet (life_in k c))),
      )
      by false = refl

  pub once_behind : NamesNoBumpTwice k → NamesNoBumpTwice (class_after_sweep_or_load c h.refs (word_of h) k)
  once_behind once w n = omega (arith, same_moves (λ l. true) w n, once w n)

  pub told_behind : (l : LaneSheet) → TellsMoves k l → TellsMoves (class_after_sweep_or_load c h.refs (word_of h) k) l
  told_behind l told test n = by (h.refs == 0)
    where
      after : Bool → ClassSheet
      after x = if x then class_after_sweep c (word_of h) k else class_after_load c (word_of h) k

      by : (x : Bool) → how_many (is_move_for test l.worker n) (after x).history
          ≡ moves_told (is_own (after x) test) n l.applied l.stage
      by true =
          let same : how_many (is_move_for test l.worker n) (after true).history
          ≡ how_many (is_move_for test l.worker n) k.history = omega (
            arith,
            how_many_push (is_move_for test l.worker n) k.history (freed_change (life_in k c)),
            ap bit (no_move test l.worker n (freed_change (life_in k c)) (freed_quiet (life_in k c))),
          ) in same ∙ told test n
      by false = told test n

-- What the update of seat and lane, and the change of the lists, come to together: on the Book and the lane of which
-- they are sheets, and on those that contracts see.
module _ (v : ClassView) (lists : Lists) (hot warm workers : ℕ) (ring : Ring) (rs ks : List Ride) (o x : Option LaneSheet)
    (b : Bump) (now : ℕ) (out : Outcome) (f : FoundHeads) (w : ClassView)
    (u : Updates v (sheet_or o) b now out w (sheet_or x) f) (own : owns b.life.chunk v.sheet ≡ true) where
  abbrev pub book : BookView
  book = record { sheet = v.sheet; lists = lists; hot_limit = hot; warm_limit = warm; workers = workers }

  abbrev pub this_lane : LaneView
  this_lane = record { ring = ring; received = rs; known = ks; sheet = sheet_or o }

  abbrev pub lane_left : LaneView
  lane_left = record { ring = ring; received = rs; known = ks; sheet = sheet_or x }

  pub applies : (behind : Head) (answer : Applied) (a : BookView) → Fits behind
      → answer ≡ applied_answer out (ended_of behind)
      → a ≡ book_after_update out (sheet_or o).worker b now (record f { behind = behind }) book
      → IsShown a.sheet (sheet_or x) b out
      → Applies book this_lane b now out answer a lane_left (record f { behind = behind })
  applies behind answer a fits answered is entry = record {
    fit = record { tried = u.fit.tried; cleared = u.fit.cleared; moved = u.fit.moved; last = u.fit.last };
    behind_fits = fits;
    generation = u.sight.generation;
    counted = u.sight.counted;
    shows = (u.sight.stands own).0;
    table = u.table;
    answered = answered;
    book_after = is;
    lane_after = ap (λ (p : LaneSheet). record this_lane { sheet = p }) u.lane;
    entry = entry;
  }

  pub fronts : (k : BookView) (l : LaneView) → book ≡ k → this_lane ≡ l → carried (sheet_or o).stage ≡ Some b
      → (behind : Head) (answer : Applied) (a : BookView) → Fits behind
      → answer ≡ applied_answer out (ended_of behind)
      → a ≡ book_after_update out (sheet_or o).worker b now (record f { behind = behind }) book
      → IsShown a.sheet (sheet_or x) b out → AppliesFront now k l answer a lane_left
  fronts k l books lanes aboard behind answer a fits answered is entry = (
    b,
    out,
    record f { behind = behind },
    ap (λ (y : LaneView). carries y) (sym lanes) ∙ aboard,
    subst (λ (y : BookView). Applies y l b now out answer a lane_left (record f { behind = behind })) books
        (subst (λ (y : LaneView). Applies book y b now out answer a lane_left (record f { behind = behind })) lanes
        (applies behind answer a fits answered is entry)),
  )

-- which class it is, and which chunks it has
abbrev pub IsSameClass : ClassSheet → ClassSheet → Type 0
IsSameClass after before =
    (after.class ≡ before.class) × (after.first ≡ before.first) × (after.count ≡ before.count)

-- no application changes that
pub same_class : (out : Outcome) (w : ℕ) (b : Bump) (now : ℕ) (f : FoundHeads) (k : BookView)
    → IsSameClass (book_after_update out w b now f k).sheet k.sheet
same_class Moved w b now f k = (refl, refl, refl)
same_class TimeOnly w b now f k = by (is_cold f.tried.segment)
  where
    by : (x : Bool) → IsSameClass (if x then with_clearing w b f.cleared (class_with_time w b now k.sheet) else
        class_with_time w b now k.sheet) k.sheet
    by true = (refl, refl, refl)
    by false = (refl, refl, refl)
same_class Gone w b now f k = by (f.behind.refs == 0)
  where
    by : (x : Bool) → IsSameClass (if x then class_after_sweep b.life.chunk (word_of f.behind) k.sheet else
        class_after_load b.life.chunk (word_of f.behind) k.sheet) k.sheet
    by true = (refl, refl, refl)
    by false = (refl, refl, refl)

-- all that an application comes to follows from the update table, and from what history and entries say of each other
pub bump_applied : (now : ℕ) (book : BookView) (from : LaneView) (answer : Applied) (left : BookView) (to : LaneView)
    → AppliesFront now book from answer left to → NamesNoBumpTwice left.sheet → EachMoveIsTold left.sheet to.sheet
    → AppliesBump now book from answer left to
bump_applied now book from answer left to front once told =
    let lane = front.4.lane_after in record {
      front = front;
      ring = ap (λ (x : LaneView). x.ring) lane;
      known = ap (λ (x : LaneView). x.known) lane;
      empty = ap carries lane;
      count = omega (
        arith,
        ap (λ (x : LaneView). length (entries x)) lane,
        length-append (entries from) (applied_bump front.0 front.1 ∷ []),
      );
      class = subst (λ (z : BookView). IsSameClass z.sheet book.sheet) (sym front.4.book_after)
          (same_class front.1 from.sheet.worker front.0 now front.2 book);
      once = once;
      told = told;
    }

-- what the type of a Book keeps, it keeps by an application that moves nothing
pub time_only_keeps : (v w : ClassView) (first end hot warm workers : ℕ) (counts : List ℕ) (lists : Lists) (worker : ℕ) (b : Bump)
    (now : ℕ) (f : FoundHeads) → KeepsBook v first end lists hot warm workers counts
    → w ≡ record v { sheet = class_after_update TimeOnly worker b now f v.sheet }
    → KeepsBook w first end lists hot warm workers counts
time_only_keeps v w first end hot warm workers counts lists worker b now f o is =
    subst (λ (x : ClassView). KeepsBook x first end lists hot warm workers counts) (sym is) (by (is_cold f.tried.segment))
  where
    by : (x : Bool) → KeepsBook (record v {
      sheet = if x then with_clearing worker b f.cleared (class_with_time worker b now v.sheet) else
          class_with_time worker b now v.sheet;
    }) first end lists hot warm workers counts
    by true = (
      o.0,
      o.1,
      o.2,
      record { lists = o.3.lists; entries = o.3.entries; causes = o.3.causes; idle = o.3.idle },
      o.4,
      o.5,
    )
    by false = (
      o.0,
      o.1,
      o.2,
      record { lists = o.3.lists; entries = o.3.entries; causes = o.3.causes; idle = o.3.idle },
      o.4,
      o.5,
    )
