-- An application on a class's seat: what its steps come to, by its outcome.
use Rattle.std.proofs.Common.{◌≡◌, ℕ, ◌&&◌, not, Bool, true, false, Option, None, Some, IfSome, if◌then◌else◌, refl, sym, ap, ap₂, ◌∙◌, subst, arith}
use Rattle.std.specs.Prelude.{option_map}
pub use Rattle.bump_rules.proofs.Laws.{not_cold}
use Rattle.bump_rules.specs.declared.bumps.Bump.{Bump}
use Rattle.bump_rules.specs.declared.bumps.Outcome.{Outcome}
use Rattle.bump_rules.specs.declared.bumps.Outcome.TheVariants.{Moved, TimeOnly, Gone}
use Rattle.bump_rules.specs.declared.items.Head.{Head}
use Rattle.bump_rules.specs.declared.lanes.LaneStage.TheVariants as lane
use Rattle.bump_rules.specs.Tables.{is_cold, outcome_of}
use Rattle.bump_rules.proofs.Counted.{how_many_push}
use Rattle.bump_word.specs.Words.{word_of, Fits}
use Rattle.bump_steps.specs.declared.views.ClassSheet.{ClassSheet}
use Rattle.bump_steps.specs.declared.views.Kind.TheVariants as kind
use Rattle.bump_steps.specs.declared.views.LaneSheet.{LaneSheet}
use Rattle.bump_steps.specs.Views.{bump_aboard, shows_time_only}
use Rattle.bump_steps.specs.Plays.{step_of}
use Rattle.bump_steps.specs.Applications.{for_bump, lane_after_alight, class_at_rest}
use Rattle.bump_heads.specs.declared.views.ClassView.{ClassView}
use Rattle.bump_heads.specs.Applying.{life_aboard, IsShown, FoundOfBump, NamesNoBumpTwice, TellsMoves}
use Rattle.bump_class.specs.Lanes.{sheet_or}
use Rattle.bump_class.specs.Applications.{FoundHeads, AllFit, Updates, class_after_update, lane_after_update}

-- ---- the update table, by what was found

pub gone_by : (h a : Head) → h.linked ≡ false → outcome_of h a ≡ Gone
gone_by h a off = ap (λ (x : Bool). if not x then Gone else (if is_cold h.segment && a.active then Moved else TimeOnly))
    off

pub elsewhere_by : (h a : Head) → h.linked ≡ true → is_cold h.segment ≡ false → outcome_of h a ≡ TimeOnly
elsewhere_by h a on other =
    ap₂ (λ (x y : Bool). if not x then Gone else (if y && a.active then Moved else TimeOnly)) on other

pub clear_by : (h a : Head) → h.linked ≡ true → is_cold h.segment ≡ true → a.active ≡ false
    → outcome_of h a ≡ TimeOnly
clear_by h a on cold off =
    ap₂ (λ (x y : Bool). if not x then Gone else (if y && a.active then Moved else TimeOnly)) on cold
    ∙ ap (λ (x : Bool). if x then Moved else TimeOnly) off

pub moved_by : (h a : Head) → h.linked ≡ true → is_cold h.segment ≡ true → a.active ≡ true → outcome_of h a ≡ Moved
moved_by h a on cold off =
    ap₂ (λ (x y : Bool). if not x then Gone else (if y && a.active then Moved else TimeOnly)) on cold
    ∙ ap (λ (x : Bool). if x then Moved else TimeOnly) off

-- an entry that is shown stays so when the lane's last step is noted
shown_on : (k : ClassSheet) (l : LaneSheet) (b : Bump) (o : Outcome) (c n : ℕ) → IsShown k l b o
    → IsShown k (lane_after_alight o c n l) b o
shown_on k l b Moved c n is = is
shown_on k l b Gone c n is = is
shown_on k l b TimeOnly c n is = omega (
  arith,
  is,
  how_many_push (shows_time_only l.worker b.number b.life.chunk) l.steps (step_of kind.Alight c n (for_bump l)),
)

-- a sheet that names no application is as one at rest
pub rests : (k : ClassSheet) → k.applying ≡ None → class_at_rest k ≡ k
rests k idle = λ i. record k { applying = sym idle i }

-- The heads that the steps of an application found, each of which a word spells.
pub record FittingHeads : Type 0 where
  pub heads : FoundHeads
  pub fit : AllFit heads

-- of a step that wasn't made the first is told again, as of the look behind the end
abbrev pub found_by : (tried cleared moved last : Head) → Fits tried → Fits cleared → Fits moved → Fits last
    → FittingHeads
found_by tried cleared moved last tried_fits cleared_fits moved_fits last_fits = record {
  heads = record { tried = tried; cleared = cleared; moved = moved; last = last; behind = tried };
  fit = record { tried = tried_fits; cleared = cleared_fits; moved = moved_fits; last = last_fits };
}

-- What the class's seat and the lane are once the bump has alighted, by what they were just before.
module _ (v : ClassView) (o : Option LaneSheet) (l : LaneSheet) (b : Bump) (now : ℕ) (alone : v.lane ≡ None)
    (carries : o ≡ Some (record l { stage = lane.Carrying b })) (out : Outcome) (found : FittingHeads)
    (sight : FoundOfBump v.sheet (life_aboard o) found.heads.tried) (table : out ≡ outcome_of found.heads.tried found.heads.cleared)
    (w a : ClassView) (x : Option LaneSheet) (p : ClassSheet) (m : LaneSheet)
    (is : w ≡ record { sheet = p; lane = Some m })
    (sheet : class_at_rest p ≡ class_after_update out l.worker b now found.heads v.sheet) (aboard : bump_aboard m.stage ≡ Some b)
    (same : lane_after_alight out b.life.chunk (word_of found.heads.last) m ≡ lane_after_update out b found.heads
    (record l { stage = lane.Carrying b }))
    (class : a ≡ record { sheet = class_at_rest w.sheet; lane = None })
    (left : x ≡ option_map (lane_after_alight out (life_aboard w.lane).chunk (word_of found.heads.last)) w.lane)
    (entry : IfSome w.lane (λ y. IfSome (bump_aboard y.stage) (λ d. IsShown a.sheet y d out)))
    (once : NamesNoBumpTwice a.sheet) (told : IfSome x (TellsMoves a.sheet)) where
  abbrev lane_left : LaneSheet
  lane_left = lane_after_update out b found.heads (record l { stage = lane.Carrying b })

  life_is : (life_aboard w.lane).chunk ≡ b.life.chunk
  life_is = ap (λ (y : ClassView). (life_aboard y.lane).chunk) is
      ∙ ap (λ (d : Option Bump). (Rattle.bump_heads.specs.Applying.life_of d).chunk) aboard

  left_is : x ≡ Some lane_left
  left_is = left
      ∙ (λ i. option_map (lane_after_alight out (life_is i) (word_of found.heads.last)) ((is i).lane))
      ∙ ap (λ (y : LaneSheet). Some y) same

  entry_is : IsShown a.sheet lane_left b out
  entry_is = subst (λ (y : LaneSheet). IsShown a.sheet y b out) same (shown_on a.sheet m b out b.life.chunk
      (word_of found.heads.last) (subst (λ (d : Option Bump). IfSome d (λ e. IsShown a.sheet m e out)) aboard
      (subst (λ (y : ClassView). IfSome y.lane (λ z. IfSome (bump_aboard z.stage) (λ d. IsShown a.sheet z d out))) is
      entry)))

  told_is : TellsMoves a.sheet lane_left
  told_is = subst (λ (y : Option LaneSheet). IfSome y (TellsMoves a.sheet)) left_is told

  pub updates : (x ≡ Some (sheet_or x)) × ((heads : FoundHeads) × Updates v (sheet_or o) b now out a (sheet_or x) heads)
  updates = (
    left_is ∙ sym (ap (λ (y : Option LaneSheet). Some (sheet_or y)) left_is),
    (
      found.heads,
      subst (λ (y : Option LaneSheet). Updates v (sheet_or y) b now out a (sheet_or x) found.heads) (sym carries)
          (subst (λ (y : Option LaneSheet). Updates v (record l { stage = lane.Carrying b }) b now out a (sheet_or y) found.heads)
          (sym left_is) (record {
            fit = found.fit;
            sight = subst (λ (y : Option LaneSheet). FoundOfBump v.sheet (life_aboard y) found.heads.tried) carries sight;
            table = table;
            class = class ∙ ap (λ (y : ClassView). record { sheet = class_at_rest y.sheet; lane = None }) is
                ∙ (λ i. record { sheet = sheet i; lane = sym alone i });
            lane = refl;
            entry = entry_is;
            once = once;
            told = told_is;
          })),
    ),
  )
