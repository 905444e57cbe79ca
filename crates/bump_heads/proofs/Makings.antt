-- One turn of the loops that split the seats of classes, workers and lanes off.
use Rattle.std.proofs.Common.{◌≡◌, ℕ, zero, suc, ◌+◌, ◌<◌, false, List, [], ◌∷◌, ◌++◌, Option, None, map, length, refl, ap, sym, ◌∙◌, subst, arith, append_assoc}
use Rattle.atomic_table.specs.Table.{Me}
use Rattle.bump_steps.specs.Places.{rows}
use Rattle.bump_rules.specs.declared.labels.LabelStep.{LabelStep}
use Rattle.bump_rules.specs.Labels.{label_of_life}
use Rattle.bump_rules.specs.Lives.{life}
use Rattle.bump_steps.proofs.Starts.{nothing_yet}
use Rattle.bump_rules.specs.declared.bumps.Bump.{Bump}
use Rattle.bump_rules.specs.declared.bumps.Outcome.TheVariants as outcome
use Rattle.bump_rules.specs.declared.lanes.LaneStage.{LaneStage}
use Rattle.bump_rules.specs.declared.lanes.LaneStage.TheVariants as lane
use Rattle.bump_rules.specs.Lanes.{is_half_made}
use Rattle.bump_steps.specs.declared.views.Empty.{Empty}
use Rattle.bump_steps.specs.declared.views.ClassSheet.{ClassSheet}
use Rattle.bump_steps.specs.declared.views.LaneSheet.{LaneSheet}
use Rattle.bump_heads.specs.declared.joined.Joined.{Joined}
use Rattle.bump_heads.specs.declared.views.ClassView.{ClassView}
use Rattle.bump_steps.specs.declared.views.View.{View}
use Rattle.bump_steps.specs.Views.{bump_aboard}
use Rattle.bump_rules.specs.declared.configs.ClassConfig.{ClassConfig}
use Rattle.bump_steps.specs.Rule.{blank, class_sheets, lane_sheets}
use Rattle.bump_steps.specs.Cuts.{without_class, class_only, without_lane, lane_only}
use Rattle.bump_steps.specs.Plays.{behind, first_as_list}
use Rattle.atomic_table.specs.Seated.{TableId}
use Rattle.bump_rules.specs.Configs.{chunks_of}
use Rattle.bump_readers.specs.Seats.{head_or}
use Rattle.bump_heads.specs.Seats.{class_me, class_in, aboard_lane, IsInRange, IsClassSheet, no_lane}
use Rattle.bump_steps.specs.Riders.{lane_me}
use Rattle.bump_heads.specs.Applying.{IsJoined}
use Rattle.bump_heads.specs.Making.{class_seen, lane_seen, AreNewClasses, AreNewLanes}

-- what a class's seat keeps before a lane is joined
abbrev pub no_bump : Joined
no_bump = record { chunk = 0; outcome = outcome.Gone }

abbrev pub Turn : TableId → Me Empty View → View → ℕ → ℕ → List ClassView → List ClassView → Me Empty View
    → Me Empty View → Type 0
Turn table m v i count made all m' p = (p ≡ class_me (class_in p.0))
    × IsInRange table (aboard_lane (class_in p.0).lane) × (i ≡ (class_in p.0).sheet.class) × IsClassSheet (rows table)
    (class_in p.0).sheet × IsJoined (class_in p.0).sheet (class_in p.0).lane no_bump
    × (m' ≡ (record v { classes = m'.0.classes }, [])) × (i + 1 + length m'.0.classes ≡ count)
    × AreNewClasses (rows table) (i + 1) m'.0.classes
    × ((made ++ class_in p.0 ∷ []) ++ map class_seen m'.0.classes ≡ all)

-- one turn of the loop over the classes
pub class_turn : (table : TableId) (m : Me Empty View) (v : View) (i count : ℕ) (made all : List ClassView)
    (m' p : Me Empty View) → m ≡ (record v { classes = m.0.classes }, []) → i + length m.0.classes ≡ count → i < count
    → AreNewClasses (rows table) i m.0.classes → made ++ map class_seen m.0.classes ≡ all
    → m' ≡ (without_class m.0, m.1) → p ≡ (class_only m.0, [])
    → Turn table m v i count made all m' p
class_turn table m v i count made all m' p rest long more numbers so_far now sheet =
    subst (λ (x : Me Empty View × Me Empty View). Turn table m v i count made all x.0 x.1)
    (λ j. (sym now j, sym sheet j)) (by m.0.classes rest long numbers so_far)
  where
    by : (ks : List ClassSheet) → m ≡ (record v { classes = ks }, []) → i + length ks ≡ count
        → AreNewClasses (rows table) i ks → made ++ map class_seen ks ≡ all → Turn table m v i count made all
        (record m.0 { classes = behind m.0.classes }, m.1) (record blank { classes = first_as_list m.0.classes }, [])
    by [] rest long numbers so_far = absurd (omega (arith, more))
    by (k ∷ ks) rest long numbers so_far =
        subst (λ (x : Me Empty View). Turn table m v i count made all (
          record x.0 { classes = behind x.0.classes },
          x.1,
        ) (record blank { classes = first_as_list x.0.classes }, [])) (sym rest) (
          refl,
          tt,
          sym numbers.0,
          numbers.1,
          numbers.2,
          refl,
          omega (arith, long),
          numbers.3,
          append_assoc made (class_seen k ∷ []) (map class_seen ks) ∙ so_far,
        )

-- a lane with nothing aboard is at rest
rests_empty : (s : LaneStage) → ◌≡◌ {A = Option Bump} None (bump_aboard s) → is_half_made s ≡ false
rests_empty lane.Empty none = refl
rests_empty (lane.Carrying b) none = absurd (cc none)
rests_empty (lane.Tried b) none = absurd (cc none)
rests_empty (lane.Cleared b f) none = absurd (cc none)
rests_empty (lane.Moved b) none = absurd (cc none)

abbrev pub LaneTurn : Me Empty View → View → ℕ → ℕ → List (Option LaneSheet) → List (Option LaneSheet) → Me Empty View
    → Me Empty View → Type 0
LaneTurn m v i count made all m' p = (p ≡ lane_me (head_or no_lane p.0.lanes))
    × (◌≡◌ {A = Option Bump} None (bump_aboard (head_or no_lane p.0.lanes).stage))
    × (is_half_made (head_or no_lane p.0.lanes).stage ≡ false) × (m' ≡ (record v { lanes = m'.0.lanes }, []))
    × (i + 1 + length m'.0.lanes ≡ count) × AreNewLanes (i + 1) m'.0.lanes
    × ((made ++ lane_seen (head_or no_lane p.0.lanes) ∷ []) ++ map lane_seen m'.0.lanes ≡ all)
    × ((head_or no_lane p.0.lanes).worker ≡ i)

pub lane_turn : (m : Me Empty View) (v : View) (i count : ℕ) (made all : List (Option LaneSheet))
    (m' p : Me Empty View) → m ≡ (record v { lanes = m.0.lanes }, []) → i + length m.0.lanes ≡ count → i < count
    → AreNewLanes i m.0.lanes → made ++ map lane_seen m.0.lanes ≡ all → m' ≡ (without_lane m.0, m.1)
    → p ≡ (lane_only m.0, [])
    → LaneTurn m v i count made all m' p
lane_turn m v i count made all m' p rest long more empty so_far now sheet =
    subst (λ (x : Me Empty View × Me Empty View). LaneTurn m v i count made all x.0 x.1)
    (λ j. (sym now j, sym sheet j)) (by m.0.lanes rest long empty so_far)
  where
    by : (ks : List LaneSheet) → m ≡ (record v { lanes = ks }, []) → i + length ks ≡ count → AreNewLanes i ks
        → made ++ map lane_seen ks ≡ all → LaneTurn m v i count made all
        (record m.0 { lanes = behind m.0.lanes }, m.1) (record blank { lanes = first_as_list m.0.lanes }, [])
    by [] rest long empty so_far = absurd (omega (arith, more))
    by (k ∷ ks) rest long empty so_far =
        subst (λ (x : Me Empty View). LaneTurn m v i count made all (record x.0 { lanes = behind x.0.lanes }, x.1)
        (record blank { lanes = first_as_list x.0.lanes }, [])) (sym rest) (
          refl,
          sym empty.0,
          rests_empty k.stage (sym empty.0),
          refl,
          omega (arith, long),
          empty.2,
          append_assoc made (lane_seen k ∷ []) (map lane_seen ks) ∙ so_far,
          empty.1,
        )

-- ---- the sheets of a first seat

pub length_classes : (f i at : ℕ) (ks : List ClassConfig) → length (class_sheets f i at ks) ≡ length ks
length_classes f i at [] = refl
length_classes f i at (k ∷ ks) = omega (arith, length_classes f (i + 1) (at + k.chunks) ks)

pub new_classes : (words f i at : ℕ) (ks : List ClassConfig) → words ≡ at + chunks_of ks
    → AreNewClasses words i (class_sheets f i at ks)
new_classes words f i at [] all = tt
new_classes words f i at (k ∷ ks) all = (
  refl,
  record {
    within = omega (arith, all);
    between = tt;
    causes = refl;
    allowed = refl;
    labelled = λ i c own used. absurd used;
    unbegun = λ i c g later. ap (λ (l : List LabelStep). label_of_life (life c g) 0 l) (nothing_yet i);
  },
  refl,
  new_classes words f (i + 1) (at + k.chunks) ks (omega (arith, all)),
)

pub length_lanes : (w n : ℕ) → length (lane_sheets w n) ≡ n
length_lanes w zero = refl
length_lanes w (suc n) = omega (arith, length_lanes (w + 1) n)

pub new_lanes : (w n : ℕ) → AreNewLanes w (lane_sheets w n)
new_lanes w zero = tt
new_lanes w (suc n) = (refl, refl, new_lanes (w + 1) n)
