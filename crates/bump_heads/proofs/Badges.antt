-- A lane's seat out of its badge, and back in.
use Rattle.std.proofs.Common.{◌≡◌, List, [], ◌∷◌, Option, None, Some, IsSome, refl, sym, ap, ◌∙◌, subst}
use Rattle.atomic_table.specs.Seated.{TableId}
use Rattle.atomic_table.specs.declared.badge.Badge.{Badge}
use Rattle.atomic_table.specs.declared.shared.Seat.{Seat}
use Rattle.bump_rules.specs.declared.bumps.Bump.{Bump}
use Rattle.bump_rules.specs.declared.lanes.LaneStage.{LaneStage}
use Rattle.bump_rules.specs.declared.lanes.LaneStage.TheVariants as lane
use Rattle.bump_rules.specs.Lanes.{carried}
use Rattle.bump_steps.specs.declared.views.Empty.{Empty}
use Rattle.bump_steps.specs.declared.views.LaneSheet.{LaneSheet}
use Rattle.bump_steps.specs.declared.views.View.{View}
use Rattle.bump_steps.specs.Plays.{Sat}
use Rattle.bump_steps.specs.Riders.{lane_me}
use Rattle.bump_steps.specs.Views.{bump_aboard}
use Rattle.bump_readers.specs.Seats.{head_or}
use Rattle.bump_heads.specs.Applying.{carried_by}
use Rattle.bump_heads.specs.Seats.{lane_in, lane_in_views, lane_views, IsAtRest, IsLane, aboard_lane, no_lane}

-- a lane that has a sheet has a view, for a seat
pub one_view : (vs : List View) → vs ≡ lane_views (lane_in_views vs) → IsSome (lane_in_views vs)
    → (v : View) × (vs ≡ v ∷ [])
one_view [] is some = absurd (cc some)
one_view (v ∷ ws) is some = (_, is)

-- a lane that carries a bump has a sheet
pub some_carries : (o : Option LaneSheet) (b : Bump) → carried_by o ≡ Some b → IsSome o
some_carries None b is = absurd (cc is)
some_carries (Some l) b is = refl

-- whose bump aboard is this one
pub carries_aboard : (o : Option LaneSheet) (b : Bump) → carried_by o ≡ Some b → aboard_lane o ≡ Some b
carries_aboard None b is = absurd (cc is)
carries_aboard (Some l) b is = by l.stage is
  where
    by : (s : LaneStage) → carried s ≡ Some b → bump_aboard s ≡ Some b
    by lane.Empty is = absurd (cc is)
    by (lane.Carrying d) is = is
    by (lane.Tried d) is = absurd (cc is)
    by (lane.Cleared d f) is = absurd (cc is)
    by (lane.Moved d) is = absurd (cc is)

pub carries_some : (o : Option LaneSheet) (b : Bump) → carried_by o ≡ Some b → IsSome (carried_by o)
carries_some o b is = subst IsSome (sym is) refl

module _ (table : TableId) (b r : Badge View) (same : r ≡ b) where
  -- the badge that is taken out has a view, where the lane has a sheet
  pub seat_view : b.views ≡ lane_views (lane_in_views b.views) → IsSome (lane_in_views b.views)
      → (v : View) × (r.views ≡ v ∷ [])
  seat_view is some = let x = one_view b.views is some in (x.0, ap (λ (y : Badge View). y.views) same ∙ x.1)

  module _ (s : Seat Empty View) (views : r.views ≡ s.me.0 ∷ []) where
    here : b.views ≡ s.me.0 ∷ []
    here = sym (ap (λ (y : Badge View). y.views) same) ∙ views

    -- the seat that comes out has the lane's sheet
    pub out_lane : lane_in (Some s) ≡ lane_in_views b.views
    out_lane = sym (ap lane_in_views here)

    -- and is a lane's
    pub out_is : s.me.1 ≡ [] → b.views ≡ lane_views (lane_in_views b.views)
        → (IsSome (lane_in_views b.views) → b.table_id ≡ table) → IsAtRest (lane_in_views b.views)
        → s.table_id ≡ r.table_id → IsLane table (Some s)
    out_is bare is named rests one_table =
        let mine : s.me.0 ∷ [] ≡ lane_views (Some (head_or no_lane s.me.0.lanes)) =
        sym here ∙ is ∙ ap (λ (ws : List View). lane_views (lane_in_views ws)) here in
        let view : s.me.0 ≡ (lane_me (head_or no_lane s.me.0.lanes)).0 = cc mine in
        let some : IsSome (lane_in_views b.views) =
        subst (λ (ws : List View). IsSome (lane_in_views ws)) (sym here) refl in (
          λ i. (view i, bare i),
          one_table ∙ ap (λ (y : Badge View). y.table_id) same ∙ named some,
          subst (λ (ws : List View). IsAtRest (lane_in_views ws)) here rests,
        )

module _ (table : TableId) (vs : List View) (s : Seat Empty View) (views : vs ≡ s.me.0 ∷ []) where
  -- a lane's seat that goes back in is the lane's sheet
  pub back_lane : lane_in_views vs ≡ Some (head_or no_lane s.me.0.lanes)
  back_lane = ap lane_in_views views

  -- and makes the lane whole
  pub back_is : IsLane table (Some s) → vs ≡ lane_views (lane_in_views vs)
  back_is whole = views ∙ ap (λ (x : Sat). x.0 ∷ []) whole.0
      ∙ sym (ap (λ (ws : List View). lane_views (lane_in_views ws)) views)

  pub back_rests : IsLane table (Some s) → IsAtRest (lane_in_views vs)
  back_rests whole = subst (λ (ws : List View). IsAtRest (lane_in_views ws)) (sym views) whole.2
