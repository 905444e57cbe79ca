-- How an application goes on: what a caller that has a class's seat and a lane needs for each next step, from what the
-- steps before told.
use Rattle.std.proofs.Common.{◌≡◌, ℕ, ◌≢◌, not, Bool, true, false, [], ◌∷◌, ◌++◌, Option, None, Some, refl, sym, ap, ap₂, ◌∙◌, subst, if◌then◌else◌}
use Rattle.std.specs.Prelude.{option_map}
use Rattle.bump_rules.specs.declared.items.Head.{Head}
use Rattle.bump_rules.specs.declared.places.Segment.{Segment}
use Rattle.bump_rules.specs.declared.places.Segment.TheVariants.{Hot, Warm, Cold, Temp}
use Rattle.bump_rules.specs.declared.bumps.Bump.{Bump}
use Rattle.bump_rules.specs.declared.bumps.Outcome.TheVariants.{Moved, TimeOnly, Gone}
use Rattle.bump_rules.specs.declared.lanes.LaneStage.{LaneStage}
use Rattle.bump_rules.specs.declared.lanes.LaneStage.TheVariants as lane
use Rattle.bump_rules.specs.History.{place_of}
use Rattle.bump_rules.specs.Lanes.{carried, applied_bump, ending_at}
use Rattle.bump_rules.specs.Lawful.{Shows, IsUsed}
use Rattle.bump_rules.proofs.Laws.{not_cold}
use Rattle.bump_rules.specs.Tables.{is_cold}
use Rattle.bump_word.specs.Words.{Fits, word_of}
use Rattle.bump_steps.specs.declared.views.Kind.TheVariants as kind
use Rattle.bump_steps.specs.declared.views.ClassSheet.{ClassSheet}
use Rattle.bump_heads.specs.declared.views.ClassView.{ClassView}
use Rattle.bump_steps.specs.declared.views.LaneSheet.{LaneSheet}
use Rattle.bump_steps.specs.Views.{owns, standing}
use Rattle.bump_steps.specs.Plays.{step_of}
use Rattle.bump_steps.specs.Applications.{lane_after_try, noted_class, class_after_move}
use Rattle.bump_heads.specs.Applying.{carried_by, life_aboard, MayClearActive, MayPutTime, TryFound, MayEndAs, seat_after_clear_active, seat_after_put_time, seat_after_move, FoundOfBump}
use Rattle.bump_steps.specs.Lives.{IsInSegment}

-- a lane that carries this bump
pub carrying : (o : Option LaneSheet) (b : Bump) → carried_by o ≡ Some b → (l : LaneSheet)
    × (o ≡ Some (record l { stage = lane.Carrying b }))
carrying None b is = absurd (cc is)
carrying (Some l) b is = by l.stage refl is
  where
    by : (s : LaneStage) → l.stage ≡ s → carried s ≡ Some b → (m : LaneSheet)
        × (Some l ≡ Some (record m { stage = lane.Carrying b }))
    by lane.Empty at is = absurd (cc is)
    by (lane.Carrying d) at is = let e : d ≡ b = cc is in
        (l, ap (λ (s : LaneStage). Some (record l { stage = s })) (at ∙ ap (λ (x : Bump). lane.Carrying x) e))
    by (lane.Tried d) at is = absurd (cc is)
    by (lane.Cleared d f) at is = absurd (cc is)
    by (lane.Moved d) at is = absurd (cc is)

-- whose chunk is the class's, where the bump's is
pub own_aboard : (b : Bump) (o : Option LaneSheet) (k : ClassSheet) → carried_by o ≡ Some b
    → owns b.life.chunk k ≡ true → owns (life_aboard o).chunk k ≡ true
own_aboard b o k is own = ap (λ (x : Option LaneSheet). owns (life_aboard x).chunk k) (carrying o b is).1 ∙ own

module _ (v v₁ : ClassView) (o : Option LaneSheet) (l : LaneSheet) (b : Bump) (c : ℕ) (h : Head)
    (carries : o ≡ Some (record l { stage = lane.Carrying b })) (of : b.life.chunk ≡ c)
    (after : v₁ ≡ record v { lane = option_map (lane_after_try (life_aboard o).chunk (word_of h)) o })
    (seen : FoundOfBump v.sheet (life_aboard o) h) (fits : Fits h) (own : owns c v.sheet ≡ true) where
  -- the lane after the look at the head
  abbrev pub lane_tried : LaneSheet
  lane_tried = lane_after_try c (word_of h) (record l { stage = lane.Carrying b })

  pub tried_is : v₁ ≡ record { sheet = v.sheet; lane = Some lane_tried }
  tried_is = after
      ∙ ap (λ (x : Option LaneSheet). record v {
        lane = option_map (lane_after_try (life_aboard x).chunk (word_of h))
            x;
      }) carries
      ∙ ap (λ (d : ℕ). record v { lane = Some (lane_after_try d (word_of h) (record l { stage = lane.Carrying b })) })
      of

  -- what the lane's look found
  pub try_found : TryFound lane_tried b h
  try_found = record {
    before = l.steps;
    steps =
        ap (λ (d : ℕ). l.steps ++ step_of kind.Try d (word_of h) (Some (l.worker, b.number)) ∷ []) (sym of);
    fits =
        fits;
  }

  -- an item that isn't linked is gone
  pub gone_as : h.linked ≡ false → MayEndAs v₁ lane_tried b h Gone
  gone_as off = record {
    joined = ap (λ (x : ClassView). x.lane) tried_is;
    found_by_try = try_found;
    ending = ap (λ (on : Bool). option_map (applied_bump b)
        (if not on then Some Gone else (if is_cold h.segment then None else Some TimeOnly))) off;
  }

  pub ends_gone : h.linked ≡ false → (x : LaneSheet) × (g : Head) × MayEndAs v₁ x b g Gone
  ends_gone off = (lane_tried, h, gone_as off)

  module _ (now : ℕ) (w₁ : ClassView) (timed : w₁ ≡ seat_after_put_time c now v₁) where
    pub put_time_is : w₁ ≡ record {
      sheet = noted_class kind.PutTime c now (lane_tried ∷ []) v.sheet;
      lane =
          Some lane_tried;
    }
    put_time_is = timed ∙ ap (seat_after_put_time c now) tried_is

    -- one that isn't in COLD gets its time only
    pub elsewhere_as : h.linked ≡ true → h.segment ≢ Cold → MayEndAs w₁ lane_tried b h TimeOnly
    elsewhere_as on other = record {
      joined = ap (λ (x : ClassView). x.lane) put_time_is;
      found_by_try = try_found;
      ending = ap₂ (λ (there cold : Bool). option_map (applied_bump b)
          (if not there then Some Gone else (if cold then None else Some TimeOnly))) on (not_cold h.segment other);
    }

    pub ends_elsewhere : h.linked ≡ true → h.segment ≢ Cold → (x : LaneSheet) × (g : Head)
        × MayEndAs w₁ x b g TimeOnly
    ends_elsewhere on other = (lane_tried, h, elsewhere_as on other)

    module _ (found : Head) (v₂ : ClassView) (cleared : v₂ ≡ seat_after_clear_active c found w₁) where
      -- the class after the clearing
      abbrev pub cleared_sheet : ClassSheet
      cleared_sheet = noted_class kind.ClearActive c (word_of found) (lane_tried ∷ [])
          (noted_class kind.PutTime c now (lane_tried ∷ []) v.sheet)

      pub clear_active_is : v₂ ≡ record {
        sheet = cleared_sheet;
        lane =
            Some (record lane_tried { stage = lane.Cleared b found.active });
      }
      clear_active_is = cleared ∙ ap (seat_after_clear_active c found) put_time_is

      -- one without ACTIVE gets its time only
      pub clear_as : found.active ≡ false
          → MayEndAs v₂ (record lane_tried { stage = lane.Cleared b found.active }) b h TimeOnly
      clear_as off = record {
        joined = ap (λ (x : ClassView). x.lane) clear_active_is;
        found_by_try = record { before = try_found.before; steps = try_found.steps; fits = fits };
        ending = ap (λ (f : Bool). ending_at (λ d. h) (lane.Cleared b f)) off;
      }

      pub ends_clear : found.active ≡ false → (x : LaneSheet) × (g : Head) × MayEndAs v₂ x b g TimeOnly
      ends_clear off = (record lane_tried { stage = lane.Cleared b found.active }, h, clear_as off)

      -- the class after the move
      pub moved_is : (last : Head) (v₃ : ClassView) → v₃ ≡ seat_after_move c Cold Warm last v₂
          → v₃ ≡ record {
            sheet = class_after_move Cold Warm c (word_of last)
                (record lane_tried { stage = lane.Cleared b found.active } ∷ []) cleared_sheet;
            lane =
                Some (record lane_tried { stage = lane.Moved b });
          }
      moved_is last v₃ moved = moved ∙ ap (seat_after_move c Cold Warm last) clear_active_is

      -- and its bump ends as moved
      pub moved_as : (last : Head) (v₃ : ClassView) → v₃ ≡ seat_after_move c Cold Warm last v₂ → found.active ≡ true
          → MayEndAs v₃ (record lane_tried { stage = lane.Moved b }) b h Moved
      moved_as last v₃ moved some = record {
        joined = ap (λ (x : ClassView). x.lane) (moved_is last v₃ moved);
        found_by_try = record { before = try_found.before; steps = try_found.steps; fits = fits };
        ending = refl;
      }

      pub ends_moved : (last : Head) (v₃ : ClassView) → v₃ ≡ seat_after_move c Cold Warm last v₂ → found.active ≡ true
          → (x : LaneSheet) × (g : Head) × MayEndAs v₃ x b g Moved
      ends_moved last v₃ moved some =
          (record lane_tried { stage = lane.Moved b }, h, moved_as last v₃ moved some)
