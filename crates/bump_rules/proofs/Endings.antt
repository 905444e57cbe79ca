-- What a lane ends its bump with agrees with how far it was: it tells of a move where it moved the item, and of a
-- gone item where it saw that the item wasn't linked.
use Rattle.std.proofs.Common.{◌≡◌, ℕ, Bool, true, false, not, Option, None, Some, if◌then◌else◌, refl, sym, ap, ◌∙◌, ◌⊎◌, inl, inr}
use Rattle.std.specs.Prelude.{option_map}
use Rattle.bump_rules.specs.declared.items.Head.{Head}
use Rattle.bump_rules.specs.declared.items.ItemId.{ItemId}
use Rattle.bump_rules.specs.declared.bumps.AppliedBump.{AppliedBump}
use Rattle.bump_rules.specs.declared.bumps.Bump.{Bump}
use Rattle.bump_rules.specs.declared.bumps.Outcome.{Outcome}
use Rattle.bump_rules.specs.declared.bumps.Outcome.TheVariants as outcome
use Rattle.bump_rules.specs.declared.lanes.LaneStage.{LaneStage}
use Rattle.bump_rules.specs.declared.lanes.LaneStage.TheVariants as lane
use Rattle.bump_rules.specs.Tables.{is_cold}
use Rattle.bump_rules.specs.Lanes.{applied_bump, outcome_tried, ending_at}
use Rattle.bump_rules.specs.Entries.{is_gone, is_told_moved, moving}
use Rattle.bump_rules.specs.Lawful.{bit}

-- what becomes of a bump whose item the lane looked at: Gone where it isn't linked, or else TimeOnly
tried_outcome : (linked cold : Bool) (x : Outcome) → (if not linked then Some outcome.Gone else
    (if cold then None else Some outcome.TimeOnly)) ≡ Some x
    → ((x ≡ outcome.Gone) × (linked ≡ false)) ⊎ (x ≡ outcome.TimeOnly)
tried_outcome false cold x is = inl ((cc), refl)
tried_outcome true true x is = absurd (let u : ⊥ = cc in u)
tried_outcome true false x is = inr (cc)

-- what a lane that looked at the item ends its bump with, by what becomes of it
tried_entry : (b : Bump) (o : Option Outcome) (a : AppliedBump) → option_map (applied_bump b) o ≡ Some a
    → (x : Outcome) × (o ≡ Some x) × (applied_bump b x ≡ a)
tried_entry b None a is = absurd (let u : ⊥ = cc in u)
tried_entry b (Some x) a is = (x, refl, cc)

-- the same by the head that it found
tried_end : (b : Bump) (found : Head) (a : AppliedBump) → option_map (applied_bump b) (outcome_tried found) ≡ Some a
    → ((applied_bump b outcome.Gone ≡ a) × (found.linked ≡ false)) ⊎ (applied_bump b outcome.TimeOnly ≡ a)
tried_end b found a is = let entry = tried_entry b (outcome_tried found) a is in
    elim (tried_outcome found.linked (is_cold found.segment) entry.0 entry.1) [
      | inl gone ↦ inl (ap (applied_bump b) (sym gone.0) ∙ entry.2, gone.1)
      | inr stays ↦ inr (ap (applied_bump b) (sym stays) ∙ entry.2)
    ]

-- an entry tells of a move where the lane had moved the item
pub told_by_ending : (heads : ℕ → Head) (x : LaneStage) (a : AppliedBump) → ending_at heads x ≡ Some a → (test : ItemId
    → Bool) (n : ℕ) → bit (is_told_moved test n a) ≡ moving test n x
told_by_ending heads lane.Empty a is test n = absurd (let u : ⊥ = cc in u)
told_by_ending heads (lane.Carrying b) a is test n = absurd (let u : ⊥ = cc in u)
told_by_ending heads (lane.Tried b) a is test n = elim (tried_end b (heads b.life.chunk) a is) [
  | inl gone ↦ ap (λ (e : AppliedBump). bit (is_told_moved test n e)) (sym gone.0)
  | inr stays ↦ ap (λ (e : AppliedBump). bit (is_told_moved test n e)) (sym stays)
]
told_by_ending heads (lane.Cleared b true) a is test n = absurd (let u : ⊥ = cc in u)
told_by_ending heads (lane.Cleared b false) a is test n = ap (λ (e : AppliedBump). bit (is_told_moved test n e))
    (let same : a ≡ applied_bump b outcome.TimeOnly = cc in same)
told_by_ending heads (lane.Moved b) a is test n = ap (λ (e : AppliedBump). bit (is_told_moved test n e)) (let same : a
    ≡ applied_bump b outcome.Moved = cc in same)

-- an entry tells that an item was gone where the lane saw that it wasn't linked
pub gone_by_ending : (heads : ℕ → Head) (x : LaneStage) (a : AppliedBump) → ending_at heads x ≡ Some a → is_gone a.outcome
    ≡ true → (heads a.life.chunk).linked ≡ false
gone_by_ending heads lane.Empty a is gone = absurd (let u : ⊥ = cc in u)
gone_by_ending heads (lane.Carrying b) a is gone = absurd (let u : ⊥ = cc in u)
gone_by_ending heads (lane.Tried b) a is gone = elim (tried_end b (heads b.life.chunk) a is) [
  | inl off ↦ ap (λ (e : AppliedBump). (heads e.life.chunk).linked) (sym off.0) ∙ off.1
  | inr stays ↦ absurd (let u : ⊥ = cc (ap (λ (e : AppliedBump). is_gone e.outcome) stays ∙ gone) in u)
]
gone_by_ending heads (lane.Cleared b true) a is gone = absurd (let u : ⊥ = cc in u)
gone_by_ending heads (lane.Cleared b false) a is gone = let same : applied_bump b outcome.TimeOnly ≡ a = cc in
    absurd (let u : ⊥ = cc (ap (λ (e : AppliedBump). is_gone e.outcome) same ∙ gone) in u)
gone_by_ending heads (lane.Moved b) a is gone = let same : applied_bump b outcome.Moved ≡ a = cc in
    absurd (let u : ⊥ = cc (ap (λ (e : AppliedBump). is_gone e.outcome) same ∙ gone) in u)
