-- What a get answers, by what the take under it answered.
use Rattle.std.proofs.Common.{◌≡◌, ℕ, List, Option, Some, None, Ok, Err, ap}
use Rattle.bump_rules.specs.declared.items.Head.{Head}
use Rattle.bump_rules.specs.declared.items.ItemId.{ItemId}
use Rattle.bump_steps.specs.declared.refusals.AnyRefusal.{AnyRefusal}
use Rattle.bump_steps.specs.declared.refusals.TakeRefusal.{TakeRefusal}
use Rattle.bump_steps.specs.Tries.{any_refusal}
use Rattle.bump_readers.specs.declared.views.HoldView.{HoldView}
use Rattle.bump_readers.specs.Taking.{take_answer, take_any_answer, whole_hold}
use Rattle.bump_unlocked.specs.Gets.{get_refusal, get_result, get_any_refusal, get_any_answer}
use Rattle.bump_unlocked.specs.Holds.{sheet_of}

module _ (item : ItemId) (row : List ℕ) where
  -- a hold of the item, and why there is none
  pub got_hold : (o : Option TakeRefusal) (h : HoldView) → Ok h ≡ take_answer o item row
      → Ok (sheet_of h) ≡ get_result o item row
  got_hold None h is = let same : h ≡ whole_hold item row = cc is in ap (λ (k : HoldView). Ok (sheet_of k)) same
  got_hold (Some refusal) h is = absurd (cc is)

  pub got_none : (o : Option TakeRefusal) (r : TakeRefusal) → Err r ≡ take_answer o item row
      → Err (get_refusal r) ≡ get_result o item row
  got_none None r is = absurd (cc is)
  got_none (Some refusal) r is = let same : r ≡ refusal = cc is in ap (λ (k : TakeRefusal). Err (get_refusal k)) same

  -- and of whatever item is linked
  module _ (last : Head) where
    pub got_any_hold : (o : Option TakeRefusal) (h : HoldView) (found : Head)
        → Ok (h, found) ≡ take_any_answer o item row last → Ok (sheet_of h, found) ≡ get_any_answer o item row last
    got_any_hold None h found is = let same : (h, found) ≡ (whole_hold item row, last) = cc is in
        ap (λ (k : HoldView × Head). Ok (sheet_of k.0, k.1)) same
    got_any_hold (Some refusal) h found is = absurd (cc is)

    pub got_any_none : (o : Option TakeRefusal) (r : AnyRefusal) → Err r ≡ take_any_answer o item row last
        → Err (get_any_refusal r) ≡ get_any_answer o item row last
    got_any_none None r is = absurd (cc is)
    got_any_none (Some refusal) r is = let same : r ≡ any_refusal refusal = cc is in
        ap (λ (k : AnyRefusal). Err (get_any_refusal k)) same
