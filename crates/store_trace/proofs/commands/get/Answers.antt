use Rattle.std.proofs.Common.{◌≡◌, ◌⊎◌, ℕ, ◌≤◌, ◌<◌, List, Option, None, Some, Ok, inl, inr, ap, ◌∙◌, subst}
use Rattle.std.proofs.lemmas.Bool.{cases_lt}
use Rattle.bump_rules.specs.declared.configs.Config.{Config}
use Rattle.bump_rules.specs.declared.items.ItemId.{ItemId}
use Rattle.bump_steps.specs.Rule.{chunks as all_chunks}
use Rattle.bump_steps.specs.declared.refusals.TakeRefusal.{TakeRefusal}
use Rattle.bump_steps.specs.declared.views.HoldSheet.{HoldSheet}
use Rattle.bump_steps.specs.References.{new_hold}
use Rattle.bump_unlocked.specs.Gets.{Got, get_result}
use Rattle.bump_unlocked.specs.Touches.{Touched}
use Rattle.store_trace.proofs.commands.get.Goals as goal

-- a hold that was taken is of the item that was asked for
held_item : (refusal : Option TakeRefusal) (item : ItemId) (row : List ℕ) (hold : HoldSheet)
    → Ok hold ≡ get_result refusal item row → hold.life ≡ item
held_item None item row hold is = let e : hold ≡ new_hold item row = cc is in ap (λ (h : HoldSheet). h.life) e
held_item (Some refusal) item row hold is = absurd (cc is)

pub returns-clause-got : goal.returns-clause-got
returns-clause-got g c =
    let config = c.args.store.now in
    let item = c.args.id in
    let hold = c.in_ok-hold.hold in
    let inside : item.chunk < all_chunks c.deref.result.now = by (cases_lt item.chunk (all_chunks c.deref.result.now)) in
    let (first, more, got) = c.in_ok-hold.ensures.got inside in
    let same = c.read_label-label.ensures ∙ held_item _ item _ hold got.answer in (
      hold,
      first,
      more,
      c.get.new.self,
      subst (λ (k : Config). Got k.refs_limit item c.args.worker.now c.get.new.self (Ok hold) first more) c.deref.ensures got,
      (
        c.touch-touch.ensures.exhausted,
        λ low.
            let (found, touched) = c.touch-touch.ensures.touched low in (
              found,
              subst (λ (k : Config). Touched k.refs_limit item c.args.now c.get.new.self c.touch-touch.new.self c.touch-touch.result found) c.deref-2.ensures
                  (subst (λ (i : ItemId). Touched c.deref-2.result.now.refs_limit i c.args.now c.get.new.self c.touch-touch.new.self c.touch-touch.result found) same touched),
            ),
      ),
    )
  where
    by : (c.args.id.chunk < all_chunks c.deref.result.now) ⊎ (all_chunks c.deref.result.now ≤ c.args.id.chunk)
        → c.args.id.chunk < all_chunks c.deref.result.now
    by (inl low) = low
    by (inr high) = absurd (cc (c.in_ok-hold.ensures.missing high).0)
