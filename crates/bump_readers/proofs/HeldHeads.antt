-- What a whole hold knows of the head that it finds, and what is known of the head by which one was taken.
use Rattle.std.proofs.Common.{◌≡◌, ℕ, ◌<◌, ◌==◌, Bool, true, false, List, length, Option, Some, None, Ok, Err, IsSome, [], refl, sym, ap, ◌∙◌, subst, arith}
use Rattle.std.specs.Prelude.{if◌then◌else◌}
use Rattle.bump_rules.specs.declared.items.Head.{Head}
use Rattle.bump_rules.specs.declared.items.ItemId.{ItemId}
use Rattle.bump_rules.specs.Lives.{life, one_if}
use Rattle.bump_word.specs.Words.{Spells, word_of}
use Rattle.bump_word.proofs.Words.{one_head}
use Rattle.bump_steps.specs.declared.views.HoldSheet.{HoldSheet}
use Rattle.bump_readers.specs.declared.views.HoldView.{HoldView}
use Rattle.bump_steps.specs.Plays.{Sat, Found, Told}
use Rattle.bump_steps.specs.References.{view_after_release}
use Rattle.bump_readers.specs.Seats.{IsHoldOf, hold_me, spent_me}
use Rattle.bump_rules.specs.Tables.{Get, IsHeld, get_of}
use Rattle.bump_steps.specs.declared.refusals.AnyRefusal.{AnyRefusal}
use Rattle.bump_steps.specs.declared.refusals.TakeRefusal.{TakeRefusal}
use Rattle.bump_steps.specs.declared.refusals.TakeRefusal.TheVariants.{Busy}
use Rattle.bump_steps.specs.Tries.{AskedFound, of_any, last_found, refused_by, asked_refusal, asked_life, any_refusal, any_answer}
use Rattle.bump_steps.proofs.Tries.{last_is_one, unrefused}
use Rattle.bump_steps.proofs.Referring.{held_is}
use Rattle.bump_readers.specs.Taking.{IsTakenBy}
use Rattle.bump_steps.specs.Views.{held, weight}
use Rattle.bump_steps.proofs.StepLemmas.{one_life}

-- the head that a hold finds has the hold's life, and a reference
held_told : (l : ItemId) (sheet : Option HoldSheet) (m : Sat) (h : Head) → m ≡ hold_me sheet → IsHoldOf l sheet
    → IsSome sheet → Told l.chunk m.0 h → (h.generation ≡ l.generation) × (0 < h.refs)
held_told l None m h mine of whole told = absurd (cc whole)
held_told l (Some p) m h mine of whole told =
    let one : weight l.chunk (held l.generation) m.0 ≡ 1 =
    omega (
      arith,
      ap (λ (x : Sat). weight l.chunk (held l.generation) x.0) mine,
      ap (λ (y : ItemId). one_if (life l.chunk l.generation) y) of,
      one_life l,
    ) in
    (sym (told.held l.generation (omega (arith, one))), omega (arith, told.many l.generation, one))

-- what is left of the seat when the reference was given back: the mark of it
pub spent_is : (v : HoldView) (m p : Sat) (n : ℕ) (h : Head) → m ≡ hold_me v.sheet → IsHoldOf v.life v.sheet
    → IsSome v.sheet → p ≡ (view_after_release n m.0, m.1) → Spells n h → p ≡ spent_me v.life (word_of h)
spent_is v m p n h mine of whole given spelled = given ∙ ap (λ (x : Sat). (view_after_release n x.0, x.1)) mine
    ∙ by v.sheet of whole ∙ ap (spent_me v.life) spelled.0
  where
    by : (o : Option HoldSheet) → IsHoldOf v.life o → IsSome o → ◌≡◌ {A = Sat} (view_after_release n (hold_me o).0, [])
        (spent_me v.life n)
    by None of whole = absurd (cc whole)
    by (Some k) of whole = ap (λ (l : ItemId). spent_me l n) of

-- for a contract: the head of the word that was found
pub held_found : (v : HoldView) (m : Sat) (n : ℕ) (h : Head) → m ≡ hold_me v.sheet → IsHoldOf v.life v.sheet
    → IsSome v.sheet → Found n (Told v.life.chunk m.0) → Spells n h → (h.generation ≡ v.life.generation) × (0 < h.refs)
held_found v m n h mine of whole found spelled = held_told v.life v.sheet m h mine of whole
    (subst (Told v.life.chunk m.0) (one_head n found.0 h found.1 spelled) found.2)

-- where a call isn't refused, a get by the head that was found last is a hold
not_refused : (eighth : Bool) (get : Get) → (if eighth then Some Busy else refused_by get) ≡ None → get ≡ IsHeld
not_refused true get is = absurd (cc is)
not_refused false get is = unrefused get is

-- so it is a linked one, with room
pub taken_by : (limit c : ℕ) (first : Head) (more : List Head) → AskedFound limit of_any first more
    → asked_refusal limit of_any first more ≡ None
    → IsTakenBy limit (asked_life of_any c first more) (last_found first more)
taken_by limit c first more found is =
    let k : Head = last_found first more in
    let can = held_is limit k.generation k (not_refused (length more == 8) (get_of limit k.generation k) is) in record {
      fits = last_is_one _ first more found.heads;
      linked = can.0;
      generation = refl;
      room = can.2;
    }

-- by the answer of a call for whatever life it is known why it is refused, or by which word the reference was taken
pub any_ok : (o : Option TakeRefusal) (last : Head) (word : ℕ) → Ok word ≡ any_answer o last
    → (o ≡ None) × (word ≡ word_of last)
any_ok None last word is = (refl, cc is)
any_ok (Some q) last word is = absurd (cc is)

pub any_err : (o : Option TakeRefusal) (last : Head) (r : AnyRefusal) → Err r ≡ any_answer o last
    → (q : TakeRefusal) × (o ≡ Some q) × (r ≡ any_refusal q)
any_err None last r is = absurd (cc is)
any_err (Some q) last r is = (q, refl, cc is)
