-- What a call of `take`, or of `take_any`, comes to, by the heads that it found: the first one by its load, and more by the exchanges that
-- failed, in order.
use Rattle.std.specs.Prelude.{◌≡◌, ℕ, ◌<◌, List, Option, Some, None, Result, Ok, Err, true}
use Rattle.bump_rules.specs.declared.items.Head.{Head}
use Rattle.bump_rules.specs.declared.items.ItemId.{ItemId}
use Rattle.bump_word.specs.Words.{Fits}
use Rattle.bump_steps.specs.declared.refusals.AnyRefusal.{AnyRefusal}
use Rattle.bump_steps.specs.declared.refusals.TakeRefusal.{TakeRefusal}
use Rattle.bump_readers.specs.declared.views.HoldView.{HoldView}
use Rattle.bump_readers.specs.declared.views.WorkerView.{WorkerView}
use Rattle.bump_steps.specs.References.{new_hold}
use Rattle.bump_steps.specs.Tries.{AskedFound, TakeFound, of_any, of_life, last_found, asked_refusal, refusal_of, asked_life, worker_after_asked, any_refusal}

-- a whole hold of a life that has these words, and which looked at no head
abbrev pub whole_hold : ItemId → List ℕ → HoldView
whole_hold item row = record { life = item; sheet = Some (new_hold item row) }

-- the answer: a hold of the life, or the refusal
abbrev pub take_answer : Option TakeRefusal → ItemId → List ℕ → Result HoldView TakeRefusal
take_answer None item row = Ok (whole_hold item row)
take_answer (Some refusal) item row = Err refusal

-- what a call of `take` comes to that found these heads
pub record Took (limit : ℕ) (item : ItemId) (before after : WorkerView) (answered : Result HoldView TakeRefusal)
    (first : Head)
    (more : List Head) : Type 0 where
  pub found : TakeFound limit item first more
  -- the row of the life, which the hold has
  pub row : List ℕ
  -- nothing is new to the worker but the steps, and the hold with this row, if it took one: where the call is refused
  -- none of them changed the word
  pub steps : after ≡ record before
      { sheet = worker_after_asked limit (of_life item) item.chunk first more row before.sheet }
  pub answer : answered ≡ take_answer (refusal_of limit item first more) item row

-- ---- of whatever life is linked

-- the answer: a hold of the life that the head found last has, and this head, or the refusal
abbrev pub take_any_answer : Option TakeRefusal → ItemId → List ℕ → Head → Result (HoldView × Head) AnyRefusal
take_any_answer None item row found = Ok (whole_hold item row, found)
take_any_answer (Some refusal) item row found = Err (any_refusal refusal)

-- what a call of `take_any` comes to that found these heads
pub record TookAny (limit chunk : ℕ) (before after : WorkerView)
    (answered : Result (HoldView × Head) AnyRefusal)
    (first : Head)
    (more : List Head) : Type 0 where
  pub found : AskedFound limit of_any first more
  -- the row of the life, which the hold has
  pub row : List ℕ
  -- nothing is new to the worker but the steps, and the hold with this row, if it took one: where the call is refused
  -- none of them changed the word
  pub steps : after ≡ record before { sheet = worker_after_asked limit of_any chunk first more row before.sheet }
  pub answer : answered ≡ take_any_answer (asked_refusal limit of_any first more) (asked_life of_any chunk first more)
      row (last_found first more)

-- By this head a reference to the life was taken: it is what a word can spell, of a linked chunk in this generation, and
-- had room.
pub record IsTakenBy (limit : ℕ) (item : ItemId) (found : Head) : Type 0 where
  pub fits : Fits found
  pub linked : found.linked ≡ true
  pub generation : found.generation ≡ item.generation
  pub room : found.refs < limit
