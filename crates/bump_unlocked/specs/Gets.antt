-- What a get comes to, by the heads that it found: the first one by its load, and more by the exchanges that failed,
-- in order.
use Rattle.std.specs.Prelude.{◌≡◌, ◌<◌, ◌≤◌, ℕ, List, Option, Some, None, Result, Ok, Err}
use Rattle.bump_rules.specs.declared.configs.Config.{Config}
use Rattle.bump_rules.specs.declared.items.Head.{Head}
use Rattle.bump_rules.specs.declared.items.ItemId.{ItemId}
use Rattle.bump_steps.specs.declared.refusals.AnyRefusal.{AnyRefusal}
use Rattle.bump_steps.specs.declared.refusals.AnyRefusal.TheVariants as any
use Rattle.bump_steps.specs.declared.refusals.TakeRefusal.{TakeRefusal}
use Rattle.bump_steps.specs.declared.refusals.TakeRefusal.TheVariants as take
use Rattle.bump_steps.specs.declared.views.HoldSheet.{HoldSheet}
use Rattle.bump_steps.specs.References.{new_hold}
use Rattle.bump_steps.specs.Rule.{chunks as all_chunks}
use Rattle.bump_steps.specs.Tries.{AskedFound, TakeFound, of_any, of_life, last_found, asked_refusal, refusal_of, asked_life, worker_after_asked, any_refusal}
use Rattle.bump_unlocked.specs.declared.refusals.GetAnyRefusal.{GetAnyRefusal}
use Rattle.bump_unlocked.specs.declared.refusals.GetAnyRefusal.TheVariants as get_any
use Rattle.bump_unlocked.specs.declared.refusals.GetRefusal.{GetRefusal}
use Rattle.bump_unlocked.specs.declared.refusals.GetRefusal.TheVariants.{NoSuchChunk, Stale, RefsFull, Busy}
use Rattle.bump_unlocked.specs.Workers.{WorkerState}

-- the refusals of a reference by their names here
abbrev pub get_refusal : TakeRefusal → GetRefusal
get_refusal take.Stale = Stale
get_refusal take.RefsFull = RefsFull
get_refusal take.Busy = Busy

-- a hold of the item, with its words, or the refusal
abbrev pub get_result : Option TakeRefusal → ItemId → List ℕ → Result HoldSheet GetRefusal
get_result None item row = Ok (new_hold item row)
get_result (Some refusal) item row = Err (get_refusal refusal)

-- what a get of a chunk of the store comes to that found these heads
pub record Got (limit : ℕ) (item : ItemId) (before after : WorkerState) (answered : Result HoldSheet GetRefusal)
    (first : Head) (more : List Head) : Type 0 where
  pub found : TakeFound limit item first more
  -- the words of the item, which the hold has
  pub row : List ℕ
  -- Nothing is new to the worker but the steps, and the hold with these words, if it took one, which is the first of
  -- those that the worker took: where the get is refused none of the steps changed a word.
  pub steps : after ≡ record before
      { sheet = worker_after_asked limit (of_life item) item.chunk first more row before.sheet }
  pub answer : answered ≡ get_result (refusal_of limit item first more) item row

-- a worker's get of an item, by the clauses `missing` and `got` of `Worker::get`
pub record WorkerGets (config : Config) (item : ItemId) (before after : WorkerState)
    (took : Result HoldSheet GetRefusal) : Type 0 where
  pub missing : all_chunks config ≤ item.chunk → (took ≡ Err NoSuchChunk) × (after ≡ before)
  pub got : item.chunk < all_chunks config → (first : Head) × (more : List Head)
      × Got config.refs_limit item before after took first more

-- ---- of whatever item is linked

abbrev pub get_any_refusal : AnyRefusal → GetAnyRefusal
get_any_refusal any.Gone = get_any.Gone
get_any_refusal any.RefsFull = get_any.RefsFull
get_any_refusal any.Busy = get_any.Busy

-- a hold of the item that the head found last has, and this head, or the refusal
abbrev pub get_any_answer : Option TakeRefusal → ItemId → List ℕ → Head → Result (HoldSheet × Head) GetAnyRefusal
get_any_answer None item row found = Ok (new_hold item row, found)
get_any_answer (Some refusal) item row found = Err (get_any_refusal (any_refusal refusal))

-- what a get of whatever item is linked in a chunk of the store comes to that found these heads
pub record GotAny (limit chunk : ℕ) (before after : WorkerState) (answered : Result (HoldSheet × Head) GetAnyRefusal)
    (first : Head) (more : List Head) : Type 0 where
  pub found : AskedFound limit of_any first more
  -- the words of the item, which the hold has
  pub row : List ℕ
  -- Nothing is new to the worker but the steps, and the hold with these words, if it took one, which is the first of
  -- those that the worker took: where the get is refused none of the steps changed a word.
  pub steps : after ≡ record before { sheet = worker_after_asked limit of_any chunk first more row before.sheet }
  pub answer : answered ≡ get_any_answer (asked_refusal limit of_any first more) (asked_life of_any chunk first more)
      row (last_found first more)
