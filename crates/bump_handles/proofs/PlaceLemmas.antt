-- Places for holds: what stands there, and what calls of a reader with a place come to. The view `v` is that of the
-- reader's fields.
use Rattle.std.proofs.Common.{◌≡◌, ◌≢◌, ℕ, ◌≤◌, ◌<◌, List, true, false, Option, Some, None, is_some, Result, Ok, Err, refl, sym, ap, ◌∙◌, subst, arith}
use Rattle.std.proofs.lemmas.Grind.{common_steps}
use Rattle.std.proofs.lemmas.List.{set-get_or}
use Rattle.std.specs.Prelude.{slice_get, slice_set, slice_index_or}
use Rattle.bump_rules.specs.declared.commands.Touch.{Touch}
use Rattle.bump_rules.specs.declared.items.Head.{Head}
use Rattle.bump_rules.specs.declared.items.ItemId.{ItemId}
use Rattle.bump_rules.specs.declared.configs.Config.{Config}
use Rattle.bump_rules.specs.Rings.{most_attempts}
use Rattle.bump_steps.specs.declared.views.HoldSheet.{HoldSheet}
use Rattle.bump_steps.specs.References.{label_of_row}
use Rattle.bump_steps.specs.Rule.{chunks as all_chunks}
use Rattle.bump_unlocked.specs.declared.refusals.GetRefusal.{GetRefusal}
use Rattle.bump_unlocked.specs.declared.refusals.GetRefusal.TheVariants as refused
use Rattle.bump_unlocked.specs.Gets.{Got, WorkerGets}
use Rattle.bump_unlocked.specs.Touches.{Findings, Touched, WorkerTouches}
use Rattle.bump_rules.specs.declared.commands.Touch.TheVariants as touch
use Rattle.bump_unlocked.specs.Workers.{WorkerState}
use Rattle.bump_handles.specs.declared.readers.Taken.{Taken}
use Rattle.bump_handles.specs.declared.readers.Taken.TheVariants as taken
use Rattle.bump_unlocked.specs.Holds.{SeesHead}
use Rattle.bump_handles.specs.Reading.{ReaderGets, ReaderTouches, ReaderReads, ReaderReleases, ReaderHits}
use Rattle.bump_handles.specs.Reading.{CopiesWords, ReaderCopies, ReaderSees}
use Rattle.bump_handles.specs.Reading.{taken_told, HoldsNothing}
use Rattle.bump_handles.specs.Views.{ReaderView}

-- what is put back where it was read changes nothing
pub put_back : {A : Type 0} (xs : List A) (i : ℕ) (x : A) → x ≡ slice_index_or xs i x → slice_set xs i x ≡ xs
put_back xs i x read = ap (λ y. slice_set xs i y) read ∙ set-get_or xs i x

-- a place that has a hold isn't free
pub busy_there : (holds : List (Option HoldSheet)) (place : ℕ) (x : Option HoldSheet) → slice_get holds place ≡ Some x
    → is_some x ≡ true → slice_get holds place ≢ Some None
busy_there holds place x there some = grind (arith, common_steps)

-- no item is held in a place that is free
free_holds_nothing : (place : ℕ) (reader : ReaderView) (x : Option HoldSheet) → slice_get reader.holds place ≡ Some x
    → x ≡ None → HoldsNothing place reader
free_holds_nothing place reader x there none = λ hold. grind (arith, common_steps)

-- where nothing is, there is None
pub none_of : (x : Option HoldSheet) → is_some x ≡ false → x ≡ None
none_of None is = refl
none_of (Some hold) is = grind (arith, common_steps)

-- a reader whose place was read, and is as it was
as_it_was : (place : ℕ) (v after : ReaderView) (x y : Option HoldSheet) → x ≡ slice_index_or v.holds place x → y ≡ x
    → after ≡ record v { holds = slice_set v.holds place y } → after ≡ v
as_it_was place v after x y read same left = left
    ∙ ap (λ (z : Option HoldSheet). record v { holds = slice_set v.holds place z }) same
    ∙ ap (λ (hs : List (Option HoldSheet)). record v { holds = hs }) (put_back v.holds place x read)

-- the worker's get, at the words that it was made on
pub worker_gets : (k config : Config) (item : ItemId) (before after : WorkerState) (took : Result HoldSheet GetRefusal)
    → k ≡ config
    → (all_chunks k ≤ item.chunk → (took ≡ Err refused.NoSuchChunk) × (after ≡ before))
    → (item.chunk < all_chunks k → (first : Head) × (more : List Head) × Got k.refs_limit item before after took first more)
    → WorkerGets config item before after took
worker_gets k config item before after took same missing got =
    subst (λ (x : Config). WorkerGets x item before after took) same (record { missing = missing; got = got })

-- the worker's touch, at the words that it was made on
pub worker_touches : (k config : Config) (item : ItemId) (now : ℕ) (before after : WorkerState) (answer : Touch)
    → k ≡ config
    → (before.sheet.accounts.attempted ≡ most_attempts → (answer ≡ touch.Exhausted) × (after ≡ before))
    → (before.sheet.accounts.attempted < most_attempts → (found : Findings)
    × Touched k.refs_limit item now before after answer found)
    → WorkerTouches config item now before after answer
worker_touches k config item now before after answer same exhausted touched =
    subst (λ (x : Config). WorkerTouches x item now before after answer) same
    (record { exhausted = exhausted; touched = touched })

-- a get into a place that has a hold
pub gets_busy : (place : ℕ) (item : ItemId) (v before after : ReaderView) (x : Option HoldSheet) → v ≡ before
    → slice_get v.holds place ≡ Some x → is_some x ≡ true → x ≡ slice_index_or v.holds place x
    → after ≡ record v { holds = slice_set v.holds place x } → ReaderGets place item before after taken.NoPlace
gets_busy place item v before after x same there some read left =
    subst (λ (b : ReaderView). ReaderGets place item b after taken.NoPlace) same (record {
      no_place = λ _. (refl, as_it_was place v after x x read refl left);
      free = λ free. absurd (busy_there v.holds place x there some free);
    })

-- a get into one that is free, and the hold is there
pub gets_held : (place : ℕ) (item : ItemId) (v before after : ReaderView) (x y : Option HoldSheet) (hold : HoldSheet)
    → v ≡ before → slice_get v.holds place ≡ Some x → is_some x ≡ false
    → WorkerGets v.config item v.worker after.worker (Ok hold) → y ≡ Some hold
    → after ≡ record v { worker = after.worker; holds = slice_set v.holds place y }
    → ReaderGets place item before after taken.Held
gets_held place item v before after x y hold same there none gets is left =
    let free : slice_get v.holds place ≡ Some None = there ∙ ap (λ (z : Option HoldSheet). Some z) (none_of x none) in
    subst (λ (b : ReaderView). ReaderGets place item b after taken.Held) same (record {
      no_place = λ busy. absurd (busy free);
      free = λ _. record {
        took = Ok hold;
        gets = gets;
        answered = refl;
        left = left ∙ ap (λ (z : Option HoldSheet). record v { worker = after.worker; holds = slice_set v.holds place z }) is;
      };
    })

-- and one that is refused
pub gets_refused : (place : ℕ) (item : ItemId) (v before after : ReaderView) (x : Option HoldSheet)
    (refusal : GetRefusal) (answer : Taken) → v ≡ before → slice_get v.holds place ≡ Some x → is_some x ≡ false
    → x ≡ slice_index_or v.holds place x
    → WorkerGets v.config item v.worker after.worker (Err refusal) → answer ≡ taken_told (Err refusal)
    → after ≡ record v { worker = after.worker; holds = slice_set v.holds place x }
    → ReaderGets place item before after answer
gets_refused place item v before after x refusal answer same there none read gets answered left =
    let free : slice_get v.holds place ≡ Some None = there ∙ ap (λ (z : Option HoldSheet). Some z) (none_of x none) in
    subst (λ (b : ReaderView). ReaderGets place item b after answer) same (record {
      no_place = λ busy. absurd (busy free);
      free = λ _. record {
        took = Err refusal;
        gets = gets;
        answered = answered;
        left = left ∙ ap (λ (hs : List (Option HoldSheet)). record v { worker = after.worker; holds = hs }) (put_back v.holds place x read);
      };
    })

-- a touch where nothing is held
pub touches_nothing : (place now : ℕ) (v before after : ReaderView) (x : Option HoldSheet) → v ≡ before
    → slice_get v.holds place ≡ Some x → x ≡ None → x ≡ slice_index_or v.holds place x
    → after ≡ record v { holds = slice_set v.holds place x } → ReaderTouches place now before after None
touches_nothing place now v before after x same there none read left =
    let unchanged = as_it_was place v after x x read refl left in
    subst (λ (b : ReaderView). ReaderTouches place now b after None) same (record {
      no_hold = (free_holds_nothing place v x there none, unchanged);
      touched = tt;
      ring = ap (λ (r : ReaderView). r.worker.sender.ring) unchanged;
      kept = unchanged
          ∙ ap (λ (w : WorkerState). record v { worker = w }) (sym (ap (λ (r : ReaderView). r.worker) unchanged));
    })

-- and one of an item that is held
pub touches_there : (place now : ℕ) (v before after : ReaderView) (x : Option HoldSheet) (hold left_hold : HoldSheet)
    (answer : Touch) → v ≡ before → slice_get v.holds place ≡ Some x → x ≡ Some hold
    → x ≡ slice_index_or v.holds place x → left_hold ≡ hold
    → WorkerTouches v.config hold.life now v.worker after.worker answer
    → after.worker.sender.ring ≡ v.worker.sender.ring
    → after ≡ record v { worker = after.worker; holds = slice_set v.holds place (Some left_hold) }
    → ReaderTouches place now before after (Some answer)
touches_there place now v before after x hold left_hold answer same there is read stays touches ring left =
    subst (λ (b : ReaderView). ReaderTouches place now b after (Some answer)) same (record {
      no_hold = tt;
      touched = (hold, there ∙ ap (λ (z : Option HoldSheet). Some z) is, touches);
      ring = ring;
      kept = left
          ∙ ap (λ (hs : List (Option HoldSheet)). record v { worker = after.worker; holds = hs })
          (ap (λ (z : Option HoldSheet). slice_set v.holds place z) (ap (λ (h : HoldSheet). Some h) stays ∙ sym is)
          ∙ put_back v.holds place x read);
    })

-- a label is asked for where nothing is held
pub reads_nothing : (place : ℕ) (v before after : ReaderView) (x : Option HoldSheet) → v ≡ before
    → slice_get v.holds place ≡ Some x → x ≡ None → x ≡ slice_index_or v.holds place x
    → after ≡ record v { holds = slice_set v.holds place x } → ReaderReads place before after None
reads_nothing place v before after x same there none read left =
    subst (λ (b : ReaderView). ReaderReads place b after None) same (record {
      no_hold = (free_holds_nothing place v x there none, as_it_was place v after x x read refl left);
      read = tt;
    })

-- and of an item that is held
pub reads_there : (place label : ℕ) (v before after : ReaderView) (x : Option HoldSheet) (hold left_hold : HoldSheet)
    → v ≡ before → slice_get v.holds place ≡ Some x → x ≡ Some hold → x ≡ slice_index_or v.holds place x
    → left_hold ≡ hold → label ≡ label_of_row hold.row
    → after ≡ record v { holds = slice_set v.holds place (Some left_hold) }
    → ReaderReads place before after (Some label)
reads_there place label v before after x hold left_hold same there is read stays in_row left =
    subst (λ (b : ReaderView). ReaderReads place b after (Some label)) same (record {
      no_hold = tt;
      read = (
        hold,
        there ∙ ap (λ (z : Option HoldSheet). Some z) is,
        in_row,
        as_it_was place v after x (Some left_hold) read (ap (λ (h : HoldSheet). Some h) stays ∙ sym is) left,
      );
    })

-- a look where nothing is held
pub sees_nothing : (place : ℕ) (v before after : ReaderView) (x : Option HoldSheet) → v ≡ before
    → slice_get v.holds place ≡ Some x → x ≡ None → x ≡ slice_index_or v.holds place x
    → after ≡ record v { holds = slice_set v.holds place x } → ReaderSees place before after None
sees_nothing place v before after x same there none read left =
    subst (λ (b : ReaderView). ReaderSees place b after None) same (record {
      no_hold = (free_holds_nothing place v x there none, as_it_was place v after x x read refl left);
      seen = tt;
    })

-- and at an item that is held
pub sees_there : (place : ℕ) (v before after : ReaderView) (x : Option HoldSheet) (hold left_hold : HoldSheet) (head : Head)
    → v ≡ before → slice_get v.holds place ≡ Some x → x ≡ Some hold → SeesHead hold left_hold head
    → after ≡ record v { holds = slice_set v.holds place (Some left_hold) }
    → ReaderSees place before after (Some head)
sees_there place v before after x hold left_hold head same there is sees left =
    subst (λ (b : ReaderView). ReaderSees place b after (Some head)) same (record {
      no_hold = tt;
      seen = (hold, left_hold, there ∙ ap (λ (z : Option HoldSheet). Some z) is, sees, left);
    })

-- words are to be copied where nothing is held
pub copies_nothing : (place first further : ℕ) (v before after : ReaderView) (slice : List ℕ) (x : Option HoldSheet)
    → v ≡ before → slice_get v.holds place ≡ Some x → x ≡ None → x ≡ slice_index_or v.holds place x
    → after ≡ record v { holds = slice_set v.holds place x } → ReaderCopies place first further before after slice slice None
copies_nothing place first further v before after slice x same there none read left =
    subst (λ (b : ReaderView). ReaderCopies place first further b after slice slice None) same (record {
      no_hold = (free_holds_nothing place v x there none, as_it_was place v after x x read refl left, refl);
      count = tt;
      same = tt;
      copied = tt;
    })

-- and those of an item that is held
pub copies_there : (place first further count : ℕ) (v before after : ReaderView) (slice told : List ℕ) (x : Option HoldSheet)
    (hold left_hold : HoldSheet) → v ≡ before → slice_get v.holds place ≡ Some x → x ≡ Some hold
    → x ≡ slice_index_or v.holds place x → left_hold ≡ hold → CopiesWords hold.row first further slice told
    → count ≡ further → after ≡ record v { holds = slice_set v.holds place (Some left_hold) }
    → ReaderCopies place first further before after slice told (Some count)
copies_there place first further count v before after slice told x hold left_hold same there is read stays copies many left =
    subst (λ (b : ReaderView). ReaderCopies place first further b after slice told (Some count)) same (record {
      no_hold = tt;
      count = many;
      same = as_it_was place v after x (Some left_hold) read (ap (λ (h : HoldSheet). Some h) stays ∙ sym is) left;
      copied = (hold, there ∙ ap (λ (z : Option HoldSheet). Some z) is, copies);
    })

-- a hold is to be given back where none is
pub releases_nothing : (place : ℕ) (v before after : ReaderView) (x y : Option HoldSheet) → v ≡ before
    → slice_get v.holds place ≡ Some x → x ≡ None → y ≡ None → x ≡ slice_index_or v.holds place x
    → after ≡ record v { holds = slice_set v.holds place y } → ReaderReleases place before after false
releases_nothing place v before after x y same there none is read left =
    subst (λ (b : ReaderView). ReaderReleases place b after false) same (record {
      no_hold = λ _. (free_holds_nothing place v x there none, as_it_was place v after x y read (is ∙ sym none) left);
      released = λ no. absurd (grind (arith, common_steps));
    })

-- and where there is one
pub releases_there : (place : ℕ) (v before after : ReaderView) (x y : Option HoldSheet) (hold : HoldSheet) → v ≡ before
    → slice_get v.holds place ≡ Some x → x ≡ Some hold → y ≡ None
    → after ≡ record v { holds = slice_set v.holds place y } → ReaderReleases place before after true
releases_there place v before after x y hold same there is none left =
    subst (λ (b : ReaderView). ReaderReleases place b after true) same (record {
      no_hold = λ no. absurd (grind (arith, common_steps));
      released = λ _. (
        hold,
        there ∙ ap (λ (z : Option HoldSheet). Some z) is,
        left ∙ ap (λ (z : Option HoldSheet). record v { holds = slice_set v.holds place z }) none,
      );
    })

-- a whole hit
pub hits_there : (item : ItemId) (now : ℕ) (v before after : ReaderView) (between : WorkerState) (hold : HoldSheet)
    (touch : Touch) (label : ℕ) → v ≡ before → WorkerGets v.config item v.worker between (Ok hold)
    → WorkerTouches v.config hold.life now between after.worker touch → label ≡ label_of_row hold.row
    → after.worker.sender.ring ≡ v.worker.sender.ring → after ≡ record v { worker = after.worker }
    → ReaderHits item now before after (Ok (record { touch = touch; label = label }))
hits_there item now v before after between hold touch label same gets touches in_row ring left =
    subst (λ (b : ReaderView). ReaderHits item now b after (Ok (record { touch = touch; label = label }))) same (record {
      refused = tt;
      hit = (between, hold, gets, touches, in_row);
      ring = ring;
      kept = left;
    })
