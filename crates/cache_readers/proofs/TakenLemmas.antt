-- What a get found stands in the row that the worker's seat noted last, of a hold or of a glance, so that no other row will
-- do.
use Rattle.std.proofs.Common.{◌≡◌, ℕ, ◌<◌, Bool, true, false, nat_lt, List, [], ◌∷◌, length, slice_index, Option, Some, None, Ok, inl, inr, refl, sym, ap, ◌∙◌, subst, arith}
use Rattle.std.proofs.lemmas.Bool.{ltb-true, ltb-false}
use Rattle.bump_rules.specs.declared.configs.Config.{Config}
use Rattle.bump_rules.specs.declared.items.Head.{Head}
use Rattle.bump_rules.specs.declared.items.ItemId.{ItemId}
use Rattle.bump_steps.specs.declared.refusals.TakeRefusal.{TakeRefusal}
use Rattle.bump_steps.specs.declared.views.GlanceSheet.{GlanceSheet}
use Rattle.bump_steps.specs.declared.views.HoldSheet.{HoldSheet}
use Rattle.bump_steps.specs.References.{new_hold}
use Rattle.bump_steps.specs.Rule.{RowPredicate, chunks as all_chunks}
use Rattle.bump_steps.specs.Tries.{of_any, last_found, asked_life, asked_refusal, held_by}
use Rattle.bump_unlocked.specs.Gets.{GotAny, get_any_answer}
use Rattle.bump_unlocked.specs.Workers.{WorkerState}
use Rattle.cache_readers.specs.Glances.{GlanceFinds}
use Rattle.cache_readers.specs.Looks.{Finds, GlancesKey, HasWords, Hits, LooksAt, Peeks, WorkerGetsAny}
use Rattle.cache_readers.proofs.LastSteps.{ends_by_loads, held_last, last_two, took_end}

-- a hold that is answered is the one that is noted
noted_hold : (hold : HoldSheet) (found last : Head) (item : ItemId) (row : List ℕ) (taken : List HoldSheet)
    (o : Option TakeRefusal) → Ok (hold, found) ≡ get_any_answer o item row last
    → held_by o item row taken ≡ hold ∷ taken
noted_hold hold found last item row taken None is =
    let same : (hold, found) ≡ (new_hold item row, last) = cc is in
    ap (λ (t : HoldSheet × Head). t.0 ∷ taken) (sym same)
noted_hold hold found last item row taken (Some why) is = absurd (cc is)

-- a get of whatever item is linked that answers a hold notes it as the first of those that the worker took
pub gets_first : (config : Config) (chunk : ℕ) (before after : WorkerState) (hold : HoldSheet) (found : Head)
    → WorkerGetsAny config chunk before after (Ok (hold, found)) → after.sheet.taken ≡ hold ∷ before.sheet.taken
gets_first config chunk before after hold found gets = by (nat_lt chunk (all_chunks config)) refl
  where
    of_got : (first : Head) (more : List Head)
        → GotAny config.refs_limit chunk before after (Ok (hold, found)) first more
        → after.sheet.taken ≡ hold ∷ before.sheet.taken
    of_got first more got = ap (λ (w : WorkerState). w.sheet.taken) got.steps
        ∙ noted_hold hold found (last_found first more) (asked_life of_any chunk first more) got.row
        before.sheet.taken (asked_refusal config.refs_limit of_any first more) got.answer

    by : (near : Bool) → nat_lt chunk (all_chunks config) ≡ near → after.sheet.taken ≡ hold ∷ before.sheet.taken
    by true is = let t = gets.got (ltb-true chunk (all_chunks config) is) in of_got t.0 t.1 t.2
    by false is = let far = ltb-false chunk (all_chunks config) is in
        absurd (cc (gets.missing (omega (arith, far))).0)

-- so does a look
pub look_first : (config : Config) (chunk : ℕ) (before after : WorkerState) (hold : HoldSheet) (found : Head)
    → LooksAt config chunk before after (Ok (hold, found)) → after.sheet.taken ≡ hold ∷ before.sheet.taken
look_first config chunk before after hold found look =
    gets_first config chunk look.between after hold found look.gets
    ∙ ap (λ (w : WorkerState). hold ∷ w.sheet.taken) look.glances.is

-- a hit's hold is the one that the worker took last
pub hits_first : (law : RowPredicate) (config : Config) (key : List ℕ) (now from to : ℕ) (before after : WorkerState)
    (hold : HoldSheet) → (hits : Hits law config key now from to before after hold)
    → after.sheet.taken ≡ hold ∷ hits.takes.search.last.sheet.taken
hits_first law config key now from to before after hold hits = hits.touches.taken
    ∙ look_first config hits.takes.search.ends.chunk hits.takes.search.last hits.between hold hits.found
    hits.takes.search.ends.gets

-- the row of the first of these, and none where there is none
abbrev first_taken : List HoldSheet → List ℕ
first_taken [] = []
first_taken (hold ∷ holds) = hold.row

abbrev first_glanced : List GlanceSheet → List ℕ
first_glanced [] = []
first_glanced (glance ∷ glances) = glance.row

-- The row that a worker noted last: that of its last glance, where its steps end with a glance's loads, and else that of
-- the hold that it took last.
abbrev row_by : Bool → WorkerState → List ℕ
row_by true worker = first_glanced worker.sheet.glances
row_by false worker = first_taken worker.sheet.taken

abbrev pub last_row : WorkerState → List ℕ
last_row worker = row_by (ends_by_loads worker.sheet.steps) worker

-- it is that of a hold, behind which came one load at most,
row_of_hold : (hold : HoldSheet) (holds : List HoldSheet) (after : WorkerState) → after.sheet.taken ≡ hold ∷ holds
    → ends_by_loads after.sheet.steps ≡ false → last_row after ≡ hold.row
row_of_hold hold holds after first ends =
    ap (λ (b : Bool). row_by b after) ends ∙ ap first_taken first

-- or that of a glance
row_of_glance : (law : RowPredicate) (key value : List ℕ) (now : ℕ) (before after : WorkerState)
    → (finds : GlanceFinds law key value now before after) → last_row after ≡ finds.glance.row
row_of_glance law key value now before after finds =
    ap (λ (b : Bool). row_by b after) (ap (λ (w : WorkerState). ends_by_loads w.sheet.steps) finds.is
    ∙ last_two before.sheet.steps _ _)
    ∙ ap (λ (w : WorkerState). first_glanced w.sheet.glances) finds.is

-- the row has the key, and the value behind it
abbrev pub LastHas : List ℕ → List ℕ → WorkerState → Type 0
LastHas key value worker = HasWords key 0 (last_row worker) × HasWords value (length key) (last_row worker)

glance_has : (law : RowPredicate) (config : Config) (key value : List ℕ) (now from to : ℕ) (before after : WorkerState)
    → GlancesKey law config key value now from to before after → LastHas key value after
glance_has law config key value now from to before after found =
    let ends : GlanceFinds law key value now found.search.last after = found.search.ends in
    subst (λ (row : List ℕ). HasWords key 0 row × HasWords value (length key) row)
    (sym (row_of_glance law key value now found.search.last after ends)) (ends.has_key, ends.has_value)

-- What a get found stands in the row that its worker noted last.
pub finds_last : (law : RowPredicate) (config : Config) (key value : List ℕ) (now from to : ℕ)
    (before after : WorkerState) → Finds law config key value now from to before after → LastHas key value after
finds_last law config key value now from to before after (inr found) =
    glance_has law config key value now from to before after found
finds_last law config key value now from to before after (inl held) =
    let hits = held.hits in
    let look = hits.takes.search.ends in
    subst (λ (row : List ℕ). HasWords key 0 row × HasWords value (length key) row)
    (sym (row_of_hold held.hold _ after (hits_first law config key now from to before after held.hold hits)
    (held_last config look.chunk look.gets.between hits.between after held.hold hits.found 8 4 look.gets.gets
    hits.touches.few))) (look.has_key, held.has_value)

-- so does what a peek found
pub peeks_last : (law : RowPredicate) (config : Config) (key value : List ℕ) (now from to : ℕ)
    (before after : WorkerState) → Peeks law config key value now from to before after → LastHas key value after
peeks_last law config key value now from to before after (inr found) =
    glance_has law config key value now from to before after found
peeks_last law config key value now from to before after (inl held) =
    let look = held.sees.takes.search.ends in
    subst (λ (row : List ℕ). HasWords key 0 row × HasWords value (length key) row)
    (sym (row_of_hold held.sees.hold _ after (look_first config look.chunk held.sees.takes.search.last after held.sees.hold
    held.sees.found look.gets)
    (took_end config look.chunk look.gets.between after held.sees.hold held.sees.found look.gets.gets)))
    (look.has_key, held.has_value)

-- A worker's get finds one value, whatever is said of it: what two say that it found, of which one may speak of another
-- law, another configuration, another time and another beginning, is word by word the same.
pub found_once : (law rule : RowPredicate) (config other : Config) (key value told : List ℕ) (now then from to past next : ℕ)
    (before start after : WorkerState) → Finds law config key value now from to before after
    → Finds rule other key told then past next start after → (i : ℕ) → i < length value → i < length told
    → slice_index value i ≡ slice_index told i
found_once law rule config other key value told now then from to past next before start after finds tells i low near =
    sym ((finds_last law config key value now from to before after finds).1 i low)
    ∙ (finds_last rule other key told then past next start after tells).1 i near

-- the same of a peek
pub peeked_once : (law rule : RowPredicate) (config other : Config) (key value told : List ℕ) (now then from to past next : ℕ)
    (before start after : WorkerState) → Peeks law config key value now from to before after
    → Peeks rule other key told then past next start after → (i : ℕ) → i < length value → i < length told
    → slice_index value i ≡ slice_index told i
peeked_once law rule config other key value told now then from to past next before start after peeks tells i low near =
    sym ((peeks_last law config key value now from to before after peeks).1 i low)
    ∙ (peeks_last rule other key told then past next start after tells).1 i near
