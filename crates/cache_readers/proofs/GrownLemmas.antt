-- Whatever a reader's looks come to, the holds that its worker took before, and its glances, stay in its lists, behind
-- those that came since. So the hold or the glance of each get that found something stays there, whatever gets follow.
use Rattle.std.proofs.Common.{◌≡◌, ◌<◌, ◌⊎◌, ℕ, zero, suc, Bool, true, false, nat_lt, List, [], ◌∷◌, ◌++◌, length, Option, Some, None, Result, refl, sym, ap, ◌∙◌, subst, inl, inr, arith}
use Rattle.std.proofs.lemmas.Bool.{ltb-true, ltb-false}
use Rattle.std.proofs.lemmas.List.{append_assoc}
use Rattle.bump_rules.specs.declared.configs.Config.{Config}
use Rattle.bump_rules.specs.declared.items.Head.{Head}
use Rattle.bump_rules.specs.declared.items.ItemId.{ItemId}
use Rattle.bump_steps.specs.declared.refusals.TakeRefusal.{TakeRefusal}
use Rattle.bump_steps.specs.declared.views.GlanceSheet.{GlanceSheet}
use Rattle.bump_steps.specs.declared.views.HoldSheet.{HoldSheet}
use Rattle.bump_steps.specs.References.{new_hold}
use Rattle.bump_steps.specs.Rule.{RowPredicate, chunks as all_chunks}
use Rattle.bump_steps.specs.Tries.{of_any, asked_life, asked_refusal, held_by}
use Rattle.bump_unlocked.specs.declared.refusals.GetAnyRefusal.{GetAnyRefusal}
use Rattle.bump_unlocked.specs.Gets.{GotAny}
use Rattle.bump_unlocked.specs.Workers.{WorkerState}
use Rattle.cache_readers.specs.declared.vain.Vain.{Vain}
use Rattle.cache_readers.specs.declared.vain.Vain.TheVariants as vain
use Rattle.cache_readers.specs.Glances.{GlanceFinds, glanced}
use Rattle.cache_readers.specs.Looks.{AreOther, EndsSearch, Finds, FindsNothing, FoundBy, HasWords, LooksAt, SearchEnds, SearchesAnew, TouchesUnmarked, WorkerGetsAny, most_searches}
use Rattle.cache_readers.proofs.TakenLemmas.{hits_first}

-- the list has what it had, behind others
abbrev pub HasBehind : {A : Type 0} → List A → List A → Type 0
HasBehind {A} before after = (newer : List A) × (after ≡ newer ++ before)

behind_then : {A : Type 0} (before between after : List A) → HasBehind before between → HasBehind between after
    → HasBehind before after
behind_then before between after one other = (
  other.0 ++ one.0,
  other.1 ∙ ap (λ t. other.0 ++ t) one.1 ∙ sym (append_assoc other.0 one.0 before),
)

-- the worker took holds and glanced, or did not, and has all holds and glances that it had before
pub record TookMore (before after : WorkerState) : Type 0 where
  pub taken : HasBehind before.sheet.taken after.sheet.taken
  pub glances : HasBehind before.sheet.glances after.sheet.glances

-- nothing was done
pub took_none : (before after : WorkerState) → after ≡ before → TookMore before after
took_none before after same = record {
  taken = ([], ap (λ (w : WorkerState). w.sheet.taken) same);
  glances = ([], ap (λ (w : WorkerState). w.sheet.glances) same);
}

-- more was, and then more
pub took_then : (before between after : WorkerState) → TookMore before between → TookMore between after
    → TookMore before after
took_then before between after one other = record {
  taken = behind_then before.sheet.taken between.sheet.taken after.sheet.taken one.taken other.taken;
  glances = behind_then before.sheet.glances between.sheet.glances after.sheet.glances one.glances other.glances;
}

-- a hold that a call answers is a new one, and a refusal is none
held_more : (o : Option TakeRefusal) (item : ItemId) (row : List ℕ) (taken : List HoldSheet)
    → HasBehind taken (held_by o item row taken)
held_more None item row taken = (new_hold item row ∷ [], refl)
held_more (Some why) item row taken = ([], refl)

-- a get of whatever item is linked
gets_more : (config : Config) (chunk : ℕ) (before after : WorkerState)
    (took : Result (HoldSheet × Head) GetAnyRefusal) → WorkerGetsAny config chunk before after took
    → TookMore before after
gets_more config chunk before after took gets = by (nat_lt chunk (all_chunks config)) refl
  where
    of_got : (first : Head) (more : List Head) → GotAny config.refs_limit chunk before after took first more
        → TookMore before after
    of_got first more got = record {
      taken = subst (HasBehind before.sheet.taken) (sym (ap (λ (w : WorkerState). w.sheet.taken) got.steps))
          (held_more (asked_refusal config.refs_limit of_any first more) (asked_life of_any chunk first more) got.row
          before.sheet.taken);
      glances = ([], ap (λ (w : WorkerState). w.sheet.glances) got.steps);
    }

    by : (near : Bool) → nat_lt chunk (all_chunks config) ≡ near → TookMore before after
    by true is = let t = gets.got (ltb-true chunk (all_chunks config) is) in of_got t.0 t.1 t.2
    by false is = let far = ltb-false chunk (all_chunks config) is in
        took_none before after (gets.missing (omega (arith, far))).1

-- glances and loads
glanced_more : (chunk : ℕ) (heads : List Head) (glances : List GlanceSheet) (before after : WorkerState)
    → after ≡ glanced chunk heads glances before → TookMore before after
glanced_more chunk heads glances before after is = record {
  taken = ([], ap (λ (w : WorkerState). w.sheet.taken) is);
  glances = (glances, ap (λ (w : WorkerState). w.sheet.glances) is);
}

-- a look
pub look_more : (config : Config) (chunk : ℕ) (before after : WorkerState)
    (took : Result (HoldSheet × Head) GetAnyRefusal) → LooksAt config chunk before after took → TookMore before after
look_more config chunk before after took look = took_then before look.between after
    (glanced_more chunk look.glances.heads look.glances.glances before look.between look.glances.is)
    (gets_more config chunk look.between after took look.gets)

-- looks of one search
pub others_more : (config : Config) (key : List ℕ) (now count : ℕ) (before after : WorkerState)
    → AreOther config key now count before after → TookMore before after
others_more config key now zero before after same = took_none before after same
others_more config key now (suc count) before after (between, others, look) =
    took_then before between after (others_more config key now count before between others)
    (look_more config look.chunk between after look.took look.gets)

-- the last of a search that ended
last_more : (why : Vain) (config : Config) (key : List ℕ) (now : ℕ) (before after : WorkerState)
    → EndsSearch why config key now before after → TookMore before after
last_more vain.Other config key now before after same = took_none before after same
last_more vain.Over config key now before after look = look_more config look.chunk before after look.took look.gets
last_more vain.Ended config key now before after look = look_more config look.chunk before after look.took look.gets

-- a search that ended
pub search_more : (why : Vain) (config : Config) (key : List ℕ) (now : ℕ) (before after : WorkerState)
    → SearchEnds why config key now before after → TookMore before after
search_more why config key now before after ends = took_then before ends.between after
    (others_more config key now ends.others.looks before ends.between ends.others.others)
    (last_more why config key now ends.between after ends.last)

-- and searches that began anew
pub anew_more : (config : Config) (key : List ℕ) (now count : ℕ) (before after : WorkerState)
    → SearchesAnew config key now count before after → TookMore before after
anew_more config key now zero before after same = took_none before after same
anew_more config key now (suc count) before after (between, anew, ends) =
    took_then before between after (anew_more config key now count before between anew)
    (search_more vain.Ended config key now between after ends)

-- a get that found nothing
pub nothing_more : (config : Config) (key : List ℕ) (now from to : ℕ) (before after : WorkerState)
    → FindsNothing config key now from to before after → TookMore before after
nothing_more config key now from to before after nothing =
    took_then before nothing.start after (anew_more config key now nothing.turns before nothing.start nothing.anew)
    (by nothing.ends)
  where
    by : ((nothing.turns ≡ most_searches) × (after ≡ nothing.start)) ⊎ ((nothing.turns < most_searches)
        × (SearchEnds vain.Other config key now nothing.start after
        ⊎ SearchEnds vain.Over config key now nothing.start after)) → TookMore nothing.start after
    by (inl (all, same)) = took_none nothing.start after same
    by (inr (few, inl ends)) = search_more vain.Other config key now nothing.start after ends
    by (inr (few, inr ends)) = search_more vain.Over config key now nothing.start after ends

-- so do looks that ended somehow, where that does
found_more : (Ends : WorkerState → WorkerState → Type 0) (config : Config) (key : List ℕ) (now from to : ℕ)
    (before after : WorkerState) → (found : FoundBy Ends config key now from to before after)
    → TookMore before found.search.last
found_more Ends config key now from to before after found =
    took_then before found.start found.search.last
    (anew_more config key now found.turns before found.start found.anew)
    (others_more config key now found.search.others.looks found.start found.search.last found.search.others.others)

-- one of these came between two states of a list, and its row has the key, and behind it the value
pub record NotedBetween {A : Type 0} (row_of : A → List ℕ) (key value : List ℕ) (before after : List A) : Type 0 where
  pub it : A
  pub newer : List A
  pub older : List A
  pub noted : after ≡ newer ++ (it ∷ (older ++ before))
  pub has_key : HasWords key 0 (row_of it)
  pub has_value : HasWords value (length key) (row_of it)

noted_still : {A : Type 0} (row_of : A → List ℕ) (key value : List ℕ) (before between after : List A)
    → NotedBetween row_of key value before between → HasBehind between after → NotedBetween row_of key value before after
noted_still row_of key value before between after one more = record {
  it = one.it;
  newer = more.0 ++ one.newer;
  older = one.older;
  noted = more.1 ∙ ap (λ t. more.0 ++ t) one.noted ∙ sym (append_assoc more.0 one.newer (one.it ∷ (one.older ++ before)));
  has_key = one.has_key;
  has_value = one.has_value;
}

noted_since : {A : Type 0} (row_of : A → List ℕ) (key value : List ℕ) (before between after : List A)
    → HasBehind before between → NotedBetween row_of key value between after → NotedBetween row_of key value before after
noted_since row_of key value before between after more one = record {
  it = one.it;
  newer = one.newer;
  older = one.older ++ more.0;
  noted = one.noted ∙ ap (λ t. one.newer ++ (one.it ∷ t))
      (ap (λ t. one.older ++ t) more.1 ∙ sym (append_assoc one.older more.0 before));
  has_key = one.has_key;
  has_value = one.has_value;
}

-- the rows of holds, and of glances
abbrev pub held_row : HoldSheet → List ℕ
held_row hold = hold.row

abbrev pub glanced_row : GlanceSheet → List ℕ
glanced_row glance = glance.row

-- one of the holds that the worker took between two states, or of its glances, has the key, and behind it the value
abbrev pub TookBetween : List ℕ → List ℕ → WorkerState → WorkerState → Type 0
TookBetween key value before after = NotedBetween held_row key value before.sheet.taken after.sheet.taken
    ⊎ NotedBetween glanced_row key value before.sheet.glances after.sheet.glances

-- A get that found a value took a hold that has it behind the key, or glanced at it: that is the first in the worker's
-- list.
pub finds_took : (law : RowPredicate) (config : Config) (key value : List ℕ) (now from to : ℕ)
    (before after : WorkerState) → Finds law config key value now from to before after → TookBetween key value before after
finds_took law config key value now from to before after (inl finds) =
    let takes = finds.hits.takes in
    let older : TookMore before takes.search.last = found_more _ config key now from to before _ takes in
    inl (record {
      it = finds.hold;
      newer = [];
      older = older.taken.0;
      noted = hits_first law config key now from to before after finds.hold finds.hits
          ∙ ap (λ (t : List HoldSheet). finds.hold ∷ t) older.taken.1;
      has_key = takes.search.ends.has_key;
      has_value = finds.has_value;
    })
finds_took law config key value now from to before after (inr found) =
    let older : TookMore before found.search.last = found_more _ config key now from to before _ found in
    let ends : GlanceFinds law key value now found.search.last after = found.search.ends in
    inr (record {
      it = ends.glance;
      newer = [];
      older = older.glances.0;
      noted = ap (λ (w : WorkerState). w.sheet.glances) ends.is
          ∙ ap (λ (t : List GlanceSheet). ends.glance ∷ t) older.glances.1;
      has_key = ends.has_key;
      has_value = ends.has_value;
    })

-- It is still there when more came,
pub took_still : (key value : List ℕ) (before between after : WorkerState) → TookBetween key value before between
    → TookMore between after → TookBetween key value before after
took_still key value before between after (inl took) more = inl (noted_still held_row key value before.sheet.taken
    between.sheet.taken after.sheet.taken took more.taken)
took_still key value before between after (inr glanced) more = inr (noted_still glanced_row key value
    before.sheet.glances between.sheet.glances after.sheet.glances glanced more.glances)

-- and also where others came before
pub took_since : (key value : List ℕ) (before between after : WorkerState) → TookMore before between
    → TookBetween key value between after → TookBetween key value before after
took_since key value before between after more (inl took) = inl (noted_since held_row key value before.sheet.taken
    between.sheet.taken after.sheet.taken more.taken took)
took_since key value before between after more (inr glanced) = inr (noted_since glanced_row key value
    before.sheet.glances between.sheet.glances after.sheet.glances more.glances glanced)

-- a touch takes no hold, and doesn't glance
touch_more : (config : Config) (hold : HoldSheet) (found : Head) (now : ℕ) (before after : WorkerState)
    → TouchesUnmarked config hold found now before after → TookMore before after
touch_more config hold found now before after touches =
    record { taken = ([], touches.taken); glances = ([], touches.glances) }

-- a get that found a value took more, or glanced, too
pub finds_more : (law : RowPredicate) (config : Config) (key value : List ℕ) (now from to : ℕ)
    (before after : WorkerState) → Finds law config key value now from to before after → TookMore before after
finds_more law config key value now from to before after (inl finds) =
    let hits = finds.hits in
    let look = hits.takes.search.ends in
    took_then before hits.between after
    (took_then before hits.takes.search.last hits.between (found_more _ config key now from to before _ hits.takes)
    (look_more config look.chunk hits.takes.search.last hits.between _ look.gets))
    (touch_more config finds.hold hits.found now hits.between after hits.touches)
finds_more law config key value now from to before after (inr found) =
    let ends : GlanceFinds law key value now found.search.last after = found.search.ends in
    took_then before found.search.last after (found_more _ config key now from to before after found)
    (glanced_more ends.glance.life.chunk (ends.first ∷ ends.last ∷ []) (ends.glance ∷ []) found.search.last after ends.is)
