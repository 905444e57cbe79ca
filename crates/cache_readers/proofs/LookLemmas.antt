-- Looks at chunks: what they come to.
use Rattle.std.proofs.Common.{◌≡◌, ℕ, zero, suc, ◌+◌, ◌<◌, false, List, Option, Some, None, IfOk, Result, Ok, Err, refl, sym, ap, ◌∙◌, subst, inl, inr, arith}
use Rattle.std.specs.Result.{IfErr}
use Rattle.bump_rules.specs.declared.configs.Config.{Config}
use Rattle.bump_rules.specs.declared.items.Head.{Head}
use Rattle.bump_steps.specs.declared.views.HoldSheet.{HoldSheet}
use Rattle.bump_unlocked.specs.declared.refusals.GetAnyRefusal.{GetAnyRefusal}
use Rattle.bump_unlocked.specs.StepCounts.{MakesAtMost}
use Rattle.bump_unlocked.specs.Workers.{WorkerState}
use Rattle.cache_readers.specs.declared.vain.Vain.{Vain}
use Rattle.cache_readers.specs.declared.vain.Vain.TheVariants as vain
use Rattle.cache_readers.specs.Glances.{BehindGlance, GlanceFinds, GlancesInVain}
use Rattle.cache_readers.specs.Looks.{AreOther, FindsNothing, FindsOthers, FoundBy, GlancesKey, HasWords, IsInVain, LookFinds, LookTakes, LooksAt, LooksInVain, SearchBy, SearchEnds, SearchesAnew, TakesKey, WorkerGetsAny, many_more, most_searches, one_more}
use Rattle.bump_steps.specs.References.{label_of_row, words_in}
use Rattle.bump_steps.specs.Rule.{RowPredicate}
use Rattle.bump_rules.specs.Expiry.{has_expired}

-- a glance that told nothing, and a get
pub looked : (config : Config) (chunk : ℕ) (before between after : WorkerState)
    (took : Result (HoldSheet × Head) GetAnyRefusal) → GlancesInVain chunk before between
    → WorkerGetsAny config chunk between after took
    → MakesAtMost 1 8 0 between.sheet.steps after.sheet.steps → LooksAt config chunk before after took
looked config chunk before between after took glances gets few =
    record { between = between; glances = glances; gets = gets; few = few }

-- a get that isn't what is looked for
pub vain_of : (why : Vain) (config : Config) (key : List ℕ) (now chunk : ℕ) (before after : WorkerState)
    (took : Result (HoldSheet × Head) GetAnyRefusal) → LooksAt config chunk before after took
    → IsInVain why key now took → LooksInVain why config key now before after
vain_of why config key now chunk before after took gets is = record {
  chunk = chunk;
  took = took;
  gets = gets;
  is = is;
}

-- one look more held an item with another key
pub one_more_other : (config : Config) (key : List ℕ) (now : ℕ) (before between after : WorkerState)
    → FindsOthers config key now before between → LooksInVain vain.Other config key now between after
    → FindsOthers config key now before after
one_more_other config key now before between after first look =
    record { looks = suc first.looks; others = (between, first.others, look) }

-- a search that led to no further life
pub search_over : (config : Config) (key : List ℕ) (now : ℕ) (before after : WorkerState)
    → FindsOthers config key now before after → SearchEnds vain.Other config key now before after
search_over config key now before after others = record { between = after; others = others; last = refl }

-- a look took a hold of an item with the key that hasn't expired, which is unchanged since
pub look_takes : (law : RowPredicate) (config : Config) (key : List ℕ) (now chunk : ℕ) (before after : WorkerState)
    (taken hold : HoldSheet) (found : Head) → hold ≡ taken → LooksAt config chunk before after (Ok (taken, found))
    → HasWords key 0 taken.row → has_expired (label_of_row taken.row) now ≡ false → law (words_in taken.row)
    → LookTakes law config key now hold found before after
look_takes law config key now chunk before after taken hold found same gets has_key stays lawful =
    subst (λ (h : HoldSheet). LookTakes law config key now h found before after) (sym same) (record {
      chunk = chunk;
      gets = gets;
      has_key = has_key;
      stays = stays;
      lawful = lawful;
    })

-- a search ended with a look that came to something, behind others
pub ends_behind : (Ends : WorkerState → WorkerState → Type 0) (config : Config) (key : List ℕ) (now : ℕ)
    (before between after : WorkerState) → FindsOthers config key now before between → Ends between after
    → SearchBy Ends config key now before after
ends_behind Ends config key now before between after others ends =
    record { last = between; others = others; ends = ends }

-- looks that held items with other keys, behind one more
others_behind : (config : Config) (key : List ℕ) (now looks : ℕ) (before between after : WorkerState)
    → LooksInVain vain.Other config key now before between → AreOther config key now looks between after
    → AreOther config key now (suc looks) before after
others_behind config key now zero before between after look same =
    (before, refl, subst (λ (w : WorkerState). LooksInVain vain.Other config key now before w) (sym same) look)
others_behind config key now (suc looks) before between after look more =
    (more.0, others_behind config key now looks before between more.0 look more.1, more.2)

-- the rest of a search, behind a look at an item with another key
more_behind : (config : Config) (key : List ℕ) (now : ℕ) (before between after : WorkerState)
    → LooksInVain vain.Other config key now before between → FindsOthers config key now between after
    → FindsOthers config key now before after
more_behind config key now before between after look rest = record {
  looks = suc rest.looks;
  others = others_behind config key now rest.looks before between after look rest.others;
}

-- it found something
pub found_behind : (law : RowPredicate) (config : Config) (key value : List ℕ) (now chunk : ℕ)
    (start between after : WorkerState) (result : Result (Option (HoldSheet × Head)) Vain)
    → BehindGlance chunk (λ (before : WorkerState). LooksInVain vain.Other config key now before between) start
    → IfOk result (λ sight. SearchBy (LookFinds law config key value now sight) config key now between after)
    → IfOk result (λ sight. BehindGlance chunk (λ (before : WorkerState).
    SearchBy (LookFinds law config key value now sight) config key now before after) start)
found_behind law config key value now chunk start between after (Ok sight) look found = λ before glances. record {
  last = found.last;
  others = more_behind config key now before between found.last (look before glances) found.others;
  ends = found.ends;
}
found_behind law config key value now chunk start between after (Err why) look found = tt

-- or it ended
pub ended_behind : (config : Config) (key : List ℕ) (now chunk : ℕ) (start between after : WorkerState)
    (result : Result (Option (HoldSheet × Head)) Vain)
    → BehindGlance chunk (λ (before : WorkerState). LooksInVain vain.Other config key now before between) start
    → IfErr result (λ why. SearchEnds why config key now between after)
    → IfErr result (λ why. BehindGlance chunk (λ (before : WorkerState). SearchEnds why config key now before after) start)
ended_behind config key now chunk start between after (Ok sight) look ends = tt
ended_behind config key now chunk start between after (Err why) look ends = λ before glances. record {
  between = ends.between;
  others = more_behind config key now before between ends.between (look before glances) ends.others;
  last = ends.last;
}

-- what holds of nothing behind a glance, behind this one
pub nothing_behind : {A E : Type 0} (result : Result A E) (chunk : ℕ) (Holds : WorkerState → Type 0)
    (before start : WorkerState) → GlancesInVain chunk before start
    → IfErr result (λ why. BehindGlance chunk Holds start) → IfErr result (λ why. Holds before)
nothing_behind (Ok it) chunk Holds before start glances holds = tt
nothing_behind (Err why) chunk Holds before start glances holds = holds before glances

-- a first glance found the key's value
pub found_at_once : (law : RowPredicate) (config : Config) (key value : List ℕ) (now from to : ℕ)
    (before after : WorkerState) → to ≡ from → GlanceFinds law key value now before after
    → GlancesKey law config key value now from to before after
found_at_once law config key value now from to before after same found = record {
  turns = 0;
  counted = same;
  few_turns = omega arith;
  start = before;
  anew = refl;
  search = record {
    last = before;
    others = record { looks = 0; others = refl };
    ends = found;
  };
}

-- one search more ended at a life that had ended
pub one_more_search : (config : Config) (key : List ℕ) (now turns : ℕ) (before between after : WorkerState)
    → SearchesAnew config key now turns before between → SearchEnds vain.Ended config key now between after
    → SearchesAnew config key now (turns + 1) before after
one_more_search config key now turns before between after first ends =
    let next : suc turns ≡ turns + 1 = omega arith in
    subst (λ (n : ℕ). SearchesAnew config key now n before after) next (between, first, ends)

-- and is counted
pub counts_one : (turns from before after : ℕ) → before ≡ many_more turns from → after ≡ one_more before
    → after ≡ many_more (turns + 1) from
counts_one turns from before after so_far one =
    let next : suc turns ≡ turns + 1 = omega arith in
    one ∙ ap one_more so_far ∙ ap (λ (n : ℕ). many_more n from) next

-- a search that came to something, behind those that began anew
pub found_in_turn : (Ends : WorkerState → WorkerState → Type 0) (config : Config) (key : List ℕ) (now turns from to : ℕ)
    (before start after : WorkerState) → turns < most_searches → to ≡ many_more turns from
    → SearchesAnew config key now turns before start → SearchBy Ends config key now start after
    → FoundBy Ends config key now from to before after
found_in_turn Ends config key now turns from to before start after low counted anew search = record {
  turns = turns;
  counted = counted;
  few_turns = low;
  start = start;
  anew = anew;
  search = search;
}

-- a search that found nothing, behind those that began anew
pub nothing_other : (config : Config) (key : List ℕ) (now turns from to : ℕ) (before start after : WorkerState)
    → turns < most_searches → to ≡ many_more turns from → SearchesAnew config key now turns before start
    → SearchEnds vain.Other config key now start after → FindsNothing config key now from to before after
nothing_other config key now turns from to before start after low counted anew ends =
    record { turns = turns; counted = counted; start = start; anew = anew; ends = inr (low, inl ends) }

pub nothing_over : (config : Config) (key : List ℕ) (now turns from to : ℕ) (before start after : WorkerState)
    → turns < most_searches → to ≡ many_more turns from → SearchesAnew config key now turns before start
    → SearchEnds vain.Over config key now start after → FindsNothing config key now from to before after
nothing_over config key now turns from to before start after low counted anew ends =
    record { turns = turns; counted = counted; start = start; anew = anew; ends = inr (low, inr ends) }

-- all of them ended at lives that had ended
pub nothing_at_last : (config : Config) (key : List ℕ) (now turns from to : ℕ) (before after : WorkerState)
    → turns ≡ most_searches → to ≡ many_more turns from → SearchesAnew config key now turns before after
    → FindsNothing config key now from to before after
nothing_at_last config key now turns from to before after all counted anew =
    record { turns = turns; counted = counted; start = after; anew = anew; ends = inl (all, refl) }

-- where the index led to nothing
pub nothing_at_once : (config : Config) (key : List ℕ) (now from to : ℕ) (before after : WorkerState) → to ≡ from
    → after ≡ before → FindsNothing config key now from to before after
nothing_at_once config key now from to before after same none =
    nothing_other config key now 0 from to before before after (omega arith) same refl
    (search_over config key now before after (record { looks = 0; others = none }))

-- what was found is held, or was glanced at
pub found_held : (law : RowPredicate) (config : Config) (key value : List ℕ) (now from to : ℕ) (before after : WorkerState)
    (sight : Option (HoldSheet × Head)) (hold : HoldSheet) (found : Head) → sight ≡ Some (hold, found)
    → FoundBy (LookFinds law config key value now sight) config key now from to before after
    → TakesKey law config key now from to before after hold found
found_held law config key value now from to before after sight hold found is finds =
    subst (λ (s : Option (HoldSheet × Head)). FoundBy (LookFinds law config key value now s) config key now from to before after) is
    finds

pub found_glanced : (law : RowPredicate) (config : Config) (key value : List ℕ) (now from to : ℕ) (before after : WorkerState)
    (sight : Option (HoldSheet × Head)) → sight ≡ None
    → FoundBy (LookFinds law config key value now sight) config key now from to before after
    → GlancesKey law config key value now from to before after
found_glanced law config key value now from to before after sight is finds =
    subst (λ (s : Option (HoldSheet × Head)). FoundBy (LookFinds law config key value now s) config key now from to before after) is
    finds
