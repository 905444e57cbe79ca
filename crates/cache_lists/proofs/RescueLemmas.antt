-- Looks at COLD one after the other, and whose turn it is behind them.
use Rattle.std.proofs.Common.{◌≡◌, ◌≢◌, ℕ, zero, suc, ◌+◌, ◌<◌, ◌⊎◌, Bool, true, false, is_some, List, ◌∷◌, Option, Some, None, if◌then◌else◌, refl, sym, ap, ap₂, ◌∙◌, subst, arith, inl, inr}
use Rattle.bump_links.specs.Lists.{last_of, without}
use Rattle.bump_rules.specs.declared.bumps.Ended.TheVariants as ended
use Rattle.bump_rules.specs.declared.commands.Pulled.{Pulled}
use Rattle.bump_rules.specs.declared.commands.Pulled.TheVariants as pulled
use Rattle.bump_rules.specs.declared.items.ItemId.{ItemId}
use Rattle.bump_rules.specs.declared.places.Place.TheVariants.{Warm}
use Rattle.bump_rules.specs.declared.places.Segment.TheVariants as segment
use Rattle.bump_rules.specs.declared.places.Tail.TheVariants as tail
use Rattle.bump_rules.specs.Lists.{Lists, list_at, to_front}
use Rattle.bump_rules.specs.Places.{place_of}
use Rattle.bump_rules.specs.Tables.{pulled_to}
use Rattle.bump_rules.proofs.SixLists.{list_at_front}
use Rattle.bump_steps.specs.Applications.{life_in}
use Rattle.bump_class.specs.Books.{BookView}
use Rattle.bump_class.specs.Pulls.{PullsAt}
use Rattle.cache_lists.specs.declared.flow.Flow.{Flow}
use Rattle.cache_lists.specs.declared.victims.Victim.{Victim}
use Rattle.cache_lists.specs.Counts.{CountedView, noted}
use Rattle.cache_lists.specs.Flows.{Way, way_of_pull}
use Rattle.cache_lists.specs.Items.{victim, or_else, may_tell}
use Rattle.cache_lists.specs.Rescues.{most_rescues, FindsExpired, LooksAtCold, MayEnd, PullsUnexpired, Rescues, RescuesUpTo, SeesExpiry, StaysInCold, noted_times, rescue_way}
use Rattle.cache_lists.proofs.Counting.{counts}
use Rattle.cache_lists.proofs.PullLemmas.{pulled_after}

-- ---- the victim

-- what COLD has last is the victim
cold_victim : (lists : Lists) (chunk : ℕ) → last_of lists.cold ≡ Some chunk → victim lists ≡ Some chunk
cold_victim lists chunk is =
    ap (λ at. or_else at (or_else (last_of lists.warm) (or_else (last_of lists.hot) (last_of lists.temp)))) is

-- where there is none COLD is empty
no_cold : (lists : Lists) → victim lists ≡ None → last_of lists.cold ≡ None
no_cold lists none = by (last_of lists.cold) refl
  where
    by : (at : Option ℕ) → last_of lists.cold ≡ at → last_of lists.cold ≡ None
    by None is = is
    by (Some chunk) is = absurd (cc (sym none ∙ cold_victim lists chunk is))

-- where WARM has something there is one
warm_victim : (lists : Lists) → last_of lists.warm ≢ None → victim lists ≢ None
warm_victim lists some none = some (by (last_of lists.cold) (last_of lists.warm) none)
  where
    by : (cold warm : Option ℕ) → or_else cold (or_else warm (or_else (last_of lists.hot) (last_of lists.temp))) ≡ None → warm ≡ None
    by None None e = refl
    by None (Some chunk) e = absurd (cc e)
    by (Some chunk) warm e = absurd (cc e)

-- a list that begins with a chunk has a last one
has_last : (chunk : ℕ) (chunks : List ℕ) → last_of (chunk ∷ chunks) ≢ None
has_last chunk chunks none = absurd (cc none)

-- so has WARM, where a chunk went to its front
front_last : (chunk : ℕ) (lists : Lists) → last_of (list_at (to_front chunk Warm lists) Warm) ≢ None
front_last chunk lists none =
    has_last chunk (without chunk lists.warm) (sym (ap last_of (list_at_front chunk Warm Warm lists)) ∙ none)

-- ---- one look at COLD

-- a pull doesn't tell that it found nothing where it found something
never_empty : (active : Bool) (id : ItemId) → pulled.Empty ≢ (if active then pulled.Warm id else pulled.Stay id)
never_empty true id e = absurd (cc e)
never_empty false id e = absurd (cc e)

-- what stays is what it found
stay_told : (active : Bool) (item id : ItemId) → pulled.Stay item ≡ (if active then pulled.Warm id else pulled.Stay id)
    → item ≡ id
stay_told true item id e = absurd (cc e)
stay_told false item id e = cc e

-- behind a rescue there is a victim
warm_leaves : (before after : BookView) (item : ItemId) (at : Option ℕ) → PullsAt before tail.Cold at (pulled.Warm item) after
    → victim after.lists ≢ None
warm_leaves before after item None pulls = absurd (cc pulls.0)
warm_leaves before after item (Some chunk) pulls = subst (λ (b : BookView). victim b.lists ≢ None)
    (sym (pulled_after _ before after tail.Cold chunk (pulled.Warm item) pulls.0 pulls.1 pulls.2))
    (warm_victim (to_front chunk Warm before.lists) (front_last chunk before.lists))

-- what stays is the victim
stay_leaves : (before after : BookView) (item : ItemId) (at : Option ℕ) → at ≡ last_of before.lists.cold
    → PullsAt before tail.Cold at (pulled.Stay item) after → victim after.lists ≡ Some item.chunk
stay_leaves before after item None is pulls = absurd (cc pulls.0)
stay_leaves before after item (Some chunk) is pulls =
    subst (λ (b : BookView). victim b.lists ≡ Some item.chunk)
    (sym (pulled_after _ before after tail.Cold chunk (pulled.Stay item) pulls.0 pulls.1 pulls.2))
    (cold_victim before.lists item.chunk (sym is ∙ ap (λ (l : ItemId). Some l.chunk)
    (sym (stay_told pulls.0.active item (life_in before.sheet chunk) (pulls.2.pulled ended.Freed)))))

-- where something is there a pull finds something
found_some : (before after : BookView) (chunk : ℕ) (at : Option ℕ) → at ≡ Some chunk
    → PullsAt before tail.Cold at pulled.Empty after → ⊥
found_some before after chunk None is pulls = absurd (cc is)
found_some before after chunk (Some other) is pulls =
    absurd (never_empty pulls.0.active (life_in before.sheet other) (pulls.2.pulled ended.Freed))

-- where a look at a label found COLD's last item there was a victim
seen_some : (chunk expires : ℕ) (before seen : BookView) → SeesExpiry chunk expires before seen
    → victim before.lists ≢ None
seen_some chunk expires before seen sees none = absurd (cc (sym (no_cold before.lists none) ∙ sees.last))

-- and it is the victim behind the look
seen_victim : (chunk expires : ℕ) (before seen : BookView) → SeesExpiry chunk expires before seen
    → victim seen.lists ≡ Some chunk
seen_victim chunk expires before seen sees =
    subst (λ (b : BookView). victim b.lists ≡ Some chunk) (sym sees.seen) (cold_victim before.lists chunk sees.last)

-- a pull rescued its item or nobody, by where it moved the item
pub looked_at_cold : (now : ℕ) (before after : BookView) (answer : Pulled) → may_tell tail.Cold answer ≡ true
    → PullsUnexpired now answer before after → LooksAtCold now (is_some (pulled_to answer)) before after
looked_at_cold now before after pulled.Empty may looks =
    absurd (found_some looks.between after looks.chunk (last_of looks.between.lists.cold)
    (ap (λ (b : BookView). last_of b.lists.cold) looks.sees.seen ∙ looks.sees.last) looks.pulls)
looked_at_cold now before after (pulled.Stay item) may looks = inr (inl (item, looks))
looked_at_cold now before after (pulled.Warm item) may looks = (item, looks)
looked_at_cold now before after (pulled.Again item) may looks = absurd (cc may)
looked_at_cold now before after (pulled.Cold item) may looks = absurd (cc may)
looked_at_cold now before after (pulled.Freed item) may looks = absurd (cc may)
looked_at_cold now before after (pulled.Deferred item) may looks = absurd (cc may)

-- and is the way from COLD to WARM, or none
pub cold_way : (answer : Pulled) → may_tell tail.Cold answer ≡ true
    → way_of_pull tail.Cold answer ≡ rescue_way (is_some (pulled_to answer))
cold_way pulled.Empty may = refl
cold_way (pulled.Stay item) may = refl
cold_way (pulled.Warm item) may = refl
cold_way (pulled.Again item) may = absurd (cc may)
cold_way (pulled.Cold item) may = absurd (cc may)
cold_way (pulled.Freed item) may = absurd (cc may)
cold_way (pulled.Deferred item) may = absurd (cc may)

-- ---- several

-- one more is rescued
pub rescues_more : (now count : ℕ) (before between after : BookView) → Rescues now count before between
    → LooksAtCold now true between after → Rescues now (count + 1) before after
rescues_more now count before between after rescues (item, looks) =
    let one_more : suc count ≡ count + 1 = omega arith in
    subst (λ n. Rescues now n before after) one_more (between, item, rescues, looks)

-- and counted
pub noted_more : (count : ℕ) (way : Option Way) (first flow after : Flow) → flow ≡ noted_times count way first
    → after ≡ noted way flow → after ≡ noted_times (count + 1) way first
noted_more count way first flow after is next =
    let one_more : suc count ≡ count + 1 = omega arith in
    next ∙ (ap (noted way) is ∙ ap (λ n. noted_times n way first) one_more)

-- where there is no victim nobody is rescued
none_rescued : (now count : ℕ) (before after : BookView) → victim before.lists ≡ None → Rescues now count before after
    → after ≡ before
none_rescued now zero before after none rescues = rescues
none_rescued now (suc count) before after none (between, item, rescues, looks) =
    absurd (seen_some looks.chunk looks.expires between looks.between looks.sees
    (ap (λ (b : BookView). victim b.lists) (none_rescued now count before between none rescues) ∙ none))

-- behind rescues there is one
some_rescued : (now count : ℕ) (before after : BookView) → Rescues now (suc count) before after
    → victim after.lists ≢ None
some_rescued now count before after (between, item, rescues, looks) =
    warm_leaves looks.between after item (last_of looks.between.lists.cold) looks.pulls

-- a look that rescued nobody and leaves no victim changed nothing
stays_none : (now : ℕ) (before after : BookView) → StaysInCold now before after → victim after.lists ≡ None
    → after ≡ before
stays_none now before after (inl (chunk, finds)) none =
    absurd (cc (sym none ∙ seen_victim chunk finds.expires before after finds.sees))
stays_none now before after (inr (inl (item, looks))) none =
    absurd (cc (sym none ∙ stay_leaves looks.between after item (last_of looks.between.lists.cold) refl looks.pulls))
stays_none now before after (inr (inr (empty, same))) none = same

-- and where there was none it leaves none
still_none : (now : ℕ) (before after : BookView) → StaysInCold now before after → victim before.lists ≡ None
    → victim after.lists ≡ None
still_none now before after (inl (chunk, finds)) none =
    absurd (seen_some chunk finds.expires before after finds.sees none)
still_none now before after (inr (inl (item, looks))) none =
    absurd (seen_some looks.chunk looks.expires before looks.between looks.sees none)
still_none now before after (inr (inr (empty, same))) none = ap (λ (b : BookView). victim b.lists) same ∙ none

-- where nobody was rescued and no victim is left nothing was changed
nobody : (now most : ℕ) (before between left : BookView) → 0 < most → between ≡ before
    → ((0 ≡ most) × (left ≡ between)) ⊎ StaysInCold now between left → victim left.lists ≡ None → left ≡ before
nobody now most before between left some same (inl (all, still)) none =
    absurd (let no : ⊥ = omega (arith, some, all) in no)
nobody now most before between left some same (inr stays) none = stays_none now between left stays none ∙ same

-- where no victim is left there was none behind the rescues
left_none : (now most count : ℕ) (between left : BookView)
    → ((count ≡ most) × (left ≡ between)) ⊎ StaysInCold now between left → victim left.lists ≡ None
    → victim between.lists ≡ None
left_none now most count between left (inl (all, still)) none =
    ap (λ (b : BookView). victim b.lists) (sym still) ∙ none
left_none now most count between left (inr stays) none =
    ap (λ (b : BookView). victim b.lists) (sym (stays_none now between left stays none)) ∙ none

-- rescues that leave no victim are none, and changed nothing
pub nothing_rescued : (now most count : ℕ) (before left : BookView) → 0 < most → RescuesUpTo now most count before left
    → victim left.lists ≡ None → (count ≡ 0) × (left ≡ before)
nothing_rescued now most zero before left some up none =
    (refl, nobody now most before up.between left some up.rescues up.ends none)
nothing_rescued now most (suc count) before left some up none =
    absurd (some_rescued now count before up.between up.rescues
    (left_none now most (suc count) up.between left up.ends none))

-- where there was no victim there is none behind them
pub nothing_there : (now most count : ℕ) (before left : BookView) → RescuesUpTo now most count before left
    → victim before.lists ≡ None → victim left.lists ≡ None
nothing_there now most count before left up none = by up.ends
  where
    between_none : victim up.between.lists ≡ None
    between_none = ap (λ (b : BookView). victim b.lists) (none_rescued now count before up.between none up.rescues)
        ∙ none

    by : ((count ≡ most) × (left ≡ up.between)) ⊎ StaysInCold now up.between left → victim left.lists ≡ None
    by (inl (all, still)) = ap (λ (b : BookView). victim b.lists) still ∙ between_none
    by (inr stays) = still_none now up.between left stays between_none

-- the last item of a list isn't of COLD where that is empty
not_of_cold : (it : Victim) (left : BookView) → last_of left.lists.cold ≡ None
    → last_of (list_at left.lists (place_of it.last_of)) ≡ Some it.chunk → it.last_of ≢ segment.Cold
not_of_cold it left none list cold =
    let some : last_of left.lists.cold ≡ Some it.chunk =
    sym (ap (λ s. last_of (list_at left.lists (place_of s))) cold) ∙ list in
    absurd (cc (sym none ∙ some))

-- the victim behind them may end
pub may_end : (now count : ℕ) (it : Victim) (before left : BookView) (up : RescuesUpTo now most_rescues count before left)
    → victim left.lists ≡ Some it.chunk → last_of (list_at left.lists (place_of it.last_of)) ≡ Some it.chunk
    → MayEnd now count it up.between left
may_end now count it before left up next list = by up.ends
  where
    by : ((count ≡ most_rescues) × (left ≡ up.between)) ⊎ StaysInCold now up.between left
        → MayEnd now count it up.between left
    by (inl all) = inl all
    by (inr (inl (chunk, finds))) =
        let one : Some chunk ≡ Some it.chunk =
        sym (seen_victim chunk finds.expires up.between left finds.sees) ∙ next in
        let same : chunk ≡ it.chunk = cc one in
        inr (inl (subst (λ c. FindsExpired now c up.between left) same finds))
    by (inr (inr (inl (item, looks)))) =
        let one : Some item.chunk ≡ Some it.chunk =
        sym (stay_leaves looks.between left item (last_of looks.between.lists.cold) refl looks.pulls) ∙ next in
        let same : item.chunk ≡ it.chunk = cc one in
        inr (inr (inl (item, same, looks)))
    by (inr (inr (inr (none, same)))) =
        let empty : last_of left.lists.cold ≡ None = ap (λ (b : BookView). last_of b.lists.cold) same ∙ none in
        inr (inr (inr (not_of_cold it left empty list, none, same)))

-- ---- a Book that counts

-- it is the same where its Book and its counts are
pub same_counted : (one other : CountedView) → one.book ≡ other.book → one.flow ≡ other.flow
    → one.evictions ≡ other.evictions → one ≡ other
same_counted one other book flow evictions =
    ap₂ (λ b f. counts b f one.evictions) book flow ∙ ap (counts other.book other.flow) evictions
