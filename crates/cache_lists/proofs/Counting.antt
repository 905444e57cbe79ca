-- What the counts of a Shelf keep.
use Rattle.std.proofs.Common.{◌≡◌, ℕ, ◌+◌, Bool, true, false, ◌||◌, length, Option, Some, None, ◌≢◌, IfNone, refl, sym, ap, ap₂, ◌∙◌, arith}
use Rattle.std.proofs.lemmas.Bool.{and_parts}
use Rattle.bump_rules.specs.declared.places.Place.{Place}
use Rattle.bump_rules.specs.declared.places.Place.TheVariants.{Hot, Warm, Cold, Temp, Dying, Unused, Retired}
use Rattle.bump_rules.specs.Lawful.{bit}
use Rattle.bump_rules.specs.declared.places.Start.{Start}
use Rattle.bump_rules.specs.declared.places.Start.TheVariants as start
use Rattle.bump_rules.specs.Places.{first_segment, is_place, is_segment_place}
use Rattle.bump_rules.proofs.Standings.{same_place}
use Rattle.bump_class.specs.Books.{BookView}
use Rattle.cache_lists.specs.declared.flow.Flow.{Flow}
use Rattle.bump_rules.specs.declared.bumps.Applied.{Applied}
use Rattle.bump_rules.specs.declared.bumps.Applied.TheVariants as applied
use Rattle.bump_rules.specs.declared.commands.Pulled.{Pulled}
use Rattle.bump_rules.specs.declared.commands.Pulled.TheVariants as pulled
use Rattle.bump_rules.specs.declared.places.Segment.{Segment}
use Rattle.bump_rules.specs.declared.places.Segment.TheVariants as segment
use Rattle.bump_rules.specs.declared.places.Tail.{Tail}
use Rattle.bump_rules.specs.declared.places.Tail.TheVariants as tail
use Rattle.bump_rules.specs.Places.{place_of}
use Rattle.bump_rules.specs.Tables.{segment_of, pulled_to}
use Rattle.cache_lists.specs.declared.evictions.Evictions.{Evictions}
use Rattle.bump_rules.specs.Commands.{item_told}
use Rattle.cache_lists.specs.Items.{may_tell}
use Rattle.cache_lists.specs.Flows.{Way, is_way, crossings, Flows, FlowsTwice, AddsUp, way_to, way_of_applied}
use Rattle.cache_lists.specs.Counts.{capped, more, noted, is_ours, are_ours, IsFlow, SegmentsAddUp, CountedView}

-- one more of a count that stops is the count of one more
pub more_capped : (b : Bool) (n : ℕ) → more b (capped n) ≡ capped (n + bit b)
more_capped true n = grind (arith)
more_capped false n = ap capped (omega arith)

-- a way that isn't ours isn't the one that was taken
apart : (way : Option Way) (from to : Place) → are_ours way → is_ours from to ≡ false
    → is_way way from to ≡ false
apart None from to ours other = refl
apart (Some (a, b)) from to ours other = by (is_way (Some (a, b)) from to) refl
  where
    by : (t : Bool) → is_way (Some (a, b)) from to ≡ t → t ≡ false
    by true is =
        let both = and_parts (is_place a from) (is_place b to) is in
        absurd (cc (sym other ∙ (ap₂ is_ours (sym (same_place a from both.0)) (sym (same_place b to both.1)) ∙ ours)))
    by false is = refl

-- the counts go on as the items go
pub flow_goes_on : (way : Option Way) (before after : BookView) (flow : Flow)
    → are_ours way → Flows way before after → IsFlow flow before.sheet
    → IsFlow (noted way flow) after.sheet
flow_goes_on way before after flow ours flows is = record {
  linked = goes Unused Hot flow.linked refl is.linked;
  linked_temp = goes Unused Temp flow.linked_temp refl is.linked_temp;
  hot_to_warm = goes Hot Warm flow.hot_to_warm refl is.hot_to_warm;
  hot_to_cold = goes Hot Cold flow.hot_to_cold refl is.hot_to_cold;
  warm_to_warm = goes Warm Warm flow.warm_to_warm refl is.warm_to_warm;
  warm_to_cold = goes Warm Cold flow.warm_to_cold refl is.warm_to_cold;
  cold_to_warm = goes Cold Warm flow.cold_to_warm refl is.cold_to_warm;
  ended_hot = goes Hot Dying flow.ended_hot refl is.ended_hot;
  ended_warm = goes Warm Dying flow.ended_warm refl is.ended_warm;
  ended_cold = goes Cold Dying flow.ended_cold refl is.ended_cold;
  ended_temp = goes Temp Dying flow.ended_temp refl is.ended_temp;
  no_other = λ from to segment other. flows.counts from to segment
      ∙ ap₂ (λ n b. n + bit b) (is.no_other from to segment other) (apart way from to ours other);
}
  where
    goes : (from to : Place) (count : ℕ) → (is_segment_place from || is_segment_place to) ≡ true
        → count ≡ capped (crossings from to before.sheet)
        → more (is_way way from to) count ≡ capped (crossings from to after.sheet)
    goes from to count segment same = ap (more (is_way way from to)) same
        ∙ (more_capped (is_way way from to) (crossings from to before.sheet) ∙ ap capped (sym (flows.counts from to segment)))

-- and so they do where two ways were taken
pub flow_goes_twice : (first second : Option Way) (before after : BookView) (flow : Flow) → are_ours first
    → are_ours second → FlowsTwice first second before after → IsFlow flow before.sheet
    → IsFlow (noted second (noted first flow)) after.sheet
flow_goes_twice first second before after flow ours_first ours_second flows is =
    flow_goes_on second flows.between after (noted first flow) ours_second flows.other
    (flow_goes_on first before flows.between flow ours_first flows.one is)

-- the ways of a pull that isn't an evict
pub told_ours : (from : Tail) (answer : Pulled) → from ≢ tail.Evict → may_tell from answer ≡ true
    → are_ours (way_to (segment_of from) (pulled_to answer))
told_ours from pulled.Empty ne told = tt
told_ours from (pulled.Stay item) ne told = tt
told_ours tail.Hot (pulled.Warm item) ne told = refl
told_ours tail.Warm (pulled.Warm item) ne told = refl
told_ours tail.Cold (pulled.Warm item) ne told = refl
told_ours tail.Evict (pulled.Warm item) ne told = absurd (ne refl)
told_ours tail.Hot (pulled.Again item) ne told = refl
told_ours tail.Warm (pulled.Again item) ne told = refl
told_ours tail.Cold (pulled.Again item) ne told = refl
told_ours tail.Evict (pulled.Again item) ne told = absurd (ne refl)
told_ours tail.Hot (pulled.Cold item) ne told = refl
told_ours tail.Warm (pulled.Cold item) ne told = refl
told_ours tail.Cold (pulled.Cold item) ne told = absurd (cc told)
told_ours tail.Evict (pulled.Cold item) ne told = absurd (ne refl)
told_ours from (pulled.Freed item) ne told = tt
told_ours from (pulled.Deferred item) ne told = tt

-- a Book and its counts
abbrev pub counts : BookView → Flow → Evictions → CountedView
counts book flow evictions = record { book = book; flow = flow; evictions = evictions }

-- where a pull tells no item nothing is changed
pub nothing_told : (answer : Pulled) (from : Segment) (before after : Flow) (book left : BookView) (evictions : Evictions)
    → after ≡ noted (way_to from (pulled_to answer)) before → IfNone (item_told answer) (left ≡ book)
    → IfNone (item_told answer) (counts left after evictions ≡ counts book before evictions)
nothing_told pulled.Empty from before after book left evictions is same =
    ap₂ (λ b f. counts b f evictions) same is
nothing_told (pulled.Stay item) from before after book left evictions is same = tt
nothing_told (pulled.Warm item) from before after book left evictions is same = tt
nothing_told (pulled.Again item) from before after book left evictions is same = tt
nothing_told (pulled.Cold item) from before after book left evictions is same = tt
nothing_told (pulled.Freed item) from before after book left evictions is same = tt
nothing_told (pulled.Deferred item) from before after book left evictions is same = tt

-- an item begins in HOT or in TEMP
pub link_is_ours : (begins : Start) → are_ours (Some (Unused, place_of (first_segment begins)))
link_is_ours start.Hot = refl
link_is_ours start.Temp = refl

-- each list of linked items is one from which items end
pub end_is_ours : (from : Segment) → are_ours (Some (place_of from, Dying))
end_is_ours segment.Hot = refl
end_is_ours segment.Warm = refl
end_is_ours segment.Cold = refl
end_is_ours segment.Temp = refl

-- the ways of an applied bump
pub bump_is_ours : (answer : Option Applied) → are_ours (way_of_applied answer)
bump_is_ours None = tt
bump_is_ours (Some applied.Moved) = refl
bump_is_ours (Some applied.TimeOnly) = tt
bump_is_ours (Some (applied.Gone ended)) = tt

-- what came in is there still, or went out, by the ways that there are
pub segments_add_up : (book : BookView) (flow : Flow) → AddsUp book → IsFlow flow book.sheet
    → SegmentsAddUp (length book.lists.hot) (length book.lists.warm) (length book.lists.cold) (length book.lists.temp)
    book.sheet
segments_add_up book flow adds is = record {
  hot_adds_up = omega (arith, adds Hot refl, no Cold Hot refl refl, no Dying Hot refl refl, no Hot Hot refl refl, no Hot Retired refl refl, no Hot Temp refl refl, no Hot Unused refl refl, no Retired Hot refl refl, no Temp Hot refl refl, no Warm Hot refl refl);
  warm_adds_up = omega (arith, adds Warm refl, no Dying Warm refl refl, no Retired Warm refl refl, no Temp Warm refl refl, no Unused Warm refl refl, no Warm Hot refl refl, no Warm Retired refl refl, no Warm Temp refl refl, no Warm Unused refl refl);
  cold_adds_up = omega (arith, adds Cold refl, no Cold Cold refl refl, no Cold Hot refl refl, no Cold Retired refl refl, no Cold Temp refl refl, no Cold Unused refl refl, no Dying Cold refl refl, no Retired Cold refl refl, no Temp Cold refl refl, no Unused Cold refl refl);
  temp_adds_up = omega (arith, adds Temp refl, no Temp Hot refl refl, no Temp Warm refl refl, no Temp Cold refl refl, no Temp Temp refl refl, no Temp Unused refl refl, no Temp Retired refl refl, no Hot Temp refl refl, no Warm Temp refl refl, no Cold Temp refl refl, no Dying Temp refl refl, no Retired Temp refl refl);
}
  where
    no : (from to : Place) → (is_segment_place from || is_segment_place to) ≡ true → is_ours from to ≡ false
        → crossings from to book.sheet ≡ 0
    no = is.no_other
