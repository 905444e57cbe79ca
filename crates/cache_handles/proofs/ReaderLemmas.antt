-- What calls of a reader come to. The view `v` is that of the reader's fields.
use Rattle.std.proofs.Common.{◌≡◌, ◌≢◌, ℕ, ◌+◌, ◌≤◌, ◌<◌, List, length, replicate, true, false, Option, Some, None, is_some, refl, sym, ap, ◌∙◌, subst, arith}
use Rattle.std.proofs.lemmas.Grind.{common_steps}
use Rattle.std.specs.Prelude.{slice_get, slice_set, slice_index_or}
use Rattle.bump_steps.specs.declared.views.HoldSheet.{HoldSheet}
use Rattle.bump_handles.proofs.PlaceLemmas.{busy_there, none_of, put_back}
use Rattle.packed_words.specs.Spelling.{long_string}
use Rattle.keyed_hash.specs.declared.seed.Seed.{Seed}
use Rattle.bump_cache.specs.Readers.{CacheReaderView, InPart}
use Rattle.bump_cache.proofs.Choices.{in_same}
use Rattle.cache_handles.specs.declared.reading.GetTold.{GetTold}
use Rattle.cache_handles.specs.declared.reading.HeldTold.TheVariants as held
use Rattle.cache_handles.specs.declared.values.ValueTold.{ValueTold}
use Rattle.cache_handles.specs.Reading.{Gets, HitsHeld, HoldsNothing, MissesItem, TellsGet, TellsHold, TellsRead, TellsRelease, key_of, value_word}
use Rattle.cache_handles.specs.Rows.{TellsValue, eight_words}
use Rattle.cache_handles.specs.Views.{ByteReaderView}

-- no item is held in a place that is free
free_holds_nothing : (place : ℕ) (reader : ByteReaderView) (x : Option HoldSheet)
    → slice_get reader.holds place ≡ Some x → x ≡ None → HoldsNothing place reader
free_holds_nothing place reader x there none = λ hold. grind (arith, common_steps)

-- a reader whose place was read, and is as it was
as_it_was : (place : ℕ) (v after : ByteReaderView) (x y : Option HoldSheet) → x ≡ slice_index_or v.holds place x → y ≡ x
    → after ≡ record v { holds = slice_set v.holds place y } → after ≡ v
as_it_was place v after x y read same left = left
    ∙ ap (λ (z : Option HoldSheet). record v { holds = slice_set v.holds place z }) same
    ∙ ap (λ (hs : List (Option HoldSheet)). record v { holds = hs }) (put_back v.holds place x read)

-- what a reader is but for what it reads by and its holds, where it is known what these are now
rest_of : (v after : ByteReaderView) (reader : CacheReaderView) (holds : List (Option HoldSheet))
    → after ≡ record v { reader = reader; holds = holds }
    → after ≡ record v { reader = after.reader; holds = after.holds }
rest_of v after reader holds left =
    left ∙ ap (λ (a : ByteReaderView). record v { reader = a.reader; holds = a.holds }) (sym left)

-- what was done with the words of a key, which are as many as they are to be
pub got_spelled : (seed : Seed) (bytes : List ℕ) (long width value_words now : ℕ) (answer : GetTold)
    (before from to after : CacheReaderView) → long ≡ width → from ≡ before → to ≡ after
    → InPart (Gets seed (long_string long bytes) value_words now answer) (long_string long bytes) from to
    → InPart (Gets seed (long_string width bytes) value_words now answer) (long_string width bytes) before after
got_spelled seed bytes long width value_words now answer before from to after wide start end did =
    in_same (Gets seed (long_string width bytes) value_words now answer) (long_string width bytes) before from to after
    start end (subst (λ (n : ℕ). InPart (Gets seed (long_string n bytes) value_words now answer) (long_string n bytes)
    from to) wide did)

-- a get of a key that isn't too long
pub tells_got : (key : List ℕ) (now : ℕ) (v before after : ByteReaderView) (answer : GetTold) → v ≡ before
    → length key ≤ v.key_bytes
    → InPart (Gets v.reader.seed (key_of v key) v.value_words now answer) (key_of v key) v.reader after.reader
    → after ≡ record v { reader = after.reader } → TellsGet Gets key now before after answer
tells_got key now v before after answer same short did left =
    subst (λ (b : ByteReaderView). TellsGet Gets key now b after answer) same (record {
      too_long = λ long. absurd (omega arith);
      does = λ _. did;
      rest = left;
    })

-- the same of a hold
pub hit_spelled : (bytes : List ℕ) (long width now : ℕ) (hold : HoldSheet)
    (before from to after : CacheReaderView) → long ≡ width → from ≡ before → to ≡ after
    → InPart (HitsHeld (long_string long bytes) now hold) (long_string long bytes) from to
    → InPart (HitsHeld (long_string width bytes) now hold) (long_string width bytes) before after
hit_spelled bytes long width now hold before from to after wide start end did =
    in_same (HitsHeld (long_string width bytes) now hold) (long_string width bytes) before from to after start end
    (subst (λ (n : ℕ). InPart (HitsHeld (long_string n bytes) now hold) (long_string n bytes) from to) wide did)

-- and where nothing was found
pub missed_spelled : (seed : Seed) (bytes : List ℕ) (long width now : ℕ)
    (before from to after : CacheReaderView) → long ≡ width → from ≡ before → to ≡ after
    → InPart (MissesItem seed (long_string long bytes) now) (long_string long bytes) from to
    → InPart (MissesItem seed (long_string width bytes) now) (long_string width bytes) before after
missed_spelled seed bytes long width now before from to after wide start end did =
    in_same (MissesItem seed (long_string width bytes) now) (long_string width bytes) before from to after start end
    (subst (λ (n : ℕ). InPart (MissesItem seed (long_string n bytes) now) (long_string n bytes) from to) wide did)

-- a hold into a place that has one
pub holds_busy : (place : ℕ) (key : List ℕ) (now : ℕ) (v before after : ByteReaderView) (x : Option HoldSheet)
    → v ≡ before → slice_get v.holds place ≡ Some x → is_some x ≡ true → x ≡ slice_index_or v.holds place x
    → after ≡ record v { holds = slice_set v.holds place x } → TellsHold place key now before after held.NoPlace
holds_busy place key now v before after x same there some read left =
    let busy : slice_get v.holds place ≢ Some None = busy_there v.holds place x there some in
    subst (λ (b : ByteReaderView). TellsHold place key now b after held.NoPlace) same (record {
      no_place = λ _. (refl, as_it_was place v after x x read refl left);
      too_long = λ free. absurd (busy free);
      holds = λ free. absurd (busy free);
      rest = rest_of v after v.reader (slice_set v.holds place x) left;
    })

-- a place is free where it has no hold
free_there : (holds : List (Option HoldSheet)) (place : ℕ) (x : Option HoldSheet) → slice_get holds place ≡ Some x
    → is_some x ≡ false → slice_get holds place ≡ Some None
free_there holds place x there none = there ∙ ap (λ (z : Option HoldSheet). Some z) (none_of x none)

-- one of a key that is too long
pub holds_long : (place : ℕ) (key : List ℕ) (now : ℕ) (v before after : ByteReaderView) (x : Option HoldSheet)
    → v ≡ before → slice_get v.holds place ≡ Some x → is_some x ≡ false → x ≡ slice_index_or v.holds place x
    → v.key_bytes < length key → after ≡ record v { holds = slice_set v.holds place x }
    → TellsHold place key now before after held.KeyBytes
holds_long place key now v before after x same there none read long left =
    subst (λ (b : ByteReaderView). TellsHold place key now b after held.KeyBytes) same (record {
      no_place = λ busy. absurd (busy (free_there v.holds place x there none));
      too_long = λ _ _. (refl, as_it_was place v after x x read refl left);
      holds = λ _ short. absurd (omega arith);
      rest = rest_of v after v.reader (slice_set v.holds place x) left;
    })

-- one that finds nothing
pub holds_missed : (place : ℕ) (key : List ℕ) (now : ℕ) (v before after : ByteReaderView) (x : Option HoldSheet)
    → v ≡ before → slice_get v.holds place ≡ Some x → is_some x ≡ false → x ≡ slice_index_or v.holds place x
    → length key ≤ v.key_bytes → InPart (MissesItem v.reader.seed (key_of v key) now) (key_of v key) v.reader after.reader
    → after ≡ record v { reader = after.reader; holds = slice_set v.holds place x }
    → TellsHold place key now before after held.Nothing
holds_missed place key now v before after x same there none read short missed left =
    subst (λ (b : ByteReaderView). TellsHold place key now b after held.Nothing) same (record {
      no_place = λ busy. absurd (busy (free_there v.holds place x there none));
      too_long = λ _ long. absurd (omega arith);
      holds = λ _ _.
          (missed, ap (λ (r : ByteReaderView). r.holds) left ∙ put_back v.holds place x read);
      rest = rest_of v after after.reader (slice_set v.holds place x) left;
    })

-- and one that finds something
pub holds_found : (place : ℕ) (key : List ℕ) (now key_words : ℕ) (v before after : ByteReaderView)
    (x y : Option HoldSheet) (hold told_hold : HoldSheet) (value : ValueTold)
    → v ≡ before → slice_get v.holds place ≡ Some x → is_some x ≡ false
    → length key ≤ v.key_bytes → InPart (HitsHeld (key_of v key) now hold) (key_of v key) v.reader after.reader
    → key_words ≡ v.key_words → TellsValue (value_word key_words hold) value.flags value.length
    → told_hold ≡ hold → y ≡ Some told_hold
    → after ≡ record v { reader = after.reader; holds = slice_set v.holds place y }
    → TellsHold place key now before after (held.Found value)
holds_found place key now key_words v before after x y hold told_hold value same there none short hit wide tells stays is left =
    subst (λ (b : ByteReaderView). TellsHold place key now b after (held.Found value)) same (record {
      no_place = λ busy. absurd (busy (free_there v.holds place x there none));
      too_long = λ _ long. absurd (omega arith);
      holds = λ _ _. (
        hold,
        hit,
        subst (λ (n : ℕ). TellsValue (value_word n hold) value.flags value.length) wide tells,
        ap (λ (r : ByteReaderView). r.holds) left
            ∙ ap (λ (z : Option HoldSheet). slice_set v.holds place z) (is ∙ ap (λ (h : HoldSheet). Some h) stays),
      );
      rest = rest_of v after after.reader (slice_set v.holds place y) left;
    })

-- a value is to be read where nothing is held
pub reads_nothing : (place from : ℕ) (v before after : ByteReaderView) (x : Option HoldSheet) → v ≡ before
    → slice_get v.holds place ≡ Some x → x ≡ None → x ≡ slice_index_or v.holds place x
    → after ≡ record v { holds = slice_set v.holds place x } → TellsRead place from before after (replicate 8 0)
reads_nothing place from v before after x same there none read left =
    subst (λ (b : ByteReaderView). TellsRead place from b after (replicate 8 0)) same (record {
      nothing = λ _. refl;
      held = λ hold at. absurd (free_holds_nothing place v x there none hold at);
      same = as_it_was place v after x x read refl left;
    })

-- and that of an item that is held
pub reads_there : (place from start key_words : ℕ) (v before after : ByteReaderView) (told : List ℕ)
    (x : Option HoldSheet) (hold left_hold : HoldSheet) → v ≡ before → slice_get v.holds place ≡ Some x → x ≡ Some hold
    → x ≡ slice_index_or v.holds place x → left_hold ≡ hold → start ≡ from → key_words ≡ v.key_words
    → told ≡ eight_words (value_word key_words hold) (start + 2) v.value_words
    → after ≡ record v { holds = slice_set v.holds place (Some left_hold) } → TellsRead place from before after told
reads_there place from start key_words v before after told x hold left_hold same there is read stays begins wide tells left =
    let at_hold : slice_get v.holds place ≡ Some (Some hold) = there ∙ ap (λ (z : Option HoldSheet). Some z) is in
    subst (λ (b : ByteReaderView). TellsRead place from b after told) same (record {
      nothing = λ no. absurd (no hold at_hold);
      held = λ other at.
          let both : Some (Some hold) ≡ Some (Some other) = sym at_hold ∙ at in
          let one : hold ≡ other = cc both in
          subst (λ (h : HoldSheet). told ≡ eight_words (value_word v.key_words h) (from + 2) v.value_words) one
          (subst (λ (n : ℕ). told ≡ eight_words (value_word n hold) (from + 2) v.value_words) wide
          (subst (λ (n : ℕ). told ≡ eight_words (value_word key_words hold) (n + 2) v.value_words) begins tells));
      same = as_it_was place v after x (Some left_hold) read (ap (λ (h : HoldSheet). Some h) stays ∙ sym is) left;
    })

-- a hold is to be given back where none is
pub releases_nothing : (place : ℕ) (v before after : ByteReaderView) (x y : Option HoldSheet) → v ≡ before
    → slice_get v.holds place ≡ Some x → x ≡ None → y ≡ None → x ≡ slice_index_or v.holds place x
    → after ≡ record v { holds = slice_set v.holds place y } → TellsRelease place before after false
releases_nothing place v before after x y same there none is read left =
    subst (λ (b : ByteReaderView). TellsRelease place b after false) same (record {
      nothing = λ _. (free_holds_nothing place v x there none, as_it_was place v after x y read (is ∙ sym none) left);
      released = λ no. absurd (grind (arith, common_steps));
    })

-- and where there is one
pub releases_there : (place : ℕ) (v before after : ByteReaderView) (x y : Option HoldSheet) (hold : HoldSheet)
    → v ≡ before → slice_get v.holds place ≡ Some x → x ≡ Some hold → y ≡ None
    → after ≡ record v { holds = slice_set v.holds place y } → TellsRelease place before after true
releases_there place v before after x y hold same there is none left =
    subst (λ (b : ByteReaderView). TellsRelease place b after true) same (record {
      nothing = λ no. absurd (grind (arith, common_steps));
      released = λ _. (
        hold,
        there ∙ ap (λ (z : Option HoldSheet). Some z) is,
        left ∙ ap (λ (z : Option HoldSheet). record v { holds = slice_set v.holds place z }) none,
      );
    })
