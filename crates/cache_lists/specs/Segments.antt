-- What stays of the lists of linked items.
use Rattle.std.specs.Prelude.{◌≡◌, true}
use Rattle.bump_rules.specs.declared.places.Place.{Place}
use Rattle.bump_rules.specs.Lists.{Lists, list_at}
use Rattle.bump_rules.specs.Places.{is_segment_place}

-- HOT, WARM, COLD and TEMP have the same items in the same order
abbrev pub SameSegments : Lists → Lists → Type 0
SameSegments before after = (place : Place) → is_segment_place place ≡ true
    → list_at after place ≡ list_at before place
