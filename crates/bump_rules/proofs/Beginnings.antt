-- What the entry of a life that begins says.
use Rattle.std.proofs.Common.{◌≡◌, false, refl}
use Rattle.bump_rules.specs.declared.items.ItemId.{ItemId}
use Rattle.bump_rules.specs.declared.places.Start.{Start}
use Rattle.bump_rules.specs.declared.places.Start.TheVariants as start
use Rattle.bump_rules.specs.Entries.{names_bump}
use Rattle.bump_rules.specs.History.{subject, target}
use Rattle.bump_rules.specs.Places.{place_of, first_segment}
use Rattle.bump_rules.specs.Starts.{begun_change}

-- it speaks of the life
pub begun_subject : (a : Start) (l : ItemId) → subject (begun_change a l) ≡ l
begun_subject start.Hot l = refl
begun_subject start.Temp l = refl

-- it puts the chunk in the list of the segment in which the life begins
pub begun_target : (a : Start) (l : ItemId) → target (begun_change a l) ≡ place_of (first_segment a)
begun_target start.Hot l = refl
begun_target start.Temp l = refl

-- and it names no bump
pub begun_quiet : (a : Start) (l : ItemId) → names_bump (begun_change a l) ≡ false
begun_quiet start.Hot l = refl
begun_quiet start.Temp l = refl
