-- An evict that rescues first: what it comes to.
use Rattle.std.specs.Prelude.{◌≡◌, ◌≢◌, ℕ, zero, suc, ◌≤◌, ◌⊎◌, Bool, true, false, Option, Some, None}
use Rattle.bump_links.specs.Lists.{last_of}
use Rattle.bump_rules.specs.declared.commands.Pulled.{Pulled}
use Rattle.bump_rules.specs.declared.commands.Pulled.TheVariants as pulled
use Rattle.bump_rules.specs.declared.items.ItemId.{ItemId}
use Rattle.bump_rules.specs.declared.places.Place.TheVariants.{Warm, Cold}
use Rattle.bump_rules.specs.declared.places.Segment.TheVariants as segment
use Rattle.bump_rules.specs.declared.places.Tail.TheVariants as tail
use Rattle.bump_steps.specs.Views.{last_label}
use Rattle.bump_class.specs.Books.{BookView}
use Rattle.bump_class.specs.Changes.{book_after_see_label}
use Rattle.bump_class.specs.Pulls.{Pulls}
use Rattle.bump_rules.specs.Expiry.{has_expired}
use Rattle.cache_lists.specs.declared.flow.Flow.{Flow}
use Rattle.cache_lists.specs.declared.victims.Victim.{Victim}
use Rattle.cache_lists.specs.Counts.{CountedView, noted}
use Rattle.cache_lists.specs.Ends.{EndsInTurn}
use Rattle.cache_lists.specs.Flows.{Way}

-- an evict rescues at most so many items
abbrev pub most_rescues : ℕ
most_rescues = 8

-- The label of COLD's last item, which is at this chunk, was looked at: it expires at this time.
pub record SeesExpiry (chunk expires : ℕ) (before after : BookView) : Type 0 where
  pub last : last_of before.lists.cold ≡ Some chunk
  pub is : expires ≡ last_label before.sheet chunk
  pub seen : after ≡ book_after_see_label chunk expires before

-- COLD's last item, which is at this chunk, had expired at this time, as a look found, and no pull followed.
pub record FindsExpired (now chunk : ℕ) (before after : BookView) : Type 0 where
  pub expires : ℕ
  pub sees : SeesExpiry chunk expires before after
  pub expired : has_expired expires now ≡ true

-- COLD's last item hadn't expired at this time, as a look found, and the pull that followed told this.
pub record PullsUnexpired (now : ℕ) (answer : Pulled) (before after : BookView) : Type 0 where
  pub chunk : ℕ
  pub expires : ℕ
  pub between : BookView
  pub sees : SeesExpiry chunk expires before between
  pub unexpired : has_expired expires now ≡ false
  pub pulls : Pulls between tail.Cold answer after

-- So many items of COLD were rescued, one after the other: each was its last one when a look found that it hadn't expired
-- and the pull behind it that it was ACTIVE, and went to the front of WARM.
abbrev pub Rescues : ℕ → ℕ → BookView → BookView → Type 0
Rescues now zero before after = after ≡ before
Rescues now (suc count) before after = (between : BookView) × (item : ItemId) × Rescues now count before between
    × PullsUnexpired now (pulled.Warm item) between after

-- A look at COLD rescued nobody: its last item has expired; or it isn't ACTIVE and stays; or there is none, and nothing
-- changed.
abbrev pub StaysInCold : ℕ → BookView → BookView → Type 0
StaysInCold now before after = ((chunk : ℕ) × FindsExpired now chunk before after)
    ⊎ (((item : ItemId) × PullsUnexpired now (pulled.Stay item) before after)
    ⊎ ((last_of before.lists.cold ≡ None) × (after ≡ before)))

-- One look at COLD, which rescued its last item or nobody.
abbrev pub LooksAtCold : ℕ → Bool → BookView → BookView → Type 0
LooksAtCold now true before after = (item : ItemId) × PullsUnexpired now (pulled.Warm item) before after
LooksAtCold now false before after = StaysInCold now before after

-- Items of COLD were rescued, at most so many, and these are all: fewer than that only where one more look rescued nobody.
pub record RescuesUpTo (now most count : ℕ) (before after : BookView) : Type 0 where
  pub few : count ≤ most
  pub between : BookView
  pub rescues : Rescues now count before between
  pub ends : ((count ≡ most) × (after ≡ between)) ⊎ StaysInCold now between after

-- a way was taken so many times
abbrev pub noted_times : ℕ → Option Way → Flow → Flow
noted_times zero way flow = flow
noted_times (suc count) way flow = noted way (noted_times count way flow)

-- the way of the item of such a look, if it was rescued
abbrev pub rescue_way : Bool → Option Way
rescue_way true = Some (Cold, Warm)
rescue_way false = None

-- Why an item ends behind so many rescues: no other may be rescued; or the last look found that it has expired; or the
-- pull just before found it without ACTIVE; or that look found COLD empty, and the item isn't of COLD.
abbrev pub MayEnd : ℕ → ℕ → Victim → BookView → BookView → Type 0
MayEnd now rescued it between left = ((rescued ≡ most_rescues) × (left ≡ between))
    ⊎ (FindsExpired now it.chunk between left
    ⊎ (((item : ItemId) × (item.chunk ≡ it.chunk) × PullsUnexpired now (pulled.Stay item) between left)
    ⊎ ((it.last_of ≢ segment.Cold) × (last_of between.lists.cold ≡ None) × (left ≡ between))))

-- What an evict comes to that rescues first: some items of COLD are rescued that hadn't expired at this time, at most as
-- many as it may, and then this one item ends, whose turn it is then.
pub record Evicts (now : ℕ) (it : Victim) (before after : CountedView) : Type 0 where
  -- so many were rescued, each by a pull
  pub rescued : ℕ
  pub few : rescued ≤ most_rescues
  pub between : BookView
  pub rescues : Rescues now rescued before.book between
  -- behind the last look this one may end
  pub left : CountedView
  pub may : MayEnd now rescued it between left.book
  -- each rescue was counted, and nothing else
  pub flow : left.flow ≡ noted_times rescued (Some (Cold, Warm)) before.flow
  pub evictions : left.evictions ≡ before.evictions
  -- and it is the one that ends
  pub turn : EndsInTurn now it left after
