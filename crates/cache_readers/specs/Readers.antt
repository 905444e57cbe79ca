-- What contracts see of a reader of a cache, and what a get that found nothing leaves of it.
use Rattle.std.specs.Prelude.{◌≡◌, ℕ, Bool, true, List}
use Rattle.bump_rules.specs.declared.configs.Config.{Config}
use Rattle.bump_rules.specs.declared.items.ItemId.{ItemId}
use Rattle.bump_unlocked.specs.Workers.{WorkerState}
use Rattle.seen_words.specs.Past.{EyeView}
use Rattle.cache_index.specs.History.{Looks}
use Rattle.cache_index.specs.Views.{IndexReaderView}
use Rattle.cache_readers.specs.declared.misses.Miss.{Miss}
use Rattle.cache_readers.specs.declared.misses.Miss.TheVariants as miss
use Rattle.cache_readers.specs.Glances.{GlancesInVain}
use Rattle.cache_readers.specs.Misses.{IsMissed}
use Rattle.cache_readers.specs.Looks.{FindsNothing, one_more}

-- the configuration of the cache's store, the index that it searches, what its eye has seen of it, the worker, how many of
-- its gets found something, and how many nothing, how many searches ended at a life that had ended, and began anew, and why
-- it found nothing when it last did
pub record ReaderView : Type 0 where
  pub config : Config
  pub index : IndexReaderView
  pub eye : EyeView
  pub worker : WorkerState
  pub hits : ℕ
  pub misses : ℕ
  pub anew : ℕ
  pub missed : Miss

-- a reader that got nothing yet, of a store of this configuration and of this index, with this eye and this worker
abbrev pub new_reader : Config → IndexReaderView → EyeView → WorkerState → ReaderView
new_reader config index eye worker = record {
  config = config;
  index = index;
  eye = eye;
  worker = worker;
  hits = 0;
  misses = 0;
  anew = 0;
  missed = miss.Unknown;
}

-- what a reader is beside what it has seen: the configuration of the store, the index's first chunk, the worker, the counts
pub record CountsView : Type 0 where
  pub config : Config
  pub first : ℕ
  pub worker : WorkerState
  pub hits : ℕ
  pub misses : ℕ
  pub anew : ℕ
  pub missed : Miss

abbrev pub counts_of : ReaderView → CountsView
counts_of reader = record {
  config = reader.config;
  first = reader.index.first;
  worker = reader.worker;
  hits = reader.hits;
  misses = reader.misses;
  anew = reader.anew;
  missed = reader.missed;
}

-- of a reader that got nothing yet
abbrev pub no_counts : Config → ℕ → WorkerState → CountsView
no_counts config first worker = record {
  config = config;
  first = first;
  worker = worker;
  hits = 0;
  misses = 0;
  anew = 0;
  missed = miss.Unknown;
}

-- The reader's worker made steps, and no get is counted. Where something was found, why nothing was found last is as before.
-- Its eye has seen what it had seen, and what more there was.
pub record CountsNothing (found : Bool) (before after : ReaderView) : Type 0 where
  pub is : after ≡ record before { eye = after.eye; worker = after.worker; anew = after.anew; missed = after.missed }
  pub why : found ≡ true → after.missed ≡ before.missed
  pub sees : Looks before.eye after.eye

-- the same, but a hit is counted
pub record CountsHit (before after : ReaderView) : Type 0 where
  pub is : after ≡ record before
      { eye = after.eye; worker = after.worker; hits = one_more before.hits; anew = after.anew }
  pub sees : Looks before.eye after.eye

-- the same, but a miss is counted
pub record CountsMiss (before after : ReaderView) : Type 0 where
  pub is : after ≡ record before
      { eye = after.eye; worker = after.worker; misses = one_more before.misses; anew = after.anew; missed = after.missed }
  pub sees : Looks before.eye after.eye

-- the ring of the reader's worker is the one that it had
abbrev pub KeepsRing : ReaderView → ReaderView → Type 0
KeepsRing before after = after.worker.sender.ring ≡ before.worker.sender.ring

-- a reader's looks for a key found nothing
abbrev pub ReadsNothing : List ℕ → ℕ → ReaderView → ReaderView → Type 0
ReadsNothing key now before after =
    FindsNothing before.config key now before.anew after.anew before.worker after.worker

-- a glance at the chunk of this life told nothing, or there was none, and nothing else was done
pub record GlancedAt (id : ItemId) (before after : ReaderView) : Type 0 where
  pub worker : after ≡ record before { eye = after.eye; worker = after.worker }
  pub sees : Looks before.eye after.eye
  pub glances : GlancesInVain id.chunk before.worker after.worker

-- A reader's looks for a key of this hash found nothing, for what it tells of its last miss.
abbrev pub ReadsMissed : ℕ → List ℕ → ℕ → ReaderView → ReaderView → Type 0
ReadsMissed hash key now before after = IsMissed after.missed hash key now before.config before.index before.anew
    after.anew before.worker before.eye after.worker after.eye

-- a get found nothing, and counted one miss
pub record Misses (key : List ℕ) (now : ℕ) (before after : ReaderView) : Type 0 where
  pub nothing : ReadsNothing key now before after
  pub missed : CountsMiss before after
  pub ring : KeepsRing before after
