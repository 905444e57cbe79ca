-- What a reader's glances at chunks come to, by which it finds the item of a key without a reference.
use Rattle.std.specs.Prelude.{◌≡◌, ◌&&◌, ℕ, ◌+◌, ◌<◌, ◌≤◌, Bool, true, false, List, [], ◌∷◌, ◌++◌, length, map, slice_index, None}
use Rattle.bump_rules.specs.declared.items.Head.{Head}
use Rattle.bump_rules.specs.declared.items.ItemId.{ItemId}
use Rattle.bump_word.specs.Words.{word_of}
use Rattle.bump_steps.specs.declared.views.GlanceSheet.{GlanceSheet}
use Rattle.bump_steps.specs.declared.views.Kind.TheVariants as kind
use Rattle.bump_steps.specs.declared.views.OwnStep.{OwnStep}
use Rattle.bump_steps.specs.Plays.{behind, step_of}
use Rattle.bump_steps.specs.References.{label_of_row, word_of_row, words_in}
use Rattle.bump_steps.specs.Rule.{RowPredicate}
use Rattle.bump_readers.specs.Glances.{IsLinkedLife}
use Rattle.bump_unlocked.specs.Workers.{WorkerState}
use Rattle.bump_rules.specs.Expiry.{has_expired}
use Rattle.cache_readers.specs.declared.glancing.Glanced.{Glanced}
use Rattle.cache_readers.specs.declared.glancing.Glanced.TheVariants as told

-- these words stand in the row, from this number of its further words on
abbrev pub HasWords : List ℕ → ℕ → List ℕ → Type 0
HasWords words from row = (i : ℕ) → i < length words → word_of_row row (from + i) ≡ slice_index words i

-- loads of the chunk's head, which found these
abbrev pub head_loads : ℕ → List Head → List OwnStep
head_loads chunk heads = map (λ (head : Head). step_of kind.Load chunk (word_of head) None) heads

-- the worker loaded the chunk's head, and noted these glances: nothing else is new to it
abbrev pub glanced : ℕ → List Head → List GlanceSheet → WorkerState → WorkerState
glanced chunk heads glances worker = record worker {
  sheet = record worker.sheet {
    steps = worker.sheet.steps ++ head_loads chunk heads;
    glances = glances ++ worker.sheet.glances;
  };
}

-- A glance at a chunk told nothing, or there was none: the chunk's head was loaded twice at most, and no word changed.
pub record GlancesInVain (chunk : ℕ) (before after : WorkerState) : Type 0 where
  pub heads : List Head
  pub glances : List GlanceSheet
  pub few : length heads ≤ 2
  pub one : length glances ≤ 1
  pub is : after ≡ glanced chunk heads glances before

-- Where a glance at a chunk told nothing, and ended with this worker, this holds of the worker before it.
abbrev pub BehindGlance : ℕ → (WorkerState → Type 0) → WorkerState → Type 0
BehindGlance chunk Holds worker = (before : WorkerState) → GlancesInVain chunk before worker → Holds before

-- this holds of the life, where a glance at it told nothing
abbrev pub IfUnsure : Glanced → (ItemId → Type 0) → Type 0
IfUnsure (told.Unsure id) Holds = Holds id
IfUnsure told.Found Holds = Unit {0}
IfUnsure told.Nothing Holds = Unit {0}

-- A glance found this value: two loads of a chunk's head found one life linked, the first with both marks. The worker's
-- last glance has the words that stood in the chunk at the first load, of which the table's law holds, and each word that
-- was loaded in between is one of them. They have the key, and the value behind it, and their label hasn't expired.
pub record GlanceFinds (law : RowPredicate) (key value : List ℕ) (now : ℕ) (before after : WorkerState) : Type 0 where
  pub glance : GlanceSheet
  pub first : Head
  pub last : Head
  pub is : after ≡ glanced glance.life.chunk (first ∷ last ∷ []) (glance ∷ []) before
  pub begins : IsLinkedLife glance.life first
  pub marked : (first.fetched && first.active) ≡ true
  pub lasts : IsLinkedLife glance.life last
  pub agrees : glance.agrees ≡ true
  pub has_key : HasWords key 0 glance.row
  pub has_value : HasWords value (length key) glance.row
  pub stays : has_expired (label_of_row glance.row) now ≡ false
  pub lawful : law (words_in glance.row)

-- The worker's last glance loaded words: this holds of its row, if each word that it loaded is the row's. Nothing else is
-- new to the worker.
pub record Reads (Holds : List ℕ → Type 0) (before after : WorkerState) : Type 0 where
  pub glance : GlanceSheet
  pub agrees : Bool
  pub was : before.sheet.glances ≡ glance ∷ behind before.sheet.glances
  pub is : after ≡ record before {
    sheet = record before.sheet { glances = record glance { agrees = agrees } ∷ behind before.sheet.glances };
  }
  pub stricter : agrees ≡ true → glance.agrees ≡ true
  pub holds : agrees ≡ true → Holds glance.row
