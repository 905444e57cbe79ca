-- What contracts see of a worker's glance at a life.
use Rattle.std.specs.Prelude.{◌≡◌, ℕ, List, ◌∷◌, true}
use Rattle.bump_rules.specs.declared.items.Head.{Head}
use Rattle.bump_rules.specs.declared.items.ItemId.{ItemId}
use Rattle.bump_word.specs.Words.{Fits, word_of}
use Rattle.bump_steps.specs.declared.views.GlanceSheet.{GlanceSheet}
use Rattle.bump_steps.specs.declared.views.Kind.TheVariants as kind
use Rattle.bump_steps.specs.declared.views.WorkerSheet.{WorkerSheet}
use Rattle.bump_steps.specs.Glances.{new_glance}
use Rattle.bump_steps.specs.Marks.{noted}
use Rattle.bump_steps.specs.Plays.{behind}
use Rattle.bump_steps.specs.References.{IsRow, words_in}
use Rattle.bump_steps.specs.Rule.{RowPredicate}
use Rattle.bump_readers.specs.declared.views.WorkerView.{WorkerView}

-- this head is of the life, which is linked
pub record IsLinkedLife (item : ItemId) (found : Head) : Type 0 where
  pub fits : Fits found
  pub linked : found.linked ≡ true
  pub generation : found.generation ≡ item.generation

-- the worker loaded the head of the chunk, and found this one
abbrev pub looked_at : ℕ → Head → WorkerSheet → WorkerSheet
looked_at chunk found worker = noted kind.Load chunk (word_of found) worker

-- and glances at the life, whose words are these
abbrev pub glancing_at : ItemId → Head → List ℕ → WorkerSheet → WorkerSheet
glancing_at item found row worker =
    record (looked_at item.chunk found worker) { glances = new_glance item row ∷ worker.glances }

-- A worker found this head of a life, which is linked, and glances at it from then on. The row is the life's, and stands
-- in the first of its glances; the table's law holds of it. Nothing else is new.
pub record BeginsGlance (law : RowPredicate) (slots : ℕ) (item : ItemId) (found : Head) (before after : WorkerView)
    : Type 0 where
  pub linked : IsLinkedLife item found
  pub row : List ℕ
  pub long : IsRow slots row
  pub lawful : law (words_in row)
  pub glances : after ≡ record before { sheet = glancing_at item found row before.sheet }

-- the worker's last glance is at this life
pub record IsGlancing (item : ItemId) (worker : WorkerSheet) : Type 0 where
  pub glance : GlanceSheet
  pub first : worker.glances ≡ glance ∷ behind worker.glances
  pub of : glance.life ≡ item
