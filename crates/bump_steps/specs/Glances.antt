-- A glance: a worker's look at a life without a reference. Its first load finds the life linked, and its last one tells
-- whether it still is: then each word that was loaded between is the life's. It writes nothing, and stands in the
-- worker's sheet.
use Rattle.std.specs.Prelude.{◌≡◌, ℕ, suc, ◌/◌, ◌^◌, ◌&&◌, ◌==◌, true, false, List, ◌∷◌, slice_index}
use Rattle.bump_rules.specs.declared.items.Head.{Head}
use Rattle.bump_rules.specs.declared.items.ItemId.{ItemId}
use Rattle.bump_rules.specs.Lives.{life}
use Rattle.bump_word.specs.Layout.{generation_first}
use Rattle.bump_steps.specs.declared.views.GlanceSheet.{GlanceSheet}
use Rattle.bump_steps.specs.declared.views.Kind.TheVariants as kind
use Rattle.bump_steps.specs.declared.views.View.{View}
use Rattle.bump_steps.specs.declared.views.WorkerSheet.{WorkerSheet}
use Rattle.bump_steps.specs.Marks.{noted, on_worker}
use Rattle.bump_steps.specs.Plays.{Tells, Found, behind, on_first}
use Rattle.bump_steps.specs.References.{IsRow, words_in, view_after_load}
use Rattle.bump_steps.specs.Rule.{RowPredicate}

-- a glance at the life, whose words are these, and which loaded none
abbrev pub new_glance : ItemId → List ℕ → GlanceSheet
new_glance item row = record { life = item; row = row; agrees = true }

-- the worker loaded the head of the chunk, whose life is linked, and notes the load and a glance at the life
abbrev pub worker_after_glance : ℕ → ℕ → List ℕ → WorkerSheet → WorkerSheet
worker_after_glance chunk word row worker = record (noted kind.Load chunk word worker)
    { glances = new_glance (life chunk (word / 2 ^ generation_first)) row ∷ worker.glances }

-- What a load of a head tells by which a worker glances: where the chunk is linked, the worker's first glance is at its
-- life, with the life's row, of which the law holds; else it loaded the head, and no more.
abbrev pub glance_tells : RowPredicate → ℕ → Tells
glance_tells law slots chunk operand before word after = Found word (λ h. (h.linked ≡ true → (row : List ℕ)
    × IsRow slots row × law (words_in row)
    × (after ≡ (on_worker (worker_after_glance chunk word row) before.0, before.1)))
    × (h.linked ≡ false → after ≡ (view_after_load chunk word before.0, before.1)))

-- the first glance of the view's first worker is at a life of this chunk
pub record HasGlance (chunk : ℕ) (view : View) : Type 0 where
  pub worker : WorkerSheet
  pub workers : view.workers ≡ worker ∷ behind view.workers
  pub glance : GlanceSheet
  pub glances : worker.glances ≡ glance ∷ behind worker.glances
  pub of : glance.life.chunk ≡ chunk

-- the glance loaded this word, where its row has word i
abbrev pub glance_after_load : ℕ → ℕ → GlanceSheet → GlanceSheet
glance_after_load i word glance = record glance { agrees = glance.agrees && (slice_index glance.row i == word) }

-- so did the worker's first glance
abbrev pub worker_after_glance_load : ℕ → ℕ → WorkerSheet → WorkerSheet
worker_after_glance_load i word worker = record worker { glances = on_first (glance_after_load i word) worker.glances }

abbrev pub view_after_glance_load : ℕ → ℕ → View → View
view_after_glance_load i word view = on_worker (worker_after_glance_load i word) view

-- a glance loaded its label, or further word j
abbrev pub glance_label_tells : Tells
glance_label_tells chunk operand before word after = after ≡ (view_after_glance_load 0 word before.0, before.1)

abbrev pub glance_word_tells : ℕ → Tells
glance_word_tells index chunk operand before word after =
    after ≡ (view_after_glance_load (suc index) word before.0, before.1)

-- while the life of the first glance of the view's worker lasts, each word that it loaded is the life's
abbrev pub IsFaithful : ℕ → View → Head → Type 0
IsFaithful chunk view head = (has : HasGlance chunk view) → head.linked ≡ true
    → head.generation ≡ has.glance.life.generation → has.glance.agrees ≡ true

-- the worker loaded the chunk's head again
abbrev pub look_again_tells : Tells
look_again_tells chunk operand before word after = (after ≡ (view_after_load chunk word before.0, before.1))
    × Found word (IsFaithful chunk before.0)
