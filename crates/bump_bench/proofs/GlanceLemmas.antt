-- A worker glances at an item until the glance ends: its loads leave the glance in the first place.
use Rattle.std.proofs.Common.{◌≡◌, ℕ, List, ◌∷◌, refl, sym, ap, ◌∙◌}
use Rattle.bump_rules.specs.declared.items.Head.{Head}
use Rattle.bump_rules.specs.declared.items.ItemId.{ItemId}
use Rattle.bump_steps.specs.declared.views.GlanceSheet.{GlanceSheet}
use Rattle.bump_steps.specs.Glances.{glance_after_load, new_glance, worker_after_glance_load}
use Rattle.bump_steps.specs.Plays.{behind, on_first}
use Rattle.bump_steps.specs.Rule.{RowPredicate}
use Rattle.bump_readers.specs.Glances.{IsGlancing}
use Rattle.bump_unlocked.specs.Glances.{Glances}
use Rattle.bump_unlocked.specs.Workers.{WorkerState}

-- the glance at this life is the first of these
glancing : (glance : GlanceSheet) (item : ItemId) (rest : List GlanceSheet) (worker : WorkerState) → glance.life ≡ item
    → worker.sheet.glances ≡ glance ∷ rest → IsGlancing item worker.sheet
glancing glance item rest worker of now = record {
  glance = glance;
  first = now ∙ ap (λ (gs : List GlanceSheet). glance ∷ gs) (sym (ap behind now));
  of = of;
}

-- it has begun
pub begun : (law : RowPredicate) (slots : ℕ) (item : ItemId) (found : Head) (before after : WorkerState)
    → Glances law slots item found before after → IsGlancing item after.sheet
begun law slots item found before after glances = glancing (new_glance item glances.row) item before.sheet.glances after
    refl (ap (λ (w : WorkerState). w.sheet.glances) glances.glances)

-- it loaded a word
pub loaded : (i word : ℕ) (item : ItemId) (before after : WorkerState) → IsGlancing item before.sheet
    → after ≡ record before { sheet = worker_after_glance_load i word before.sheet } → IsGlancing item after.sheet
loaded i word item before after was is = glancing (glance_after_load i word was.glance) item
    (behind before.sheet.glances) after was.of (ap (λ (w : WorkerState). w.sheet.glances) is
    ∙ ap (λ (gs : List GlanceSheet). on_first (glance_after_load i word) gs) was.first)
