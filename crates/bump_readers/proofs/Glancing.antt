-- What a worker's seat has before a glance's load and after it.
use Rattle.std.proofs.Common.{◌≡◌, ℕ, List, ◌∷◌, Bool, true, false, not, None, refl, sym, ap, ◌∙◌, subst, arith}
use Rattle.atomic_table.specs.Table.{Me}
use Rattle.bump_rules.specs.declared.items.Head.{Head}
use Rattle.bump_rules.specs.declared.items.ItemId.{ItemId}
use Rattle.bump_rules.specs.Lives.{life}
use Rattle.bump_word.specs.Words.{Spells}
use Rattle.bump_word.proofs.Words.{fields, one_head}
use Rattle.bump_steps.specs.declared.views.Empty.{Empty}
use Rattle.bump_steps.specs.declared.views.Kind.TheVariants as kind
use Rattle.bump_steps.specs.declared.views.View.{View}
use Rattle.bump_steps.specs.declared.views.WorkerSheet.{WorkerSheet}
use Rattle.bump_steps.specs.Glances.{new_glance, worker_after_glance, IsFaithful}
use Rattle.bump_steps.specs.Marks.{noted, on_worker}
use Rattle.bump_steps.specs.Plays.{Found}
use Rattle.bump_readers.specs.declared.views.WorkerView.{WorkerView}
use Rattle.bump_readers.specs.Glances.{IsGlancing, IsLinkedLife, glancing_at, looked_at}
use Rattle.bump_readers.specs.Seats.{IsWorkerSheet, worker_in, worker_me}
use Rattle.bump_readers.proofs.Attempts.{attempts_push}
use Rattle.bump_readers.proofs.Touches.{worker_read_back}

-- what is told of the head that a word spells
pub told_of : (word : ℕ) (found : Head) (Holds : Head → Type 0) → Spells word found → Found word Holds → Holds found
told_of word found Holds spells told = subst Holds (one_head word told.0 found told.1 spells) told.2

-- a worker's sheet that changes so is what the view says
pub changed_view : (f : WorkerSheet → WorkerSheet) (m after : Me Empty View) (w : WorkerView) → m ≡ worker_me w
    → after ≡ (on_worker f m.0, m.1) → worker_in after.0 ≡ record w { sheet = f w.sheet }
changed_view f m after w is told = worker_read_back after (record w { sheet = f w.sheet })
    (told ∙ ap (λ (x : Me Empty View). (on_worker f x.0, x.1)) is)

-- so is one by which a glance begins
pub begun_view : (chunk word : ℕ) (found : Head) (row : List ℕ) (m after : Me Empty View) (w : WorkerView)
    → m ≡ worker_me w → Spells word found → after ≡ (on_worker (worker_after_glance chunk word row) m.0, m.1)
    → worker_in after.0 ≡ record w { sheet = glancing_at (life chunk found.generation) found row w.sheet }
begun_view chunk word found row m after w is spells told =
    changed_view (worker_after_glance chunk word row) m after w is told
    ∙ ap (λ (g : ℕ). record w {
      sheet = record (noted kind.Load chunk word w.sheet) { glances = new_glance (life chunk g) row ∷ w.sheet.glances };
    }) (fields word found spells).generation
    ∙ ap (λ (n : ℕ). record w {
      sheet = record (noted kind.Load chunk n w.sheet) {
        glances = new_glance (life chunk found.generation) row ∷ w.sheet.glances;
      };
    }) spells.0

-- while the life lasts each word that the worker's last glance loaded is the life's
pub faithful : (item : ItemId) (word : ℕ) (found : Head) (m : Me Empty View) (w : WorkerView) → m ≡ worker_me w
    → Spells word found → Found word (IsFaithful item.chunk m.0) → (last : IsGlancing item w.sheet)
    → IsLinkedLife item found → last.glance.agrees ≡ true
faithful item word found m w is spells told last lives =
    let whole : IsFaithful item.chunk (worker_me w).0 found = subst (λ (x : Me Empty View). IsFaithful item.chunk x.0 found)
    is (told_of word found (IsFaithful item.chunk m.0) spells told) in
    whole (record {
      worker = w.sheet;
      workers = refl;
      glance = last.glance;
      glances = last.first;
      of = ap (λ (i : ItemId). i.chunk) last.of;
    }) lives.linked (lives.generation ∙ ap (λ (i : ItemId). i.generation) (sym last.of))

-- a load of a head attempts nothing
pub look_kept : (chunk word : ℕ) (p : WorkerSheet) → IsWorkerSheet p → IsWorkerSheet (noted kind.Load chunk word p)
look_kept chunk word p is = record {
  accounts = is.accounts;
  attempts = omega (arith, is.attempts, attempts_push p.steps (record { kind = kind.Load; chunk = chunk; word = word; bump = None }));
}

-- a chunk that isn't found unlinked is linked
pub lit_of : (b : Bool) → not b ≡ false → b ≡ true
lit_of true is = refl
lit_of false is = absurd (cc is)

pub dark_of : (b : Bool) → not b ≡ true → b ≡ false
dark_of true is = absurd (cc is)
dark_of false is = refl
