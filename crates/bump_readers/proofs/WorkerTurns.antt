-- One turn of the loop that cuts the seats of workers off, and the sheets of a first seat.
use Rattle.std.proofs.Common.{◌≡◌, ℕ, zero, suc, ◌+◌, ◌<◌, List, [], ◌∷◌, ◌++◌, map, length, refl, sym, ap, ◌∙◌, subst, arith, append_assoc}
use Rattle.atomic_table.specs.Table.{Me}
use Rattle.atomic_table.specs.Seated.{TableId}
use Rattle.bump_steps.specs.declared.views.Empty.{Empty}
use Rattle.bump_steps.specs.declared.views.WorkerSheet.{WorkerSheet}
use Rattle.bump_steps.specs.declared.views.View.{View}
use Rattle.bump_steps.specs.Rule.{blank, worker_sheet, worker_sheets}
use Rattle.bump_steps.specs.Cuts.{without_worker, worker_only}
use Rattle.bump_steps.specs.Plays.{behind, first_as_list}
use Rattle.bump_readers.specs.declared.views.WorkerView.{WorkerView}
use Rattle.bump_readers.specs.Seats.{worker_me, worker_in, held_life, IsLifeInRange, IsWorkerSheet}
use Rattle.bump_readers.specs.Workers.{worker_seen, AreNewWorkers}

abbrev pub WorkerTurn : TableId → Me Empty View → View → ℕ → ℕ → List WorkerView → List WorkerView → Me Empty View
    → Me Empty View → Type 0
WorkerTurn table m v i count made all m' p = (p ≡ worker_me (worker_in p.0)) × (i ≡ (worker_in p.0).sheet.worker)
    × IsLifeInRange table (held_life (worker_in p.0).hold) × IsWorkerSheet (worker_in p.0).sheet
    × (m' ≡ (record v { workers = m'.0.workers }, [])) × (i + 1 + length m'.0.workers ≡ count)
    × AreNewWorkers (i + 1) m'.0.workers × ((made ++ worker_in p.0 ∷ []) ++ map worker_seen m'.0.workers ≡ all)

-- a new worker has no account of bumps, and no attempt under way
new_sheet : (n : ℕ) → IsWorkerSheet (worker_sheet n)
new_sheet n = record { accounts = record { accepted = refl; attempted = refl; most = omega arith }; attempts = refl }

-- one turn of the loop over the workers
pub worker_turn : (table : TableId) (m : Me Empty View) (v : View) (i count : ℕ) (made all : List WorkerView)
    (m' p : Me Empty View) → m ≡ (record v { workers = m.0.workers }, []) → i + length m.0.workers ≡ count → i < count
    → AreNewWorkers i m.0.workers → made ++ map worker_seen m.0.workers ≡ all → m' ≡ (without_worker m.0, m.1)
    → p ≡ (worker_only m.0, [])
    → WorkerTurn table m v i count made all m' p
worker_turn table m v i count made all m' p rest long more numbers so_far now sheet =
    subst (λ (x : Me Empty View × Me Empty View). WorkerTurn table m v i count made all x.0 x.1)
    (λ j. (sym now j, sym sheet j)) (by m.0.workers rest long numbers so_far)
  where
    by : (ks : List WorkerSheet) → m ≡ (record v { workers = ks }, []) → i + length ks ≡ count → AreNewWorkers i ks
        → made ++ map worker_seen ks ≡ all → WorkerTurn table m v i count made all
        (record m.0 { workers = behind m.0.workers }, m.1) (record blank { workers = first_as_list m.0.workers }, [])
    by [] rest long numbers so_far = absurd (omega (arith, more))
    by (k ∷ ks) rest long numbers so_far =
        subst (λ (x : Me Empty View). WorkerTurn table m v i count made all
        (record x.0 { workers = behind x.0.workers }, x.1) (record blank { workers = first_as_list x.0.workers }, []))
        (sym rest) (
          refl,
          sym (ap (λ (w : WorkerSheet). w.worker) numbers.0),
          tt,
          subst IsWorkerSheet (sym numbers.0) (new_sheet i),
          refl,
          omega (arith, long),
          numbers.1,
          append_assoc made (worker_seen k ∷ []) (map worker_seen ks)
              ∙ so_far,
        )

pub new_workers : (w n : ℕ) → AreNewWorkers w (worker_sheets w n)
new_workers w zero = tt
new_workers w (suc n) = (refl, new_workers (w + 1) n)

pub length_workers : (w n : ℕ) → length (worker_sheets w n) ≡ n
length_workers w zero = refl
length_workers w (suc n) = omega (arith, length_workers (w + 1) n)
