-- `into_open` moves two fields, and what they own goes with them, under the name that was picked.
use Rattle.bump_c.proofs.Steps.{◌≡◌, [], ◌∷◌, refl, Args, a_type, dcons, dnil, inst_fn, emp, id⊢, Tables, raw, ◌∵◌, !, qed, by, fact_i, tables, tables_of, RattleType, yes, bounded, param, param_laws, triple_of, entered, hears, hears_last, IsOne}
use Rattle.bump_c.specs.Seals.{worker_row}
use Rattle.bump_c.proofs.AsBox.{BoxOf, OpenedOf, OpenedName, named_again}
use Rattle.bump_c.proofs.Moved.{moves}
use Rattle.bump_handles.specs.contracts.readers.Reader as Home
use Rattle.bump_handles.proofs.readers.Reader.TheLaws as home
use Rattle.bump_c.specs.contracts.worker_handle.WorkerHandle as Sealed
use Rattle.bump_c.specs.contracts.worker_handle.WorkerHandle.into_open as F
use Rattle.bump_c.specs.contracts.worker_handle.WorkerHandle.into_open.Key.{name as #self}
use Rattle.bump_c.proofs.worker_handle.WorkerHandle.into_open.Statement as stated
use Rattle.bump_c.proofs.worker_handle.WorkerHandle.into_open.Code as code

pub into_open_spec : {M : Type 1} → stated.statement M
unfolding tables_of
into_open_spec 𝓤 𝓛 𝓜 𝓡 wired X LX g d _ =
    let 𝓣 : Tables 𝓤 𝓛.H = tables_of 𝓤 𝓛.H 𝓜 (tables 𝓤 𝓛.H 𝓜 𝓡 𝓡.env) in
    let R : RattleType = Home.the_row (param 0 X) g in
    let a : Args = bounded (a_type ∷ []) (X, tt) (dcons d dnil) in
    entered 𝓤 𝓛.H (triple_of 𝓛 (F.ended X g d).signature (F.spec X g d 𝓛 𝓜.mem 𝓡.returns)) 𝓣.C 𝓣.Λ (#self a) (inst_fn a code.function) (code.unfolded 𝓤 𝓛.H 𝓜 𝓡 wired (X, tt) d)
    (moves Sealed.the_row (OpenedOf R) yes (Sealed.the_type).name (OpenedName R) 𝓛 𝓣 (F.clauses X g d 𝓛 𝓜.mem 𝓡.returns) R (home.the_row_laws (param 0 X) g (param_laws 0 X LX)) (record {
      Holds = λ h. (h.table ≡ g.table) × IsOne X.Denot;
      box = λ h. record { ptr = h.ptr; alloc = h.alloc; value = h.held };
      made = λ h. record { ptr = h.ptr; alloc = h.alloc; value = h.held };
      last = λ h. tt;
      silent = λ κs h w. refl;
      heeds = λ κs h y. qed 𝓛 (raw ((F.clauses X g d 𝓛 𝓜.mem 𝓡.returns κs h).requires y) ∷ []) ∵ hears ! (λ _. hears ! (λ same. hears_last ! (λ is. by ! (fact_i 𝓤 ((h.0.table ≡ g.table) × IsOne X.Denot) (emp 𝓤) (same, is)))));
      opens = λ h vs holds. named_again 𝓛 X.Denot holds.1 (λ A z. (BoxOf (worker_row A z)).own_val (record { ptr = h.ptr; alloc = h.alloc; value = h.held }) vs) holds.0;
      shuts = λ h vs holds. id⊢ 𝓤 _;
      says = λ κs h y holds. fact_i 𝓤 _ (emp 𝓤) refl;
    }))
