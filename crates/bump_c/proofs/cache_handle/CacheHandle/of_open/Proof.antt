-- `of_open` moves two fields, and what they own goes with them.
use Rattle.bump_c.proofs.Steps.{[], ◌∷◌, refl, Args, a_type, dcons, dnil, inst_fn, emp, id⊢, Tables, raw, ◌$◌, ◌∵◌, !, qed, by, fact_i, tables, tables_of, RattleType, no, bounded, param, param_laws, triple_of, entered, hears, hears_last, tells, tells_last, IsOne}
use Rattle.bump_c.specs.Seals.{cache_row}
use Rattle.bump_c.proofs.AsBox.{BoxOf, OpenedOf, OpenedName, unnamed}
use Rattle.bump_c.proofs.Moved.{moves}
use Rattle.cache_handles.specs.contracts.opening.OpenedCache as Home
use Rattle.cache_handles.proofs.opening.OpenedCache.TheLaws as home
use Rattle.bump_c.specs.contracts.cache_handle.CacheHandle as Sealed
use Rattle.bump_c.specs.contracts.cache_handle.CacheHandle.of_open as F
use Rattle.bump_c.specs.contracts.cache_handle.CacheHandle.of_open.Key.{name as #self}
use Rattle.bump_c.proofs.cache_handle.CacheHandle.of_open.Statement as stated
use Rattle.bump_c.proofs.cache_handle.CacheHandle.of_open.Code as code

pub of_open_spec : {M : Type 1} → stated.statement M
unfolding tables_of
of_open_spec 𝓤 𝓛 𝓜 𝓡 wired X LX g d _ =
    let 𝓣 : Tables 𝓤 𝓛.H = tables_of 𝓤 𝓛.H 𝓜 (tables 𝓤 𝓛.H 𝓜 𝓡 𝓡.env) in
    let R : RattleType = Home.the_row (param 0 X) g in
    let a : Args = bounded (a_type ∷ []) (X, tt) (dcons d dnil) in
    entered 𝓤 𝓛.H (triple_of 𝓛 (F.ended X g d).signature (F.spec X g d 𝓛 𝓜.mem 𝓡.returns)) 𝓣.C 𝓣.Λ (#self a) (inst_fn a code.function) (code.unfolded 𝓤 𝓛.H 𝓜 𝓡 wired (X, tt) d)
    (moves (OpenedOf R) Sealed.the_row no (OpenedName R) (Sealed.the_type).name 𝓛 𝓣 (F.clauses X g d 𝓛 𝓜.mem 𝓡.returns) R (home.the_row_laws (param 0 X) g (param_laws 0 X LX)) (record {
      Holds = λ h. IsOne X.Denot;
      box = λ h. record { ptr = h.ptr; alloc = h.alloc; value = h.value };
      made = λ h. record { ptr = h.ptr; alloc = h.alloc; table = g.table; held = h.value };
      last = λ h. tt;
      silent = λ κs h w. refl;
      heeds = λ κs h y. qed 𝓛 (raw ((F.clauses X g d 𝓛 𝓜.mem 𝓡.returns κs h).requires y) ∷ []) ∵ hears ! (λ _. hears_last ! (λ is. by ! (fact_i 𝓤 (IsOne X.Denot) (emp 𝓤) is)));
      opens = λ h vs is. id⊢ 𝓤 _;
      shuts = λ h vs is. unnamed 𝓛 X.Denot is (λ A. (BoxOf (cache_row A g.table)).own_val (record { ptr = h.ptr; alloc = h.alloc; value = h.value }) vs);
      says = λ κs h y is. qed 𝓛 [] ∵ tells ! refl $ tells_last ! refl;
    }))
