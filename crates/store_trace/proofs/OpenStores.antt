-- What a line does on an open store: which fault it has, and what it leaves of names.
use Rattle.std.proofs.Common.{◌≡◌, ℕ, zero, suc, ◌+◌, ◌<◌, ◌≤◌, true, false, List, [], ◌∷◌, length, Option, Some, None, Err, refl, sym, ap, ◌∙◌, subst, arith}
use Rattle.std.specs.Prelude.{not, ◌&&◌, nat_lt, replicate, is_some}
use Rattle.std.proofs.lemmas.Bool.Decides.{nat_tests}
use Rattle.bump_rules.specs.declared.configs.ClassConfig.{ClassConfig}
use Rattle.bump_rules.specs.declared.configs.Config.{Config}
use Rattle.bump_rules.specs.declared.items.ItemId.{ItemId}
use Rattle.bump_rules.specs.declared.places.Start.{Start}
use Rattle.bump_rules.specs.declared.places.Tail.{Tail}
use Rattle.model_state.specs.Opening.{new_state, classes_from}
use Rattle.model_state.specs.State.{is_class, is_worker}
use Rattle.bump_trace.specs.Meaning.{fault_in}
use denote.Ref.{Bor}
use Rattle.trace_lines.specs.Lines.{Instruction, may_follow_par}
use Rattle.trace_lines.specs.Seen.{seen_instruction}
use Rattle.trace_lines.specs.declared.lines.Instruction.{Instruction as TheInstruction}
use Rattle.trace_lines.specs.declared.lines.Instruction.TheVariants as said
use Rattle.store_trace.specs.Endings.{Leaves}
use Rattle.store_trace.specs.OpenStores.{FailsAs, MayStand}
use Rattle.store_trace.specs.Stops.{IsNoFault}
use Rattle.store_trace.specs.declared.stops.Stop.{Stop}
use Rattle.store_trace.specs.declared.stops.Stop.TheVariants as stops
use Rattle.trace_lines.specs.declared.faults.LineError.TheVariants as errors
use Rattle.bump_trace.specs.OpenStore.{instruction_said, line_answered, set_said, get_said, hold_said, hit_said, read_said, drop_said, del_said, pull_said, sweep_said, close_said, drain_said, show_said, moves_said, par_said}
use Rattle.bump_trace.specs.OpenStore.{get_bound, hold_bound, hold_unused, hit_bound, read_bound, drop_bound, del_bound}
use Rattle.bump_trace.specs.Stages.{StoreState}
use Rattle.trace_lines.specs.declared.faults.Fault.{Fault}
use Rattle.trace_lines.specs.declared.faults.Fault.TheVariants as fault

-- a new state has as many classes as its configuration
classes_count : (fresh first : ℕ) (classes : List ClassConfig) → length (classes_from fresh first classes) ≡ length classes
classes_count fresh first [] = refl
classes_count fresh first (class ∷ classes) = ap suc (classes_count fresh (first + class.chunks) classes)

-- and as many workers
replicate_count : {A : Type 0} (n : ℕ) (x : A) → length (replicate n x) ≡ n
replicate_count zero x = refl
replicate_count (suc n) x = ap suc (replicate_count n x)

-- a number below another, and one that is not
below : (a b : ℕ) → a < b → nat_lt a b ≡ true
below a b h = grind (arith, nat_tests)

not_below : (a b : ℕ) → b ≤ a → nat_lt a b ≡ false
not_below a b h = grind (arith, nat_tests)

pub class_there : (config : Config) (class : ℕ) → class < length config.classes → is_class (new_state config) class ≡ true
class_there config class h = ap (nat_lt class) (classes_count _ 0 config.classes) ∙ below class (length config.classes) h

pub class_missing : (config : Config) (class : ℕ) → length config.classes ≤ class → is_class (new_state config) class ≡ false
class_missing config class h = ap (nat_lt class) (classes_count _ 0 config.classes) ∙ not_below class (length config.classes) h

pub worker_there : (config : Config) (worker : ℕ) → worker < config.workers → is_worker (new_state config) worker ≡ true
worker_there config worker h = ap (nat_lt worker) (replicate_count config.workers _) ∙ below worker config.workers h

pub worker_missing : (config : Config) (worker : ℕ) → config.workers ≤ worker → is_worker (new_state config) worker ≡ false
worker_missing config worker h = ap (nat_lt worker) (replicate_count config.workers _) ∙ not_below worker config.workers h

-- by a test whether there is a class
module _ (store : StoreState) (class : ℕ) where
  pub set_found : (now : ℕ) (begins : Start) (name : List ℕ) (label : ℕ) → is_class store.state class ≡ true → fault_in (set_said store now begins name class label) ≡ None
  unfolding set_said
  set_found now begins name label is = rw is refl

  pub set_missing : (now : ℕ) (begins : Start) (name : List ℕ) (label : ℕ) → is_class store.state class ≡ false → fault_in (set_said store now begins name class label) ≡ Some fault.Class
  unfolding set_said
  set_missing now begins name label is = rw is refl

  pub pull_found : (tail : Tail) → is_class store.state class ≡ true → fault_in (pull_said store class tail) ≡ None
  unfolding pull_said
  pull_found tail is = rw is refl

  pub pull_missing : (tail : Tail) → is_class store.state class ≡ false → fault_in (pull_said store class tail) ≡ Some fault.Class
  unfolding pull_said
  pull_missing tail is = rw is refl

  pub sweep_found : is_class store.state class ≡ true → fault_in (sweep_said store class) ≡ None
  unfolding sweep_said
  sweep_found is = rw is refl

  pub sweep_missing : is_class store.state class ≡ false → fault_in (sweep_said store class) ≡ Some fault.Class
  unfolding sweep_said
  sweep_missing is = rw is refl

-- a hold name that is in use, and one that is not, by the test for it
unused_by : (store : StoreState) (worker : ℕ) (name held : List ℕ) (id : ItemId) (kept : Option ItemId) → is_some kept ≡ false → fault_in (hold_unused store worker name held id kept) ≡ None
unused_by store worker name held id None is = refl
unused_by store worker name held id (Some x) is = absurd cc

used_by : (store : StoreState) (worker : ℕ) (name held : List ℕ) (id : ItemId) (kept : Option ItemId) → is_some kept ≡ true → fault_in (hold_unused store worker name held id kept) ≡ Some fault.Held
used_by store worker name held id None is = absurd cc
used_by store worker name held id (Some x) is = refl

hit_found_by : (store : StoreState) (now worker : ℕ) (held : List ℕ) (kept : Option ItemId) → is_some kept ≡ true → fault_in (hit_bound store now worker held kept) ≡ None
hit_found_by store now worker held None is = absurd cc
hit_found_by store now worker held (Some id) is = refl

hit_unbound_by : (store : StoreState) (now worker : ℕ) (held : List ℕ) (kept : Option ItemId) → is_some kept ≡ false → fault_in (hit_bound store now worker held kept) ≡ Some fault.Unbound
hit_unbound_by store now worker held None is = refl
hit_unbound_by store now worker held (Some id) is = absurd cc

read_found_by : (store : StoreState) (held : List ℕ) (kept : Option ItemId) → is_some kept ≡ true → fault_in (read_bound store held kept) ≡ None
read_found_by store held None is = absurd cc
read_found_by store held (Some id) is = refl

read_unbound_by : (store : StoreState) (held : List ℕ) (kept : Option ItemId) → is_some kept ≡ false → fault_in (read_bound store held kept) ≡ Some fault.Unbound
read_unbound_by store held None is = refl
read_unbound_by store held (Some id) is = absurd cc

drop_found_by : (store : StoreState) (held : List ℕ) (kept : Option ItemId) → is_some kept ≡ true → fault_in (drop_bound store held kept) ≡ None
drop_found_by store held None is = absurd cc
drop_found_by store held (Some id) is = refl

drop_unbound_by : (store : StoreState) (held : List ℕ) (kept : Option ItemId) → is_some kept ≡ false → fault_in (drop_bound store held kept) ≡ Some fault.Unbound
drop_unbound_by store held None is = refl
drop_unbound_by store held (Some id) is = absurd cc

-- by a test whether there is a worker, and by what names are bound to
module _ (store : StoreState) (worker : ℕ) where
  pub get_missing : (now : ℕ) (name : List ℕ) → is_worker store.state worker ≡ false → fault_in (get_said store now worker name) ≡ Some fault.Worker
  unfolding get_said
  get_missing now name is = rw is refl

  pub get_unbound : (now : ℕ) (name : List ℕ) → is_worker store.state worker ≡ true → store.names name ≡ None → fault_in (get_said store now worker name) ≡ Some fault.Unbound
  unfolding get_said
  get_unbound now name is none = rw is (ap (λ (b : Option ItemId). fault_in (get_bound store now worker name b)) none)

  pub get_found : (now : ℕ) (name : List ℕ) (id : ItemId) → is_worker store.state worker ≡ true → store.names name ≡ Some id → fault_in (get_said store now worker name) ≡ None
  unfolding get_said
  get_found now name id is there = rw is (ap (λ (b : Option ItemId). fault_in (get_bound store now worker name b)) there)

  pub hold_missing : (name held : List ℕ) → is_worker store.state worker ≡ false → fault_in (hold_said store worker name held) ≡ Some fault.Worker
  unfolding hold_said
  hold_missing name held is = rw is refl

  pub hold_unbound : (name held : List ℕ) → is_worker store.state worker ≡ true → store.names name ≡ None → fault_in (hold_said store worker name held) ≡ Some fault.Unbound
  unfolding hold_said
  hold_unbound name held is none = rw is (ap (λ (b : Option ItemId). fault_in (hold_bound store worker name held b)) none)

  pub hold_used : (name held : List ℕ) (id : ItemId) → is_worker store.state worker ≡ true → store.names name ≡ Some id → is_some (store.holds held) ≡ true
      → fault_in (hold_said store worker name held) ≡ Some fault.Held
  unfolding hold_said
  hold_used name held id is there used =
      rw is (ap (λ (b : Option ItemId). fault_in (hold_bound store worker name held b)) there ∙ used_by store worker name held id (store.holds held) used)

  pub hold_free : (name held : List ℕ) (id : ItemId) → is_worker store.state worker ≡ true → store.names name ≡ Some id → is_some (store.holds held) ≡ false
      → fault_in (hold_said store worker name held) ≡ None
  unfolding hold_said
  hold_free name held id is there free =
      rw is (ap (λ (b : Option ItemId). fault_in (hold_bound store worker name held b)) there ∙ unused_by store worker name held id (store.holds held) free)

  pub hit_missing : (now : ℕ) (held : List ℕ) → is_worker store.state worker ≡ false → fault_in (hit_said store now worker held) ≡ Some fault.Worker
  unfolding hit_said
  hit_missing now held is = rw is refl

  pub hit_unbound : (now : ℕ) (held : List ℕ) → is_worker store.state worker ≡ true → is_some (store.holds held) ≡ false → fault_in (hit_said store now worker held) ≡ Some fault.Unbound
  unfolding hit_said
  hit_unbound now held is none = rw is (hit_unbound_by store now worker held (store.holds held) none)

  pub hit_found : (now : ℕ) (held : List ℕ) → is_worker store.state worker ≡ true → is_some (store.holds held) ≡ true → fault_in (hit_said store now worker held) ≡ None
  unfolding hit_said
  hit_found now held is there = rw is (hit_found_by store now worker held (store.holds held) there)

  pub close_missing : (now : ℕ) → is_worker store.state worker ≡ false → fault_in (close_said store now worker) ≡ Some fault.Worker
  unfolding close_said
  close_missing now is = rw is refl

  pub close_found : (now : ℕ) → is_worker store.state worker ≡ true → fault_in (close_said store now worker) ≡ None
  unfolding close_said
  close_found now is = rw is refl

-- by what names are bound to
module _ (store : StoreState) (name : List ℕ) where
  pub read_unbound : is_some (store.holds name) ≡ false → fault_in (read_said store name) ≡ Some fault.Unbound
  unfolding read_said
  read_unbound none = read_unbound_by store name (store.holds name) none

  pub read_found : is_some (store.holds name) ≡ true → fault_in (read_said store name) ≡ None
  unfolding read_said
  read_found there = read_found_by store name (store.holds name) there

  pub drop_unbound : is_some (store.holds name) ≡ false → fault_in (drop_said store name) ≡ Some fault.Unbound
  unfolding drop_said
  drop_unbound none = drop_unbound_by store name (store.holds name) none

  pub drop_found : is_some (store.holds name) ≡ true → fault_in (drop_said store name) ≡ None
  unfolding drop_said
  drop_found there = drop_found_by store name (store.holds name) there

  pub del_unbound : store.names name ≡ None → fault_in (del_said store name) ≡ Some fault.Unbound
  unfolding del_said
  del_unbound none = ap (λ (b : Option ItemId). fault_in (del_bound store name b)) none

  pub del_found : (id : ItemId) → store.names name ≡ Some id → fault_in (del_said store name) ≡ None
  unfolding del_said
  del_found id there = ap (λ (b : Option ItemId). fault_in (del_bound store name b)) there

-- a drain has no fault
pub drain_found : (store : StoreState) (now : ℕ) → fault_in (drain_said store now) ≡ None
unfolding drain_said
drain_found store now = refl

-- behind `par` a line does what it says where it may stand there, and has a fault where not
made_past : (store : StoreState) (now : ℕ) (i : Instruction) → store.is_past_par ≡ true → may_follow_par i ≡ true → instruction_said store now i ≡ line_answered store now i
unfolding instruction_said
made_past store now i past follows = rw past (rw follows refl)

pub not_past : (store : StoreState) (now : ℕ) (i : Instruction) → store.is_past_par ≡ true → may_follow_par i ≡ false → fault_in (instruction_said store now i) ≡ Some fault.Order
unfolding instruction_said
not_past store now i past follows = rw past (rw follows refl)

-- the fault of a line that may stand behind `par`
pub past_fault : (store : StoreState) (now : ℕ) (said i : Instruction) (meant : Option Fault) → said ≡ i → store.is_past_par ≡ true → may_follow_par i ≡ true
    → fault_in (line_answered store now i) ≡ meant → fault_in (instruction_said store now said) ≡ meant
past_fault store now said i meant is past follows p =
    ap (λ (x : Instruction). fault_in (instruction_said store now x)) is ∙ ap fault_in (made_past store now i past follows) ∙ p

-- and that it leaves all names as they are
pub past_stands : (store : StoreState) (now : ℕ) (said i : Instruction) → said ≡ i → store.is_past_par ≡ true → may_follow_par i ≡ true
    → fault_in (line_answered store now i) ≡ None → Leaves i store store → MayStand store now said
past_stands store now said i is past follows p leaves = (past_fault store now said i None is past follows p, subst (λ (x : Instruction). Leaves x store store) (sym is) leaves)

-- which lines may not stand behind `par`
pub others_not_past : (i : TheInstruction) → ((worker : ℕ) (name : Bor (List ℕ)) → i ≡ said.Get worker name → ⊥) → ((name : Bor (List ℕ)) → i ≡ said.Del name → ⊥)
    → ((class : ℕ) (tail : Tail) → i ≡ said.Pull class tail → ⊥) → ((class : ℕ) → i ≡ said.Sweep class → ⊥) → (i ≡ said.Drain → ⊥) → may_follow_par (seen_instruction i) ≡ false
others_not_past (said.Set start name class label) no_get no_del no_pull no_sweep no_drain = refl
others_not_past (said.Get worker name) no_get no_del no_pull no_sweep no_drain = absurd (no_get worker name refl)
others_not_past (said.Hold worker name hold) no_get no_del no_pull no_sweep no_drain = refl
others_not_past (said.Hit worker hold) no_get no_del no_pull no_sweep no_drain = refl
others_not_past (said.Read hold) no_get no_del no_pull no_sweep no_drain = refl
others_not_past (said.Drop hold) no_get no_del no_pull no_sweep no_drain = refl
others_not_past (said.Del name) no_get no_del no_pull no_sweep no_drain = absurd (no_del name refl)
others_not_past (said.Pull class tail) no_get no_del no_pull no_sweep no_drain = absurd (no_pull class tail refl)
others_not_past (said.Sweep class) no_get no_del no_pull no_sweep no_drain = absurd (no_sweep class refl)
others_not_past said.Drain no_get no_del no_pull no_sweep no_drain = absurd (no_drain refl)
others_not_past (said.Close worker) no_get no_del no_pull no_sweep no_drain = refl
others_not_past said.Show no_get no_del no_pull no_sweep no_drain = refl
others_not_past said.Moves no_get no_del no_pull no_sweep no_drain = refl
others_not_past said.Par no_get no_del no_pull no_sweep no_drain = refl

-- a line that has no fault was not run for another reason
pub fails_none : (stop : Stop) (meant : Option Fault) → IsNoFault stop → meant ≡ None → FailsAs (Err stop) meant
fails_none stops.Ring meant none is = is
fails_none (stops.Line errors.Memory) meant none is = tt
fails_none (stops.Line (errors.Fault what)) meant none is = absurd none

-- a line that may not stand here, and one that may
pub out_of_order : (store : StoreState) (now : ℕ) (i : Instruction) → (store.is_past_par && not (may_follow_par i)) ≡ true → fault_in (instruction_said store now i) ≡ Some fault.Order
unfolding instruction_said
out_of_order store now i out = rw out refl

pub in_order : (store : StoreState) (now : ℕ) (i : Instruction) → (store.is_past_par && not (may_follow_par i)) ≡ false → instruction_said store now i ≡ line_answered store now i
unfolding instruction_said
in_order store now i stands = rw stands refl

-- what is shown has no fault, and `par` has none
pub show_found : (store : StoreState) → fault_in (show_said store) ≡ None
unfolding show_said
show_found store = refl

pub moves_found : (store : StoreState) → fault_in (moves_said store) ≡ None
unfolding moves_said
moves_found store = refl

pub par_found : (store : StoreState) → fault_in (par_said store) ≡ None
unfolding par_said
par_found store = refl
