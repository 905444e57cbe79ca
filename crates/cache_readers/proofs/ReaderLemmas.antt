-- What a reader comes to behind a glance.
use Rattle.std.proofs.Common.{◌≡◌, ℕ, List, [], refl, sym, ap, ◌∙◌, subst, arith}
use Rattle.std.proofs.lemmas.List.{append-nil}
use Rattle.bump_rules.specs.declared.configs.Config.{Config}
use Rattle.bump_rules.specs.declared.items.ItemId.{ItemId}
use Rattle.bump_steps.specs.declared.views.OwnStep.{OwnStep}
use Rattle.bump_unlocked.specs.Workers.{WorkerState}
use Rattle.seen_words.specs.Past.{EyeView}
use Rattle.cache_index.specs.History.{Looks}
use Rattle.cache_index.specs.Views.{IndexReaderView}
use Rattle.cache_index.proofs.ReaderLemmas.{looks_more, looks_none}
use Rattle.cache_readers.specs.declared.misses.Miss.{Miss}
use Rattle.cache_readers.specs.Misses.{IsMissed}
use Rattle.cache_readers.proofs.MissLemmas.{HoldsMore, holds_glanced, missed_earlier}
use Rattle.cache_readers.specs.Looks.{one_more}
use Rattle.cache_readers.specs.Readers.{CountsHit, CountsMiss, GlancedAt, KeepsRing, Misses, ReaderView, ReadsNothing}

-- there was no glance
pub none_glanced : (id : ItemId) (reader : ReaderView) → GlancedAt id reader reader
none_glanced id reader = record {
  worker = refl;
  sees = looks_none reader.eye;
  glances = record {
    heads = [];
    glances = [];
    few = omega arith;
    one = omega arith;
    is = ap (λ (ss : List OwnStep). record reader.worker { sheet = record reader.worker.sheet { steps = ss } })
        (sym (append-nil reader.worker.sheet.steps));
  };
}

-- a glance changes neither the configuration nor the count of searches begun anew
pub behind_glance : (Holds : Config → ℕ → Type 0) (id : ItemId) (before after : ReaderView) (config : Config) (anew : ℕ)
    → GlancedAt id before after → config ≡ after.config → anew ≡ after.anew → Holds config anew
    → Holds before.config before.anew
behind_glance Holds id before after config anew glanced same count holds =
    subst (λ (c : Config). Holds c before.anew) (same ∙ ap (λ (r : ReaderView). r.config) glanced.worker)
    (subst (λ (n : ℕ). Holds config n) (count ∙ ap (λ (r : ReaderView). r.anew) glanced.worker) holds)

-- a hit behind a glance is one
pub hit_behind : (id : ItemId) (before between after : ReaderView) → GlancedAt id before between
    → CountsHit between after → CountsHit before after
hit_behind id before between after glanced hit = record {
  is = hit.is
      ∙ ap (λ (r : ReaderView). record r { eye = after.eye; worker = after.worker; hits = one_more r.hits; anew = after.anew })
      glanced.worker;
  sees = looks_more before.eye between.eye after.eye glanced.sees hit.sees;
}

-- and so is a miss
pub miss_behind : (id : ItemId) (before between after : ReaderView) → GlancedAt id before between
    → CountsMiss between after → CountsMiss before after
miss_behind id before between after glanced missed = record {
  is = missed.is
      ∙ ap (λ (r : ReaderView). record r { eye = after.eye; worker = after.worker; misses = one_more r.misses; anew = after.anew; missed = after.missed })
      glanced.worker;
  sees = looks_more before.eye between.eye after.eye glanced.sees missed.sees;
}

-- with what it found
pub missed_behind : (key : List ℕ) (now : ℕ) (id : ItemId) (before between after : ReaderView)
    → GlancedAt id before between → ReadsNothing key now before after → CountsMiss between after
    → KeepsRing between after → Misses key now before after
missed_behind key now id before between after glanced nothing missed ring = record {
  nothing = nothing;
  missed = miss_behind id before between after glanced missed;
  ring = ring ∙ ap (λ (w : WorkerState). w.sender.ring) glanced.glances.is;
}

-- so is why it was one
pub missed_glanced : (why : Miss) (hash : ℕ) (key : List ℕ) (now : ℕ) (id : ItemId) (before at : ReaderView)
    (config : Config) (index : IndexReaderView) (from to : ℕ) (worker : WorkerState) (seen : EyeView)
    (after : WorkerState) (watched : EyeView) → GlancedAt id before at → config ≡ at.config → index ≡ at.index
    → from ≡ at.anew → worker ≡ at.worker → seen ≡ at.eye
    → IsMissed why hash key now config index from to worker seen after watched
    → IsMissed why hash key now before.config before.index before.anew to before.worker before.eye after watched
missed_glanced why hash key now id before at config index from to worker seen after watched glanced config_is index_is
    from_is worker_is seen_is missed =
    let configs : config ≡ before.config = config_is ∙ ap (λ (r : ReaderView). r.config) glanced.worker in
    let indexes : index ≡ before.index = index_is ∙ ap (λ (r : ReaderView). r.index) glanced.worker in
    let counts : from ≡ before.anew = from_is ∙ ap (λ (r : ReaderView). r.anew) glanced.worker in
    subst (λ (c : Config). IsMissed why hash key now c before.index before.anew to before.worker before.eye after watched)
    configs
    (subst (λ (i : IndexReaderView). IsMissed why hash key now config i before.anew to before.worker before.eye after watched)
    indexes
    (subst (λ (n : ℕ). IsMissed why hash key now config index n to before.worker before.eye after watched) counts
    (missed_earlier why hash key now config index from to before.worker before.eye worker seen after watched
    (subst (λ (w : WorkerState). HoldsMore before.worker w) (sym worker_is)
    (holds_glanced id.chunk before.worker at.worker glanced.glances))
    (subst (λ (e : EyeView). Looks before.eye e) (sym seen_is) glanced.sees) missed)))
