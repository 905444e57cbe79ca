-- What a worker's seat with a hold joined to it knows of the head that it finds, and of itself after the step.
use Rattle.std.proofs.Common.{◌≡◌, ℕ, ◌+◌, ◌<◌, ◌≤◌, ◌&&◌, cond, not, Bool, true, false, List, Option, Some, None, refl, sym, ap, ◌∙◌, subst, arith, if◌then◌else◌}
use Rattle.atomic_table.specs.Table.{Me}
use Rattle.bump_rules.specs.declared.hands.Hand.TheVariants as hand
use Rattle.bump_rules.specs.declared.items.Head.{Head}
use Rattle.bump_rules.specs.declared.items.ItemId.{ItemId}
use Rattle.bump_rules.specs.Lawful.{bit}
use Rattle.bump_rules.specs.Lives.{life, one_if, count_of}
use Rattle.bump_rules.specs.Tables.{is_cold}
use Rattle.bump_rules.specs.Totals.{how_many}
use Rattle.bump_rules.proofs.Laws.{bit_some}
use Rattle.bump_rules.proofs.Updates.{total_push, count_push}
use Rattle.bump_word.specs.Words.{Spells, word_of}
use Rattle.bump_word.proofs.Words.{fields, one_head}
use Rattle.bump_steps.specs.declared.views.Empty.{Empty}
use Rattle.bump_steps.specs.declared.views.Kind.TheVariants as kind
use Rattle.bump_steps.specs.declared.views.HoldSheet.{HoldSheet}
use Rattle.bump_steps.specs.declared.views.WorkerSheet.{WorkerSheet}
use Rattle.bump_readers.specs.declared.views.WorkerView.{WorkerView}
use Rattle.bump_steps.specs.declared.views.View.{View}
use Rattle.bump_steps.specs.Views.{held, is_life_of, is_fetch_of, weight}
use Rattle.bump_steps.specs.Plays.{Told, step_of}
use Rattle.bump_readers.specs.Seats.{worker_in, worker_me, held_life, first, listed}
use Rattle.bump_steps.specs.Marks.{on_worker, noted, hits_after, worker_after_fetch, trying, attempting, worker_after_mark, done, worker_after_unmark, changed_by, MayMark, RefersTo}
use Rattle.bump_readers.specs.Touching.{fetches_of}
use Rattle.bump_steps.proofs.Marking.{is_its_fetch}
use Rattle.bump_steps.proofs.StepLemmas.{one_life}

-- an option is the first of its list
first_listed : {A : Type 0} (o : Option A) → first (listed o) ≡ o
first_listed None = refl
first_listed (Some x) = refl

-- a worker's view is read back from its seat
worker_back : (v : WorkerView) → worker_in (worker_me v).0 ≡ v
worker_back v = ap (λ (o : Option HoldSheet). record v { hold = o }) (first_listed v.hold)

-- the view after is what the seat says
pub worker_read_back : (m : Me Empty View) (v : WorkerView) → m ≡ worker_me v → worker_in m.0 ≡ v
worker_read_back m v is = ap (λ (x : Me Empty View). worker_in x.0) is ∙ worker_back v

-- a joined hold is a reference
pub refers : (v : WorkerView) (l : ItemId) → held_life v.hold ≡ Some l → 0 < weight l.chunk (held l.generation)
    (worker_me v).0
refers v l holds = by v.hold holds
  where
    by : (o : Option HoldSheet) → held_life o ≡ Some l → 0 < weight l.chunk (held l.generation)
        (worker_me (record v { hold = o })).0
    by None e = absurd (cc e)
    by (Some h) e = let one : one_if (life l.chunk l.generation) h.life ≡ 1 = ap (is_life_of l.chunk l.generation) e
        ∙ one_life l in omega (arith, one)

-- what the worker knows of the head found, and its view after a step
pub record Touched (change : ItemId → Head → WorkerSheet → WorkerSheet) (v : WorkerView) (l : ItemId) (h : Head)
    (m : Me Empty View) : Type 0 where
  pub view : m ≡ worker_me (record v { sheet = change l h v.sheet })
  pub fits : Spells (word_of h) h
  pub generation : h.generation ≡ l.generation
  pub count : 0 < h.refs
  pub hit : count_of l v.sheet.hits ≤ bit h.fetched
  pub saw : 0 < fetches_of l v.sheet → h.fetched ≡ true

-- a step of a worker's seat with a hold
pub touched : (operand : ℕ) (change : ItemId → Head → WorkerSheet → WorkerSheet) (m m₁ : Me Empty View)
    (v w : WorkerView) (l : ItemId) (x r : ℕ) (h : Head) → m ≡ worker_me v → v ≡ w → held_life w.hold ≡ Some l
    → changed_by operand change l.chunk x m r m₁ → Spells r h → Touched change w l h m₁
touched operand change m m₁ v w l x r h is same holds told spells =
    let f = told.1 in
    let g : Head = f.0 in
    let e : g ≡ h = one_head r g h f.1 spells in
    let now : m ≡ worker_me w = is ∙ ap worker_me same in
    let knows : Told l.chunk (worker_me w).0 h = subst (λ (y : Me Empty View × Head). Told l.chunk y.0.0 y.1)
    (λ i. (now i, e i)) f.2.1 in
    let some = refers w l holds in
    let gen : h.generation ≡ l.generation = sym (knows.held l.generation some) in
    let stepped : ◌≡◌ {A = Me Empty View} (on_worker (change (life l.chunk g.generation) g) m.0, m.1)
    (worker_me (record w { sheet = change (life l.chunk h.generation) h w.sheet })) =
    λ i. (on_worker (change (life l.chunk (e i).generation) (e i)) (now i).0, (now i).1) in record {
      view = f.2.0 ∙ stepped ∙ ap (λ (k : ℕ). worker_me (record w { sheet = change (life l.chunk k) h w.sheet })) gen;
      fits = (refl, spells.1);
      generation = gen;
      count = omega (arith, some, knows.many l.generation);
      hit = subst (λ (k : ℕ). count_of (life l.chunk k) w.sheet.hits ≤ bit h.fetched) gen (omega (arith, knows.hit));
      saw = λ many. knows.saw (subst (λ (k : ℕ). 0 < how_many (is_fetch_of l.chunk k) w.sheet.steps + 0) (sym gen)
          (omega (arith, many)));
    }

-- a worker that has a hold refers to its life
pub may_touch : (m : Me Empty View) (v w : WorkerView) (l : ItemId) → m ≡ worker_me v → v ≡ w
    → held_life w.hold ≡ Some l → RefersTo l.chunk m.0
may_touch m v w l is same holds = subst (λ (x : Me Empty View). RefersTo l.chunk x.0) (sym (is ∙ ap worker_me same))
    (l.generation, refers w l holds)

-- and may mark it, if it fetched it
pub may_mark : (m : Me Empty View) (v w : WorkerView) (l : ItemId) → m ≡ worker_me v → v ≡ w
    → held_life w.hold ≡ Some l → 0 < fetches_of l w.sheet → MayMark l.chunk m.0
may_mark m v w l is same holds many = subst (λ (x : Me Empty View). MayMark l.chunk x.0)
    (sym (is ∙ ap worker_me same)) (l.generation, refers w l holds, omega (arith, many))

-- a life is a first hit where FETCHED was clear, and named already where it was set
pub first_hit : (l : ItemId) (h : Head) (hits : List ItemId) → count_of l hits ≤ bit h.fetched → h.fetched ≡ false
    → count_of l hits ≡ 0
first_hit l h hits below clear = omega (arith, below, ap bit clear)

pub named_hit : (l : ItemId) (h : Head) (hits : List ItemId) → count_of l hits ≤ bit h.fetched → 0 < count_of l hits
    → h.fetched ≡ true
named_hit l h hits below many = bit_some h.fetched (omega (arith, below, many))

-- a list that names a life at most where FETCHED is set names it at most once when the fetch is noted
named_once : (l : ItemId) (f : Bool) (hits : List ItemId) → count_of l hits ≤ bit f → count_of l (hits_after f l hits)
    ≤ 1
named_once l true hits below = omega (arith, below)
named_once l false hits below = omega (arith, below, count_push l l hits, one_life l)

-- and is named once after the fetch
pub once_after : (v : WorkerView) (l : ItemId) (h : Head) (m : Me Empty View) → Touched worker_after_fetch v l h m
    → count_of l (worker_in m.0).sheet.hits ≤ 1
once_after v l h m t = subst (λ (x : Me Empty View). count_of l (worker_in x.0).sheet.hits ≤ 1) (sym t.view)
    (named_once l h.fetched v.sheet.hits t.hit)

-- a fetch is one of the life's fetches
has_fetch : (l : ItemId) (h : Head) (p : WorkerSheet) → Spells (word_of h) h → h.generation ≡ l.generation
    → 0 < fetches_of l (worker_after_fetch l h p)
has_fetch l h p fits gen = omega (
  arith,
  total_push (λ x. cond (is_fetch_of l.chunk l.generation x) 1 0) p.steps
      (step_of kind.Fetch l.chunk (word_of h) None),
  is_its_fetch l.chunk (word_of h) l.generation ((fields (word_of h) h fits).generation ∙ gen) l.generation,
  one_life l,
)

-- a worker that made a fetch has it in its steps
pub noted_after : (v : WorkerView) (l : ItemId) (h : Head) (m : Me Empty View) → Touched worker_after_fetch v l h m
    → 0 < fetches_of l (worker_in m.0).sheet
noted_after v l h m t = subst (λ (x : Me Empty View). 0 < fetches_of l (worker_in x.0).sheet) (sym t.view)
    (has_fetch l h v.sheet t.fits t.generation)

-- a worker that was Idle tries where ACTIVE was clear in COLD
pub tries_after : (v : WorkerView) (l : ItemId) (h : Head) (m : Me Empty View) → Touched worker_after_mark v l h m
    → v.sheet.hand ≡ hand.Idle → (not h.active && is_cold h.segment) ≡ true → (worker_in m.0).sheet.hand ≡ hand.Trying l
tries_after v l h m t idle attempts = ap (λ (x : Me Empty View). (worker_in x.0).sheet.hand) t.view
    ∙ ap (λ (b : Bool). (if b then attempting l (noted kind.Mark l.chunk (word_of h) v.sheet) else noted kind.Mark
    l.chunk (word_of h) v.sheet).hand) attempts ∙ ap (trying l) idle

-- one that was to clear ACTIVE is Idle
pub idle_after : (v : WorkerView) (l : ItemId) (h : Head) (m : Me Empty View) → Touched worker_after_unmark v l h m
    → v.sheet.hand ≡ hand.Clearing l → (worker_in m.0).sheet.hand ≡ hand.Idle
idle_after v l h m t clearing = ap (λ (x : Me Empty View). (worker_in x.0).sheet.hand) t.view ∙ ap done clearing
