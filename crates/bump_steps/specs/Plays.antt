-- What a step tells: of the seat before it, the number found, and the seat after it.
use Rattle.std.specs.Prelude.{◌≡◌, ℕ, suc, ◌+◌, ◌<◌, ◌≤◌, Bool, true, List, [], ◌∷◌, length, Option}
use Rattle.atomic_table.specs.Table.{Me, Step}
use Rattle.bump_rules.specs.declared.items.Head.{Head}
use Rattle.bump_rules.specs.declared.items.ItemId.{ItemId}
use Rattle.bump_rules.specs.Lawful.{bit, Shows, IsUsed}
use Rattle.bump_rules.specs.History.{Standing}
use Rattle.bump_word.specs.Words.{Spells}
use Rattle.bump_steps.specs.declared.views.Empty.{Empty}
use Rattle.bump_steps.specs.declared.views.Kind.{Kind}
use Rattle.bump_steps.specs.declared.views.OwnStep.{OwnStep}
use Rattle.bump_steps.specs.declared.views.View.{View}
use Rattle.bump_steps.specs.Places.{head_place}
use Rattle.bump_steps.specs.Views.{named, saw, owners, strays, weight, Query, moves, settled, foreign, lane_count_of}

abbrev pub Sat : Type 0
Sat = Me Empty View

-- of the chunk, the first operand, the seat before, the number found and the seat after
abbrev pub Tells : Type 1
Tells = ℕ → ℕ → Sat → ℕ → Sat → Type 0

-- told of the chunk whose head the word is, whose time it is, or whose label
abbrev pub on_chunk : Tells → Step Empty → Sat → ℕ → Sat → Type 0
on_chunk tells st before word after = (chunk : ℕ) → st.word ≡ head_place st.slots chunk
    → tells chunk st.first before word after

-- or of it and the number of its further words
abbrev pub on_row : (ℕ → Tells) → Step Empty → Sat → ℕ → Sat → Type 0
on_row tells st = on_chunk (tells st.slots) st

abbrev pub on_time : Tells → Step Empty → Sat → ℕ → Sat → Type 0
on_time tells st before word after = (chunk : ℕ) → st.word ≡ head_place st.slots chunk + 1
    → tells chunk st.first before word after

abbrev pub on_label : Tells → Step Empty → Sat → ℕ → Sat → Type 0
on_label tells st before word after = (chunk : ℕ) → st.word ≡ head_place st.slots chunk + (2 + 0)
    → tells chunk st.first before word after

-- or whose further word of this number
abbrev pub on_word : (ℕ → Tells) → Step Empty → Sat → ℕ → Sat → Type 0
on_word tells st before word after = (chunk index : ℕ) → index < st.slots
    → st.word ≡ head_place st.slots chunk + (2 + suc index) → tells index chunk st.first before word after

-- the number found is the word of a head, of which P holds
abbrev pub Found : ℕ → (Head → Type 0) → Type 0
Found word Holds = (h : Head) × Spells word h × Holds h

-- the seat's class has the chunk, and its history leaves it there
abbrev pub Stands : ℕ → View → Standing → Type 0
Stands chunk view at = (weight chunk owners view ≡ 1) × (weight chunk (strays at) view ≡ 0)

-- every bump `n` of worker w
abbrev pub every : ℕ → ℕ → Query
every worker number = record { test = λ l. true; worker = worker; number = number }

-- the test lets no item pass whose chunk isn't of one of the view's classes
abbrev pub IsOwn : (ItemId → Bool) → View → Type 0
IsOwn test view = (life : ItemId) → test life ≡ true → 0 < weight life.chunk owners view

-- What a view tells of the head that its chunk's word spells.
pub record Told (chunk : ℕ) (view : View) (head : Head) : Type 0 where
  -- a reference's life is the chunk's
  pub held : (g : ℕ) → 0 < weight chunk (Rattle.bump_steps.specs.Views.held g) view → g ≡ head.generation
  -- the count is at least the view's own references
  pub many : (g : ℕ) → weight chunk (Rattle.bump_steps.specs.Views.held g) view ≤ head.refs
  -- a chunk of the view's class stands where its history leaves it
  pub stood : (at : Standing) → Stands chunk view at → Shows head at.0 × (head.generation ≡ at.1)
  -- and is not free where the view has a reference to it
  pub in_use : (g : ℕ) → 0 < weight chunk (Rattle.bump_steps.specs.Views.held g) view → (at : Standing)
      → Stands chunk view at → IsUsed at.0
  -- ACTIVE implies FETCHED, which is set where the view names the life's first hit, or had FETCHED set
  pub active : bit head.active ≤ bit head.fetched
  pub hit : weight chunk (named head.generation) view ≤ bit head.fetched
  pub saw : 0 < weight chunk (Rattle.bump_steps.specs.Views.saw head.generation) view → head.fetched ≡ true
  -- no life is named twice
  pub named : (g : ℕ) → weight chunk (Rattle.bump_steps.specs.Views.named g) view ≤ 1
  -- the histories of the view name no bump twice, and speak of its classes' own chunks alone
  pub once : (w n : ℕ) → moves (every w n) view ≤ 1
  pub own : foreign view ≡ 0
  -- they have as many moves of own items for a bump whose lane is in the view as this lane tells
  pub told : (q : Query) → IsOwn q.test view → 0 < lane_count_of q.worker view → moves q view ≡ settled q view

-- What a view tells of moves for bumps, whatever head is found: as in Told.
pub record TellsOfMoves (view : View) : Type 0 where
  pub once : (w n : ℕ) → moves (every w n) view ≤ 1
  pub own : foreign view ≡ 0
  pub told : (q : Query) → IsOwn q.test view → 0 < lane_count_of q.worker view → moves q view ≡ settled q view

-- Each step is noted in the list of a sheet: a seat that has none makes no such step. The seat has the sheet of a worker,
-- or of a class.
abbrev pub HasWorker : View → Type 0
HasWorker view = 0 < length view.workers

abbrev pub HasClass : View → Type 0
HasClass view = 0 < length view.classes

-- or of the class that has the chunk
abbrev pub OwnsChunk : ℕ → View → Type 0
OwnsChunk chunk view = 0 < weight chunk owners view

-- ---- lists

abbrev pub behind : {A : Type 0} → List A → List A
behind [] = []
behind (x ∷ xs) = xs

abbrev pub first_as_list : {A : Type 0} → List A → List A
first_as_list [] = []
first_as_list (x ∷ xs) = x ∷ []

abbrev pub on_first : {A : Type 0} → (A → A) → List A → List A
on_first change [] = []
on_first change (x ∷ xs) = change x ∷ xs

-- a seat's own step
abbrev pub step_of : Kind → ℕ → ℕ → Option (ℕ × ℕ) → OwnStep
step_of kind chunk word bump = record { kind = kind; chunk = chunk; word = word; bump = bump }
