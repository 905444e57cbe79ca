-- What views count for one chunk, what they claim of applied bumps, and what they have of moves for bumps. The rule
-- reads views through these sums alone.
use Rattle.std.specs.Prelude.{ℕ, zero, suc, if◌then◌else◌, ◌+◌, ◌*◌, ◌/◌, ◌%◌, ◌^◌, ◌<◌, ◌≤◌, ◌≡◌, Bool, true, false, cond, not, ◌&&◌, ◌==◌, List}
use Rattle.std.specs.Prelude.{[], ◌∷◌, Option, Some, None, slice_index}
use Rattle.bump_rules.specs.declared.items.ItemId.{ItemId}
use Rattle.bump_rules.specs.declared.labels.LabelStep.{LabelStep}
use Rattle.bump_rules.specs.declared.labels.LabelStep.TheVariants.{Stored, Linked}
use Rattle.bump_rules.specs.declared.bumps.Outcome.{Outcome}
use Rattle.bump_rules.specs.declared.bumps.Outcome.TheVariants as outcome
use Rattle.bump_rules.specs.declared.bumps.Bump.{Bump}
use Rattle.bump_rules.specs.declared.bumps.AppliedBump.{AppliedBump}
use Rattle.bump_rules.specs.declared.hands.Hand.{Hand}
use Rattle.bump_rules.specs.declared.lanes.LaneStage.{LaneStage}
use Rattle.bump_rules.specs.Hands.{life_in_hand}
use Rattle.bump_rules.specs.Rings.{aboard}
use Rattle.bump_rules.specs.Totals.{total, how_many}
use Rattle.bump_rules.specs.Lives.{life, is_same, one_if, count_of}
use Rattle.bump_rules.specs.Labels.{label_word, label_of_life}
use Rattle.bump_rules.specs.Lawful.{IsUsed}
use Rattle.bump_rules.specs.History.{Standing, standing_in, is_standing, is_between, subject}
use Rattle.bump_rules.specs.Entries.{is_move_for, is_unlink_of, is_told_moved, moving, moves_told}
use Rattle.bump_word.specs.Layout.{linked_first, active_first, generation_first}
use Rattle.bump_rules.specs.declared.places.Segment.TheVariants.{Cold}
use Rattle.bump_word.specs.Words.{segment_number, segment_bits}
use Rattle.bump_steps.specs.declared.views.Kind.{Kind}
use Rattle.bump_steps.specs.declared.views.Kind.TheVariants as kind
use Rattle.bump_steps.specs.declared.views.OwnStep.{OwnStep}
use Rattle.bump_steps.specs.declared.views.WordStep.{WordStep}
use Rattle.bump_steps.specs.declared.views.WordStep.TheVariants.{Put, Begun}
use Rattle.bump_steps.specs.declared.views.Ride.{Ride}
use Rattle.bump_steps.specs.declared.views.WorkerSheet.{WorkerSheet}
use Rattle.bump_steps.specs.declared.views.HoldSheet.{HoldSheet}
use Rattle.bump_steps.specs.declared.views.GlanceSheet.{GlanceSheet}
use Rattle.bump_steps.specs.declared.views.ClassSheet.{ClassSheet}
use Rattle.bump_steps.specs.declared.views.LaneSheet.{LaneSheet}
use Rattle.bump_steps.specs.declared.views.View.{View}

-- Sheets.

-- the chunk is of the class
abbrev pub owns : ℕ → ClassSheet → Bool
owns chunk class = is_between class.first (class.first + class.count) chunk

-- where the class's history leaves the chunk
abbrev pub standing : ClassSheet → ℕ → Standing
standing class chunk = standing_in class.fresh class.history chunk

-- the label that the class stored last for the chunk, 0 before the first
abbrev pub last_label : ClassSheet → ℕ → ℕ
last_label class chunk = label_word chunk 0 class.labels

-- what was done about further word j of chunks, as it would be about their labels
abbrev pub of_word : ℕ → List WordStep → List LabelStep
of_word j [] = []
of_word j (Put chunk index word ∷ steps) = if index == j then Stored chunk word ∷ of_word j steps else of_word j steps
of_word j (Begun item ∷ steps) = Linked item ∷ of_word j steps

-- word 0 is the label, and word j + 1 is further word j
abbrev pub labels_of : ℕ → List LabelStep → List WordStep → List LabelStep
labels_of zero labels words = labels
labels_of (suc j) labels words = of_word j words

-- word i that the class stored last for the chunk, 0 before the first
abbrev pub last_word : ℕ → ClassSheet → ℕ → ℕ
last_word i class chunk = label_word chunk 0 (labels_of i class.labels class.words)

-- all of them by number: the label, and then the further words
abbrev pub last_words : ClassSheet → ℕ → ℕ → ℕ
last_words class chunk index = last_word index class chunk

-- the first of a list, if it has one
abbrev pub first : {A : Type 0} → List A → Option A
first [] = None
first (x ∷ xs) = Some x

-- the bump aboard a lane
abbrev pub bump_aboard : LaneStage → Option Bump
bump_aboard stage = first (aboard stage)

-- 1 where there is a bump aboard, and it is of this life
abbrev pub refers : ℕ → ℕ → Option Bump → ℕ
refers chunk generation None = 0
refers chunk generation (Some bump) = one_if (life chunk generation) bump.life

-- 1 where there is such a life, and it is this one
abbrev pub is_life_of : ℕ → ℕ → Option ItemId → ℕ
is_life_of chunk generation None = 0
is_life_of chunk generation (Some item) = one_if (life chunk generation) item

-- 1 where a worker has a bump's reference to this life in its hand
abbrev pub in_hand : ℕ → ℕ → Hand → ℕ
in_hand chunk generation so_far = is_life_of chunk generation (life_in_hand so_far)

-- the step set FETCHED
abbrev pub is_fetch : Kind → Bool
is_fetch kind.Fetch = true
is_fetch _ = false

-- the step set FETCHED of this life, or found it set
abbrev pub is_fetch_of : ℕ → ℕ → OwnStep → Bool
is_fetch_of chunk generation step =
    is_fetch step.kind && ((step.chunk == chunk) && (step.word / 2 ^ generation_first == generation))

-- What is counted of one chunk.
pub data Measure : Type 0 where
  -- references to its life of this generation: holds, and bumps in a hand, on their way and aboard a lane
  held : ℕ → Measure
  -- first hits of this life
  named : ℕ → Measure
  -- steps of workers that set FETCHED of this life
  saw : ℕ → Measure
  -- classes that have the chunk
  owners : Measure
  -- of these, those whose history leaves it elsewhere
  strays : Standing → Measure
  -- of these, those that stored another word i last
  mislabels : ℕ → ℕ → Measure
  -- holds of this life in whose row another word i stands
  misreads : ℕ → ℕ → ℕ → Measure
  -- glances at its life of this generation
  glanced : ℕ → Measure
  -- of these, those in whose row another word i stands, or that loaded a word that their row hasn't
  misglanced : ℕ → ℕ → ℕ → Measure

-- 1 where the hold is of this life, and word i of its row isn't this one
abbrev pub misread : ℕ → ℕ → ℕ → ℕ → HoldSheet → ℕ
misread i chunk generation word hold =
    one_if (life chunk generation) hold.life * cond (slice_index hold.row i == word) 0 1

-- 1 where the glance is at this life, and word i of its row isn't this one, or it loaded a word that its row hasn't
abbrev pub misglance : ℕ → ℕ → ℕ → ℕ → GlanceSheet → ℕ
misglance i chunk generation word glance =
    one_if (life chunk generation) glance.life * cond ((slice_index glance.row i == word) && glance.agrees) 0 1

-- what the glances of a worker count so
abbrev pub glances_at : ℕ → ℕ → WorkerSheet → ℕ
glances_at chunk generation worker = total (λ g. one_if (life chunk generation) g.life) worker.glances

abbrev pub misglances_at : ℕ → ℕ → ℕ → ℕ → WorkerSheet → ℕ
misglances_at i chunk generation word worker = total (misglance i chunk generation word) worker.glances

-- what sheets count of chunk c
abbrev pub counts : ℕ → Measure → List WorkerSheet → List HoldSheet → List Ride → List ClassSheet → List LaneSheet → ℕ
counts chunk (held generation) ws hs rs ks ls = total (λ h. one_if (life chunk generation) h.life) hs + total
    (λ r. one_if (life chunk generation) r.life) rs + total (λ w. in_hand chunk generation w.hand) ws + total
    (λ l. refers chunk generation (bump_aboard l.stage)) ls
counts chunk (named generation) ws hs rs ks ls = total (λ w. count_of (life chunk generation) w.hits) ws
counts chunk (saw generation) ws hs rs ks ls = total (λ w. how_many (is_fetch_of chunk generation) w.steps) ws
counts chunk owners ws hs rs ks ls = total (λ k. cond (owns chunk k) 1 0) ks
counts chunk (strays at) ws hs rs ks ls =
    total (λ k. cond (owns chunk k && not (is_standing (standing k chunk) at)) 1 0) ks
counts chunk (mislabels i label) ws hs rs ks ls =
    total (λ k. cond (owns chunk k && not (last_word i k chunk == label)) 1 0) ks
counts chunk (misreads i generation label) ws hs rs ks ls = total (misread i chunk generation label) hs
counts chunk (glanced generation) ws hs rs ks ls = total (glances_at chunk generation) ws
counts chunk (misglanced i generation word) ws hs rs ks ls = total (misglances_at i chunk generation word) ws

-- what one view counts of chunk c
abbrev pub weight : ℕ → Measure → View → ℕ
weight chunk measure view = counts chunk measure view.workers view.holds view.riders view.classes view.lanes

-- what all views together count of chunk c
abbrev pub tally : List View → ℕ → Measure → ℕ
tally views chunk measure = total (weight chunk measure) views

-- Applied bumps, and what shows that an entry is true.

abbrev pub outcome_number : Outcome → ℕ
outcome_number outcome.Moved = 0
outcome_number outcome.TimeOnly = 1
outcome_number outcome.Gone = 2

-- whether two entries are one
abbrev pub is_entry : AppliedBump → AppliedBump → Bool
is_entry entry other = (other.number == entry.number)
    && (is_same other.life entry.life && (outcome_number other.outcome == outcome_number entry.outcome))

-- how often a lane of worker w has this entry
abbrev pub claimed_in : ℕ → AppliedBump → LaneSheet → ℕ
claimed_in worker entry this_lane = cond (this_lane.worker == worker) (how_many (is_entry entry) this_lane.applied) 0

abbrev pub claims : ℕ → AppliedBump → View → ℕ
claims worker entry view = total (claimed_in worker entry) view.lanes

-- the step was made for this bump
abbrev pub is_for : ℕ → ℕ → Option (ℕ × ℕ) → Bool
is_for worker number (Some made_for) = (made_for.0 == worker) && (made_for.1 == number)
is_for worker number None = false

-- the word is of a linked chunk that is not in COLD
abbrev pub linked_elsewhere : ℕ → Bool
linked_elsewhere word = (word / 2 ^ linked_first % 2 == 1) && not (segment_bits word == segment_number Cold)

-- the word has ACTIVE clear
abbrev pub active_clear : ℕ → Bool
active_clear word = word / 2 ^ active_first % 2 == 0

-- what a step of this kind found shows that nothing is to be moved
abbrev pub nothing_to_move : Kind → ℕ → Bool
nothing_to_move kind.Try word = linked_elsewhere word
nothing_to_move kind.ClearActive word = active_clear word
nothing_to_move _ word = false

-- the step, made for bump n of worker w on chunk c, shows that its item isn't to be moved
abbrev pub shows_time_only : ℕ → ℕ → ℕ → OwnStep → Bool
shows_time_only worker number chunk step = nothing_to_move step.kind step.word
    && (is_for worker number step.bump && (step.chunk == chunk))

-- what a class that has the chunk counts; another class counts nothing
abbrev pub of_owner : ℕ → (ClassSheet → ℕ) → ClassSheet → ℕ
of_owner chunk counted class = cond (owns chunk class) (counted class) 0

-- How much a view has that shows an entry of worker w's lane to be true, by its outcome: the history and the steps of
-- the class that has the entry's chunk, and the lane's own steps.
abbrev pub shown_by : Outcome → ℕ → AppliedBump → View → ℕ
shown_by outcome.Moved worker entry view =
    total (of_owner entry.life.chunk (λ k. how_many (is_move_for (is_same entry.life) worker entry.number) k.history))
    view.classes
shown_by outcome.Gone worker entry view =
    total (of_owner entry.life.chunk (λ k. how_many (is_unlink_of entry.life) k.history)) view.classes
shown_by outcome.TimeOnly worker entry view =
    total (of_owner entry.life.chunk (λ k. how_many (shows_time_only worker entry.number entry.life.chunk) k.steps))
    view.classes + total (λ l. how_many (shows_time_only worker entry.number entry.life.chunk) l.steps) view.lanes

abbrev pub evidence : ℕ → AppliedBump → View → ℕ
evidence worker entry view = shown_by entry.outcome worker entry view

-- Moves for bumps.

-- bump `number` of `worker`, of an item that passes the test
pub record Query : Type 0 where
  pub test : ItemId → Bool
  pub worker : ℕ
  pub number : ℕ

-- how often the histories have the move for such a bump
abbrev pub moves : Query → View → ℕ
moves query view = total (λ k. how_many (is_move_for query.test query.worker query.number) k.history) view.classes

-- how often lanes tell of the move for such a bump, by an entry or by how far they are
abbrev pub settled_in : Query → LaneSheet → ℕ
settled_in query this_lane = cond (this_lane.worker == query.worker)
    (moves_told query.test query.number this_lane.applied this_lane.stage) 0

abbrev pub settled : Query → View → ℕ
settled query view = total (settled_in query) view.lanes

-- 1 where a class names the move for such a bump as its application in progress
abbrev pub names_move : Query → Option Ride → ℕ
names_move query None = 0
names_move query (Some ride) =
    cond (ride.worker == query.worker) (cond ((ride.number == query.number) && query.test ride.life) 1 0) 0

abbrev pub in_progress : Query → View → ℕ
in_progress query view = total (λ k. names_move query k.applying) view.classes

-- 1 where a lane has made the move for such a bump, and hasn't told it yet
abbrev pub underway_in : Query → LaneSheet → ℕ
underway_in query this_lane = cond (this_lane.worker == query.worker) (moving query.test query.number this_lane.stage) 0

abbrev pub underway : Query → View → ℕ
underway query view = total (underway_in query) view.lanes

-- Histories.

-- 1 where the application that is named is of a chunk outside these bounds
abbrev pub names_outside : ℕ → ℕ → Option Ride → ℕ
names_outside first end None = 0
names_outside first end (Some ride) = cond (is_between first end ride.life.chunk) 0 1

-- how many entries of the class's history are of a chunk that isn't the class's, and whether the application that it
-- names is
abbrev pub foreign_in : ClassSheet → ℕ
foreign_in class = how_many (λ e. not (owns (subject e).chunk class)) class.history
    + names_outside class.first (class.first + class.count) class.applying

abbrev pub foreign : View → ℕ
foreign view = total foreign_in view.classes

-- What a class's sheet has of labels: each of its chunks that isn't free has its life's words, the last ones that were
-- stored for the chunk, and no life to come has begun.
pub record HasLabels (class : ClassSheet) : Type 0 where
  pub labelled : (i c : ℕ) → owns c class ≡ true → IsUsed (standing class c).0
      → label_of_life (life c (standing class c).1) 0 (labels_of i class.labels class.words) ≡ Some (last_word i class c)
  pub unbegun : (i c g : ℕ) → (standing class c).1 < g
      → label_of_life (life c g) 0 (labels_of i class.labels class.words) ≡ None

abbrev pub HaveLabels : List ClassSheet → Type 0
HaveLabels [] = Unit {0}
HaveLabels (class ∷ ks) = HasLabels class × HaveLabels ks

-- so have all sheets of these views
abbrev pub AreLabelled : List View → Type 0
AreLabelled [] = Unit {0}
AreLabelled (view ∷ vs) = HaveLabels view.classes × AreLabelled vs

-- Workers and lanes.

-- how many sheets of worker w the view has
abbrev pub workers_of : ℕ → View → ℕ
workers_of worker view = total (λ p. cond (p.worker == worker) 1 0) view.workers

-- how many lanes of worker w the view has
abbrev pub lane_count_of : ℕ → View → ℕ
lane_count_of worker view = total (λ l. cond (l.worker == worker) 1 0) view.lanes

-- a bump aboard has the next number
abbrev pub is_next : ℕ → Option Bump → Bool
is_next index None = true
is_next index (Some bump) = bump.number == index

-- the entries are numbered from i on, and the bump aboard has the next number
abbrev pub in_order : ℕ → List AppliedBump → Option Bump → Bool
in_order index [] aboard = is_next index aboard
in_order index (entry ∷ more) aboard = (entry.number == index) && in_order (index + 1) more aboard

-- 1 where a lane isn't in order
abbrev pub untidy_in : LaneSheet → ℕ
untidy_in this_lane = cond (in_order 0 this_lane.applied (bump_aboard this_lane.stage)) 0 1

abbrev pub untidy : View → ℕ
untidy view = total untidy_in view.lanes

-- A view may become another one: what it adds to the entries is shown by what it has, each move is settled, and named
-- while it is in progress, no entry of a chunk of another class joins a history, lives have their labels, the workers
-- and the lanes stay the same ones, and the lanes stay in order.
pub record IsBacked (before after : View) : Type 0 where
  pub backs : (worker : ℕ) (a : AppliedBump) → (evidence worker a before ≤ evidence worker a after)
      × (claims worker a before < claims worker a after → 0 < evidence worker a after)
  pub even : (q : Query) → moves q after + settled q before ≡ moves q before + settled q after
  pub progress : (q : Query) → in_progress q after + underway q before ≡ in_progress q before + underway q after
  pub own : foreign after ≤ foreign before
  pub labels : HaveLabels before.classes → HaveLabels after.classes
  pub workers : (n : ℕ) → workers_of n after ≡ workers_of n before
  pub lanes : (n : ℕ) → lane_count_of n after ≡ lane_count_of n before
  pub tidy : untidy after ≤ untidy before
