-- Words, and all that they were.
use Rattle.std.specs.Prelude.{◌≡◌, ℕ, ◌+◌, ◌-◌, ◌<◌, true, false, List, [], ◌∷◌, ◌++◌, drop, length, slice_index, slice_set, refl}
use mathlib.Core.Option.{some}
use lib.ListN.{get_elem?}
use Rattle.atomic_table.specs.Table.{State, Me, Step}
use Rattle.atomic_table.specs.Seated.{TableId}
use Rattle.seen_words.specs.declared.views.NoSlot.{NoSlot}
use Rattle.seen_words.specs.declared.views.Moment.{Moment}
use Rattle.seen_words.specs.declared.views.Sight.{Sight}

-- what contracts see of the words: which table's they are, and how many
pub record WordsView : Type 0 where
  pub table : TableId
  pub count : ℕ

-- what contracts see of an eye: which table's words it sees, and each moment that it has seen, the last one first
pub record EyeView : Type 0 where
  pub table : TableId
  pub seen : List Moment

-- the first 6 words of the table stand before the first of these
abbrev pub words_view : TableId → WordsView
words_view table = record { table = table; count = table.words - 6 }

-- what holds of a moment, behind those that came before it
abbrev pub MomentLaw : Type 1
MomentLaw = List Moment → Moment → Type 0

abbrev pub moment : List ℕ → List (List ℕ) → Moment
moment words note = record { words = words; note = note }

-- the words at the last of these moments
abbrev pub words_of : List Moment → List ℕ
words_of [] = []
words_of (now ∷ older) = now.words

-- what was noted at the last of these moments
abbrev pub note_of : List Moment → List (List ℕ)
note_of [] = []
note_of (now ∷ older) = now.note

-- what contracts see of a pen: which table's words it writes, what they are, and each moment, the last one first
pub record PenView : Type 0 where
  pub table : TableId
  pub words : List ℕ
  pub past : List Moment
  -- the words are those of the last moment
  pub last : words ≡ words_of past

abbrev pub pen_view : TableId → List Moment → PenView
pen_view table past = record { table = table; words = words_of past; past = past; last = refl }

-- whoever has seen these has seen those before
pub record Extends (before after : List Moment) : Type 0 where
  pub more : List Moment
  pub is : after ≡ more ++ before

-- the law holds of each moment behind those that came before it
abbrev pub AllLawful : MomentLaw → List Moment → Type 0
AllLawful law [] = Unit {0}
AllLawful law (now ∷ older) = law older now × AllLawful law older

-- At each moment there are so many words.
abbrev pub AllSized : ℕ → List Moment → Type 0
AllSized size [] = Unit {0}
AllSized size (now ∷ older) = (length now.words ≡ size) × AllSized size older

-- the law holds of each moment, of which there is one
pub record IsLawful (law : MomentLaw) (seen : List Moment) : Type 0 where
  pub now : Moment
  pub older : List Moment
  pub is : seen ≡ now ∷ older
  pub all : AllLawful law seen

abbrev pub pen_sight : List Moment → Sight
pen_sight past = record { past = past; writes = true }

abbrev pub eye_sight : List Moment → Sight
eye_sight past = record { past = past; writes = false }

abbrev pub first_sight : List ℕ → Sight
first_sight words = pen_sight (moment (drop 6 words) [] ∷ [])

abbrev pub same_sight : Sight → Sight
same_sight sight = sight

abbrev pub eye_of : Sight → Sight
eye_of sight = eye_sight sight.past

-- an eye has seen what was up to some moment
pub record IsEyeOf (past : List Moment) (sight : Sight) : Type 0 where
  pub eye : sight.writes ≡ false
  pub seen : Extends sight.past past

abbrev pub AreEyes : List Moment → List Sight → Type 0
AreEyes past eyes = (id : ℕ) (sight : Sight) → get_elem? eyes id ≡ some sight → IsEyeOf past sight

-- the pen is the first seat, and knows each moment; all others are eyes
pub record Kept (law : MomentLaw) (table : State NoSlot Sight) : Type 0 where
  pub now : Moment
  pub older : List Moment
  pub eyes : List Sight
  pub views : table.views ≡ pen_sight (now ∷ older) ∷ eyes
  pub words : now.words ≡ drop 6 table.words
  pub sized : AllSized (length (drop 6 table.words)) (now ∷ older)
  pub lawful : AllLawful law (now ∷ older)
  pub seen : AreEyes (now ∷ older) eyes

-- an eye that opens has seen what is
abbrev pub enter_tells : MomentLaw → Step NoSlot → Me NoSlot Sight → ℕ → Me NoSlot Sight → Type 0
enter_tells law at before found after = (after.0.writes ≡ false) × IsLawful law after.0.past

-- the word is that of the last moment that was seen
pub record load_tells (law : MomentLaw) (at : Step NoSlot) (before : Me NoSlot Sight) (found : ℕ)
    (after : Me NoSlot Sight) : Type 0 where
  pub carried : after.1 ≡ before.1
  pub eye : after.0.writes ≡ before.0.writes
  pub seen : Extends before.0.past after.0.past
  pub size : 0 < length (words_of before.0.past) → length (words_of after.0.past) ≡ length (words_of before.0.past)
  pub lawful : IsLawful law after.0.past
  pub told : (word : ℕ) → at.word ≡ 6 + word → found ≡ slice_index (words_of after.0.past) word

-- the word that is read is the one that the pen wrote
abbrev pub read_tells : Step NoSlot → Me NoSlot Sight → ℕ → Me NoSlot Sight → Type 0
read_tells at before found after = (after ≡ before)
    × ((word : ℕ) → at.word ≡ 6 + word → found ≡ slice_index (words_of before.0.past) word)

-- the pen knows what it wrote
abbrev pub write_tells : List (List ℕ) → Step NoSlot → Me NoSlot Sight → ℕ → Me NoSlot Sight → Type 0
write_tells note at before stored after = (word : ℕ) → at.word ≡ 6 + word → after
    ≡ (pen_sight (moment (slice_set (words_of before.0.past) word stored) note ∷ before.0.past), before.1)
