-- What all steps need: the chunk of a word, lists whose first element changes, and how often a life counts.
use Rattle.std.proofs.Common.{◌≡◌, ℕ, suc, ◌+◌, ◌<◌, ◌≤◌, ◌≢◌, ◌&&◌, eqb, cond, Bool, true, false, List, [], ◌∷◌, ◌++◌, refl, ap, ap₂, subst, subst₂, get_or, arith, eq-eqb, ne_eqb}
use mathlib.Core.Option.{none}
use Rattle.atomic_table.specs.Table.{Allows, step, carried_after}
use Rattle.bump_rules.specs.declared.configs.Config.{Config}
use Rattle.bump_rules.specs.declared.items.ItemId.{ItemId}
use Rattle.bump_rules.specs.Totals.{total}
use Rattle.bump_rules.specs.Lives.{life, one_if}
use Rattle.bump_rules.proofs.Updates.{total_push}
use Rattle.bump_steps.specs.declared.views.View.{View}
use Rattle.bump_steps.specs.Views.{Measure, weight}
use Rattle.bump_steps.specs.Rule.{RowPredicate, Sound, chunks, Kept, HasFittingLimit}
use Rattle.bump_steps.specs.Places.{head_place}
use Rattle.bump_steps.specs.Plays.{Sat, Tells, on_chunk, on_row, on_time, on_label, on_word, on_first}
use Rattle.bump_steps.specs.References.{IsRow}
use Rattle.bump_steps.proofs.Places.{place_apart}
use Rattle.bump_steps.proofs.Frame.{Same, Amid, From, Reaches, on_head_row, on_head, time_step}

-- a step that tells more tells less
pub allows_less : {law : RowPredicate} (key : Config) (slots id : ℕ) (m : Sat) (word : ℕ) (f : ℕ → ℕ) (then less : ℕ → Sat → Type 0)
    → ((n : ℕ) (w : Sat) → then n w → less n w) → Allows (Kept law key) slots id m word f then
    → Allows (Kept law key) slots id m word f less
allows_less key slots id m word f then less fewer may s o count me small = let g = may s o count me small in (
  g.0,
  g.1,
  g.2,
  g.3,
  fewer (get_or s.words word 0) (g.0, carried_after m.1 g.1) g.4,
)

-- the chunk whose head a word is is one alone, and so is the one whose time it is, or one of whose words
pub chunk_is : (s c d i : ℕ) → i < s + 3 → head_place s c + i ≡ head_place s d + i → c ≡ d
chunk_is s c d i small e = (place_apart s c d i i small small e).0

-- a step on a head word is allowed where it can go on, whatever sound words it finds
pub at_chunk_by : {law : RowPredicate} (tells : Tells) (key : Config) (slots id : ℕ) (m : Sat) (c x : ℕ) (f v : ℕ → ℕ) → c < chunks key
    → From law key c m (λ n z t. Reaches law key c m (tells c x m (v n)) (f n) z t)
    → Allows (Kept law key) slots id m (head_place slots c) f
    (λ n. on_chunk tells (step slots (head_place slots c) x 0 none) m (v n))
at_chunk_by tells key slots id m c x f v near goes =
    allows_less key slots id m (head_place slots c) f (λ n. tells c x m (v n))
    (λ n. on_chunk tells (step slots (head_place slots c) x 0 none) m (v n))
    (λ n w told d e. subst (λ (b : ℕ). tells b x m (v n) w)
    (chunk_is slots c d 0 (omega arith) (omega (arith, e))) told)
    (on_head key slots id m c f (λ n. tells c x m (v n)) near goes)

pub at_chunk : {law : RowPredicate} (tells : Tells) (key : Config) (slots id : ℕ) (m : Sat) (c x : ℕ) (f : ℕ → ℕ) → c < chunks key
    → From law key c m (λ n z t. Reaches law key c m (tells c x m n) (f n) z t)
    → Allows (Kept law key) slots id m (head_place slots c) f (on_chunk tells (step slots (head_place slots c) x 0 none) m)
at_chunk tells key slots id m c x f near goes = at_chunk_by tells key slots id m c x f (λ n. n) near goes

-- or where it can go on by the chunk's row
pub at_row : {law : RowPredicate} (tells : ℕ → Tells) (key : Config) (slots id : ℕ) (m : Sat) (c x : ℕ) (f : ℕ → ℕ) → c < chunks key
    → ((row : List ℕ) → IsRow slots row → (n : ℕ) (t : Measure → ℕ) → HasFittingLimit key
    → Sound law key.refs_limit n (λ i. get_or row i 0) t → Amid c m.0 t
    → Reaches law key c m (tells slots c x m n) (f n) (λ i. get_or row i 0) t)
    → Allows (Kept law key) slots id m (head_place slots c) f (on_row tells (step slots (head_place slots c) x 0 none) m)
at_row tells key slots id m c x f near goes =
    allows_less key slots id m (head_place slots c) f (λ n. tells slots c x m n)
    (on_row tells (step slots (head_place slots c) x 0 none) m)
    (λ n w told d e. subst (λ (b : ℕ). tells slots b x m n w)
    (chunk_is slots c d 0 (omega arith) (omega (arith, e))) told)
    (on_head_row key slots id m c f (λ n. tells slots c x m n) near goes)

-- on a time word, of which v tells
pub at_time : {law : RowPredicate} (tells : Tells) (key : Config) (slots id : ℕ) (m : Sat) (c x : ℕ) (f v : ℕ → ℕ) → c < chunks key
    → ((y : ℕ) → From law key c m (λ n z t. Reaches law key c m (tells c x m (v y)) n z t))
    → Allows (Kept law key) slots id m (head_place slots c + 1) f
    (λ n. on_time tells (step slots (head_place slots c + 1) x 0 none) m (v n))
at_time tells key slots id m c x f v near goes =
    allows_less key slots id m (head_place slots c + 1) f (λ n. tells c x m (v n))
    (λ n. on_time tells (step slots (head_place slots c + 1) x 0 none) m (v n))
    (λ n w told d e. subst (λ (b : ℕ). tells b x m (v n) w) (chunk_is slots c d 1 (omega arith) e) told)
    (time_step key slots id m c f (λ n. tells c x m (v n)) near goes)

-- on a label word
pub at_label : {law : RowPredicate} (tells : Tells) (key : Config) (slots id : ℕ) (m : Sat) (c x : ℕ) (f v : ℕ → ℕ)
    → Allows (Kept law key) slots id m (head_place slots c + (2 + 0)) f (λ n. tells c x m (v n))
    → Allows (Kept law key) slots id m (head_place slots c + (2 + 0)) f
    (λ n. on_label tells (step slots (head_place slots c + (2 + 0)) x 0 none) m (v n))
at_label tells key slots id m c x f v may =
    allows_less key slots id m (head_place slots c + (2 + 0)) f (λ n. tells c x m (v n))
    (λ n. on_label tells (step slots (head_place slots c + (2 + 0)) x 0 none) m (v n))
    (λ n w told d e. subst (λ (b : ℕ). tells b x m (v n) w) (chunk_is slots c d (2 + 0) (omega arith) e) told) may

-- on a further word
pub at_word : {law : RowPredicate} (tells : ℕ → Tells) (key : Config) (slots id : ℕ) (m : Sat) (c j x : ℕ) (f v : ℕ → ℕ) → j < slots
    → Allows (Kept law key) slots id m (head_place slots c + (2 + suc j)) f (λ n. tells j c x m (v n))
    → Allows (Kept law key) slots id m (head_place slots c + (2 + suc j)) f
    (λ n. on_word tells (step slots (head_place slots c + (2 + suc j)) x 0 none) m (v n))
at_word tells key slots id m c j x f v low may =
    allows_less key slots id m (head_place slots c + (2 + suc j)) f (λ n. tells j c x m (v n))
    (λ n. on_word tells (step slots (head_place slots c + (2 + suc j)) x 0 none) m (v n))
    (λ n w told d i small e.
    let one : (c ≡ d) × (2 + suc j ≡ 2 + suc i) =
    place_apart slots c d (2 + suc j) (2 + suc i) (omega (arith, low)) (omega (arith, small)) e in
    subst₂ (λ (b k : ℕ). tells k b x m (v n) w) one.0 (omega (arith, one.1)) told) may

module _ {A : Type 0} (f : A → ℕ) (h : A → A) where
  -- a change of the first element that keeps its term keeps the sum
  pub on_first_total : ((x : A) → f (h x) ≡ f x) → (l : List A) → total f (on_first h l) ≡ total f l
  on_first_total e [] = refl
  on_first_total e (x ∷ xs) = omega (arith, e x)

  -- one that doesn't make its term smaller doesn't make the sum smaller
  pub on_first_le : ((x : A) → f x ≤ f (h x)) → (l : List A) → total f l ≤ total f (on_first h l)
  on_first_le e [] = omega arith
  on_first_le e (x ∷ xs) = omega (arith, e x)

-- what grows, grows for the owner too
pub owned_le : (own : Bool) (p q : ℕ) → p ≤ q → cond own p 0 ≤ cond own q 0
owned_le true p q less = less
owned_le false p q less = omega arith

-- and what a list counts is at most what it counts with one more element
pub owned_push : {A : Type 0} (own : Bool) (f : A → ℕ) (l : List A) (x : A) → cond own (total f l) 0 ≤ cond own
    (total f (l ++ x ∷ [])) 0
owned_push own f l x = owned_le own (total f l) (total f (l ++ x ∷ [])) (omega (arith, total_push f l x))

-- what one view counts as before, all views count as before
pub same_counts : (c : ℕ) (v w : View) (t u : Measure → ℕ) → Same c v w
    → ((y : Measure) → u y + weight c y v ≡ t y + weight c y w) → (y : Measure) → u y ≡ t y
same_counts c v w t u same moved y = omega (arith, same y, moved y)

-- equal changes on both sides
pub level : (p q w : ℕ) → q + w ≡ p + w → p ≡ q
level p q w e = omega arith

-- a life counts for itself, and for no other generation or chunk
pub one_life : (l : ItemId) → one_if (life l.chunk l.generation) l ≡ 1
one_life l = ap (λ b. cond b 1 0)
    (ap₂ (λ a b. a && b) (eq-eqb l.chunk l.chunk refl) (eq-eqb l.generation l.generation refl))

pub other_life : (l : ItemId) (g : ℕ) → g ≢ l.generation → one_if (life l.chunk g) l ≡ 0
other_life l g ne = ap (λ b. cond b 1 0)
    (ap₂ (λ a b. a && b) (eq-eqb l.chunk l.chunk refl) (ne_eqb g l.generation ne))

pub other_chunk : (d g : ℕ) (l : ItemId) → d ≢ l.chunk → one_if (life d g) l ≡ 0
other_chunk d g l ne = ap (λ x. cond (x && eqb g l.generation) 1 0) (ne_eqb d l.chunk ne)
