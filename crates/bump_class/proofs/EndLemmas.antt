-- The end of an item by one move: its chunk goes at once to the list in which the look behind the end leaves it.
use Rattle.std.proofs.Common.{◌≡◌, ℕ, cond, Bool, true, false, List, [], ◌∷◌, refl, sym, ap, ap₂, subst, ◌∙◌, eq-eqb, ne_eqb}
use Rattle.std.specs.Prelude.{if◌then◌else◌}
use native.Mathlib.Decide.{ℕ_discrete}
use Rattle.bump_links.specs.Lists.{without}
use Rattle.bump_rules.specs.declared.bumps.Ended.TheVariants.{Freed, Deferred}
use Rattle.bump_rules.specs.declared.history.Change.TheVariants as change
use Rattle.bump_rules.specs.declared.items.Head.{Head}
use Rattle.bump_rules.specs.declared.items.ItemId.{ItemId}
use Rattle.bump_rules.specs.declared.places.Place.{Place}
use Rattle.bump_rules.specs.declared.places.Place.TheVariants.{Dying}
use Rattle.bump_rules.specs.History.{is_place, subject, target, freed_change}
use Rattle.bump_rules.specs.Lists.{Lists, list_at, to_front}
use Rattle.bump_rules.specs.Lives.{life}
use Rattle.bump_rules.specs.Tables.{ended_of, is_unheld}
use Rattle.bump_rules.proofs.SixLists.{list_at_front, same_lists}
use Rattle.bump_word.specs.Words.{word_of}
use Rattle.bump_steps.specs.declared.views.ClassSheet.{ClassSheet}
use Rattle.bump_steps.specs.declared.views.OwnStep.{OwnStep}
use Rattle.bump_steps.specs.Applications.{life_in}
use Rattle.bump_steps.specs.Lives.{class_after_unlink, class_after_sweep, class_after_load, class_after_sweep_or_load}
use Rattle.bump_steps.specs.Views.{owns, standing}
use Rattle.bump_steps.proofs.Entering.{freed_subject, freed_quiet}
use Rattle.bump_heads.specs.declared.views.ClassView.{ClassView}
use Rattle.bump_heads.specs.Linking.{generation_of_chunk}
use Rattle.bump_class.specs.Books.{BookView, KeepsBook}
use Rattle.bump_class.specs.Ends.{book_after_end, place_behind}
use Rattle.bump_class.proofs.Keeping.{entered, sweep_where_unheld}

-- so it is of a list with one element more
one_more : (c x : ℕ) (xs : List ℕ) → Dec (x ≡ c) → without c (without c xs) ≡ without c xs
    → without c (without c (x ∷ xs)) ≡ without c (x ∷ xs)
one_more c x xs (yes same) rest = rw (eq-eqb x c same) rest
one_more c x xs (no other) rest = rw (ne_eqb x c other, ne_eqb x c other) (ap (λ r. x ∷ r) rest)

-- what was taken out of a list isn't there to be taken out again
without_twice : (c : ℕ) (xs : List ℕ) → without c (without c xs) ≡ without c xs
without_twice c [] = refl
without_twice c (x ∷ xs) = one_more c x xs (ℕ_discrete x c) (without_twice c xs)

-- a chunk that was put in front of a list is taken out with the others of its number
without_front : (c : ℕ) (b : Bool) (xs : List ℕ) → without c (cond b (c ∷ without c xs) (without c xs)) ≡ without c xs
without_front c true xs = rw (eq-eqb c c refl) (without_twice c xs)
without_front c false xs = without_twice c xs

-- a chunk that goes to the front of one list and then of another, is where it is by the second move alone
pub front_twice : (c : ℕ) (p q : Place) (l : Lists) → to_front c p (to_front c q l) ≡ to_front c p l
front_twice c p q l =
    same_lists (to_front c p (to_front c q l)) (to_front c p l) (λ r. list_at_front c p r (to_front c q l)
    ∙ (ap (λ xs. cond (is_place p r) (c ∷ xs) xs) (ap (without c) (list_at_front c q r l)
    ∙ without_front c (is_place q r) (list_at l r)) ∙ sym (list_at_front c p r l)))

-- where the end leaves the chunk is where two moves would: one to DYING, and one from there if nobody holds it
pub lists_behind : (c : ℕ) (behind : Head) (k : ClassSheet) (lists after : Lists) → behind.generation ≡ generation_of_chunk k c
    → after ≡ to_front c (place_behind (ended_of behind) (life c behind.generation)) lists
    → after ≡ (if is_unheld behind then to_front c (target (freed_change (life_in k c))) (to_front c Dying lists) else
    to_front c Dying lists)
lists_behind c behind k lists after generation moved =
    moved ∙ (ap (λ (m : ItemId). to_front c (place_behind (ended_of behind) m) lists) (ap (life c) generation)
    ∙ by (is_unheld behind))
  where
    by : (b : Bool) → to_front c (place_behind (if b then Freed else Deferred) (life_in k c)) lists
        ≡ (if b then to_front c (target (freed_change (life_in k c))) (to_front c Dying lists) else to_front c Dying lists)
    by true = sym (front_twice c (target (freed_change (life_in k c))) Dying lists)
    by false = refl

-- a step that only notes itself changes nothing of what the type of a Book keeps
noted : (v : ClassView) (steps : List OwnStep) (first end hot warm workers : ℕ) (counts : List ℕ) (lists : Lists)
    → KeepsBook v first end lists hot warm workers counts
    → KeepsBook (record v { sheet = record v.sheet { steps = steps } }) first end lists hot warm workers counts
noted v steps first end hot warm workers counts lists k = (
  k.0,
  k.1,
  k.2,
  record { lists = k.3.lists; entries = k.3.entries; causes = k.3.causes; idle = k.3.idle },
  k.4,
  k.5,
)

-- What the type of a Book keeps, it keeps over the end of a life: two steps of its seat, and one move of the chunk.
pub ended_kept : (v w x : ClassView) (first end hot warm workers : ℕ) (counts : List ℕ) (lists after : Lists) (c : ℕ)
    (last behind : Head) → KeepsBook v first end lists hot warm workers counts → owns c v.sheet ≡ true
    → w ≡ record v { sheet = class_after_unlink c (word_of last) v.sheet }
    → x ≡ record w { sheet = class_after_sweep_or_load c behind.refs (word_of behind) w.sheet }
    → behind.generation ≡ generation_of_chunk w.sheet c
    → after ≡ to_front c (place_behind (ended_of behind) (life c behind.generation)) lists
    → KeepsBook x first end after hot warm workers counts
ended_kept v w x first end hot warm workers counts lists after c last behind kept own ended seen generation moved =
    by (ℕ_discrete behind.refs 0)
  where
    dying : Lists
    dying = to_front c Dying lists

    unlinked : KeepsBook w first end dying hot warm workers counts
    unlinked = entered v w first end hot warm workers counts lists dying (change.Unlinked (life c (standing v.sheet c).1)) _ _ _
        kept ended refl own refl

    l : ItemId
    l = life_in w.sheet c

    of : (subject (freed_change l)).chunk ≡ c
    of = ap (λ (m : ItemId). m.chunk) (freed_subject l)

    lists_are : after ≡ (if is_unheld behind then to_front c (target (freed_change l)) dying else dying)
    lists_are = lists_behind c behind w.sheet lists after generation moved

    by : Dec (behind.refs ≡ 0) → KeepsBook x first end after hot warm workers counts
    by (yes none) =
        entered w x first end hot warm workers counts dying after (freed_change l) _ _ _ unlinked
        (seen ∙ ap (λ (k : ClassSheet). record w { sheet = k }) (sweep_where_unheld c behind.refs (word_of behind) w.sheet none))
        (lists_are ∙ (ap (λ (b : Bool). if b then to_front c (target (freed_change l)) dying else dying)
        (eq-eqb behind.refs 0 none) ∙ ap (λ d. to_front d (target (freed_change l)) dying) (sym of)))
        (ap (λ d. owns d w.sheet) of ∙ (ap (λ (s : ClassView). owns c s.sheet) ended ∙ own)) (freed_quiet l)
    by (no some) =
        subst (λ (s : ClassView). KeepsBook s first end after hot warm workers counts)
        (sym (seen ∙ ap (λ (b : Bool). record w {
          sheet = if b then class_after_sweep c (word_of behind) w.sheet else
              class_after_load c (word_of behind) w.sheet;
        }) (ne_eqb behind.refs 0 some)))
        (subst (λ ls. KeepsBook (record w { sheet = class_after_load c (word_of behind) w.sheet }) first end ls hot warm workers
        counts) (sym (lists_are ∙ ap (λ (b : Bool). if b then to_front c (target (freed_change l)) dying else dying)
        (ne_eqb behind.refs 0 some)))
        (noted w (class_after_load c (word_of behind) w.sheet).steps first end hot warm workers counts dying unlinked))

-- a Book by what it is made of
abbrev book_of : ClassSheet → Lists → ℕ → ℕ → ℕ → BookView
book_of sheet lists hot warm workers = record {
  sheet = sheet;
  lists = lists;
  hot_limit = hot;
  warm_limit = warm;
  workers = workers;
}

-- what a Book is behind the end is what the end leaves of it
pub after_end : (v w x : ClassView) (hot warm workers : ℕ) (lists after : Lists) (c : ℕ) (last behind : Head)
    → w ≡ record v { sheet = class_after_unlink c (word_of last) v.sheet }
    → x ≡ record w { sheet = class_after_sweep_or_load c behind.refs (word_of behind) w.sheet }
    → behind.generation ≡ generation_of_chunk w.sheet c
    → after ≡ to_front c (place_behind (ended_of behind) (life c behind.generation)) lists
    → book_of x.sheet after hot warm workers ≡ book_after_end c last behind (book_of v.sheet lists hot warm workers)
after_end v w x hot warm workers lists after c last behind ended seen generation moved =
    ap₂ (λ (k : ClassSheet) (l : Lists). book_of k l hot warm workers) sheets
    (lists_behind c behind (class_after_unlink c (word_of last) v.sheet) lists after
    (generation ∙ ap (λ (s : ClassView). generation_of_chunk s.sheet c) ended) moved)
  where
    sheets : x.sheet ≡ class_after_sweep_or_load c behind.refs (word_of behind)
        (class_after_unlink c (word_of last) v.sheet)
    sheets = ap (λ (s : ClassView). s.sheet) seen
        ∙ ap (λ (s : ClassView). class_after_sweep_or_load c behind.refs (word_of behind) s.sheet) ended
