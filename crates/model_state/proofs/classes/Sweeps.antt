-- Several entries at once: the lists follow one after another, and a sweep's are of chunks that stand in DYING.
use Rattle.bump_rules.proofs.Unlinks.{freed_subject}
use Rattle.std.proofs.Common.{◌≡◌, ℕ, suc, ◌+◌, ◌<◌, ◌≤◌, Bool, true, false, List, [], ◌∷◌, length, drop, get_or, cond, ne_eqb, refl, sym, ap, subst, arith}
use Rattle.std.proofs.lemmas.List.{drop_more}
use Rattle.bump_rules.specs.declared.items.Head.{Head}
use Rattle.bump_rules.specs.declared.items.ItemId.{ItemId}
use Rattle.bump_rules.specs.declared.history.Change.{Change}
use Rattle.bump_rules.specs.declared.places.Place.{Place}
use Rattle.bump_rules.specs.declared.places.Place.TheVariants.{Dying}
use Rattle.bump_rules.specs.Sweeps.{unheld, swept_changes, swept_of}
use Rattle.bump_rules.specs.History.{subject, target, replay, AreListed}
use Rattle.bump_rules.specs.Lists.{Lists, to_front, IsListed}
use Rattle.bump_rules.specs.Lives.{life}
use Rattle.bump_rules.specs.Tables.{is_unheld}
use Rattle.bump_links.specs.Lists.{times}
use Rattle.bump_rules.proofs.PlainLists.{times_same, times_rest}
use Rattle.bump_rules.proofs.SixLists.{listed_front}

-- a move to the front keeps every entry's chunk in the lists
listed_all : (c : ℕ) (p : Place) (l : Lists) (es : List Change) → AreListed l es → AreListed (to_front c p l) es
listed_all c p l [] all = tt
listed_all c p l (e ∷ es) all = (listed_front (subject e).chunk c p l all.0, listed_all c p l es all.1)

-- one more entry is followed
pub followed : (l : Lists) (es : List Change) (i : ℕ) (d : Change) → i < length es → AreListed l (drop i es)
    → (replay (to_front (subject (get_or es i d)).chunk (target (get_or es i d)) l) (drop (i + 1) es)
    ≡ replay l (drop i es))
    × AreListed (to_front (subject (get_or es i d)).chunk (target (get_or es i d)) l) (drop (i + 1) es)
followed l es i d within all =
    let e = get_or es i d in
    let more : drop i es ≡ e ∷ drop (i + 1) es = drop_more es i d within in (
      sym (ap (replay l) more),
      listed_all (subject e).chunk (target e) l (drop (i + 1) es)
          (subst (AreListed l) more all).1,
    )

-- the chunks of a list that nobody holds are no more than the list has
pub unheld_within : (heads : ℕ → Head) (cs : List ℕ) → length (unheld heads cs) ≤ length cs
unheld_within heads [] = omega arith
unheld_within heads (c ∷ cs) = by (is_unheld (heads c)) (unheld_within heads cs)
  where
    by : (b : Bool) → length (unheld heads cs) ≤ length cs
        → length (cond b (c ∷ unheld heads cs) (unheld heads cs)) ≤ suc (length cs)
    by true rest = omega (arith, rest)
    by false rest = omega (arith, rest)

-- a chunk that somebody holds is none of them
pub unheld_held : (heads : ℕ → Head) (c : ℕ) (cs : List ℕ) → 0 < (heads c).refs → unheld heads (c ∷ cs)
    ≡ unheld heads cs
unheld_held heads c cs some = ap (λ b. cond b (c ∷ unheld heads cs) (unheld heads cs)) (ne_eqb (heads c).refs 0
    (λ zero. omega (arith, zero, some)))

-- what a sweep enters is of chunks that stand in the list that it looks at
pub swept_listed : (l : Lists) (heads : ℕ → Head) (cs : List ℕ) → ((c : ℕ) → 0 < times c cs → IsListed c l)
    → AreListed l (swept_of heads cs)
swept_listed l heads [] all = tt
swept_listed l heads (c ∷ cs) all = by (is_unheld (heads c)) (swept_listed l heads cs (λ d some. all d (omega (
  arith,
  some,
  times_rest d c cs,
))))
  where
    by : (b : Bool) → AreListed l (swept_of heads cs) → AreListed l (swept_changes heads (cond b (c ∷ unheld heads cs)
        (unheld heads cs)))
    by true rest = (
      subst (λ (m : ItemId). IsListed m.chunk l) (sym (freed_subject (life c (heads c).generation)))
          (all c (omega (arith, times_same c c cs refl))),
      rest,
    )
    by false rest = rest

-- a class's sweep enters entries of its own chunks
pub dying_listed : (l : Lists) (heads : ℕ → Head) → AreListed l (swept_of heads l.dying)
dying_listed l heads = swept_listed l heads l.dying (λ c some. (Dying, some))
