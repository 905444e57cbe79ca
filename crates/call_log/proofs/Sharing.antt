-- The parts of how many calls each value had: what the law keeps of them, and what lies with the value.
use Rattle.std.proofs.Common.{◌≡◌, ℕ, zero, suc, ◌+◌, ◌-◌, ◌<◌, Bool, true, false, List, [], ◌∷◌, refl, ap, sym, ◌∙◌, subst, arith}
use seplogic.Ra.Ura.{Ura}
use base.Fraction.{full_share}
use base.Share.{quarter, three_quarters}
use base.Logic.{SProp, ent, sep, wand, ex, all, upd, emp, id⊢, via, apply∗, all_i, all_e, upd_i}
use base.Fml.{Fml, ftrue}
use base.Shift.{Keyless}
use types.Logic.{Logic, sem}
use types.Owned.{basic}
use types.Keyed.{entries_new, entries_take, entry_keyless, entries_keyless}
use types.Kit.{‵, raw, ◌⊛◌, some, given, later, ◌$◌, ◌∵◌, !, qed, move, split, fjoin, fpack, pick, learn, show, frame, assume, suffices, settle, done, use0, use1, use2, updating, await, now, rewrite}
use denote.Steps.{nothing}
use Rattle.std.specs.Prelude.{replicate, slice_set}
use Rattle.logbook.specs.Pages.{Cell, cell}
use Rattle.logbook.specs.Kept.{halved, home, part, roster, pens_own, offer}
use Rattle.logbook.proofs.Roster.{Reset, at_home, joined, resets}
use Rattle.call_log.specs.Laws.{Entry}
use Rattle.call_log.specs.Tallies.{IsDone, calls_asked, gains_tally, keeps_tallies, known, number_asked, tallies, tally_owns}
use Rattle.call_log.proofs.Counting.{answer_is, length_tallies, tallies_begin, tallies_done, tally_at}

-- a number that the law keeps has no key
home_keyless : (name k n : ℕ) (b : Bool) → Keyless (home name k n b)
home_keyless name k n true = entry_keyless halved name k _
home_keyless name k n false = tt

-- what the law keeps has no key
pub roster_keyless : (name k : ℕ) (cells : List Cell) → Keyless (roster name k cells)
roster_keyless name k [] = entries_keyless halved name k (λ _. (full_share, 0))
roster_keyless name k (c ∷ cells) = (home_keyless name k c.0 c.1, roster_keyless name (suc k) cells)

-- a value's part has no key
pub tally_keyless : (name k : ℕ) (here : Bool) (calls : ℕ) → Keyless (tally_owns name k here calls)
unfolding tally_owns
tally_keyless name k true calls = entry_keyless halved name k _
tally_keyless name k false calls = tt

module _ {M : Type 1} {𝓤 : Ura M} (𝓛 : Logic 𝓤) where
  open 𝓛 use {H}

  abbrev Pr : Type 2
  Pr = SProp 𝓤

  abbrev ⟦◌⟧ : Fml → Pr
  ⟦ P ⟧ = sem 𝓛 P

  -- a row of numbers is made, each in two parts
  rowed : (name n k : ℕ) → ent 𝓤 ⟦ roster name k [] ⟧ (upd 𝓤 (sep 𝓤 ⟦ roster name k (replicate n (0, true)) ⟧ ⟦ pens_own name k n ⟧))
  rowed name zero k = qed 𝓛 (‵ (roster name k []) ∷ []) ∵ suffices ! _ (upd_i 𝓤 (sep 𝓤 ⟦ roster name k [] ⟧ (emp 𝓤))) $
      nothing ! $ move ! (1 ∷ 0 ∷ []) $ done !
  rowed name (suc n) k =
      let more : List Cell = replicate n (0, true) in
      let Z : Pr = sep 𝓤 ⟦ roster name k ((0, true) ∷ more) ⟧ ⟦ pens_own name k (suc n) ⟧ in
      qed 𝓛 (‵ (roster name k []) ∷ []) ∵
      use1 𝓛 (‵ (part name k full_share 0) ⊛ ‵ (roster name (suc k) [])) (entries_take halved 𝓛 name k (λ _. (full_share, 0))) $ split ! $
      use1 𝓛 (raw (upd 𝓤 (sep 𝓤 ⟦ part name k quarter 0 ⟧ ⟦ part name k three_quarters 0 ⟧))) (resets 𝓛 name k 0 0) $
      settle 𝓛 Z (‵ (part name k quarter 0) ⊛ ‵ (part name k three_quarters 0)) $ split ! $ move ! (2 ∷ []) $
      use1 𝓛 (raw (upd 𝓤 (sep 𝓤 ⟦ roster name (suc k) more ⟧ ⟦ pens_own name (suc k) n ⟧))) (rowed name n (suc k)) $
      settle 𝓛 Z (‵ (roster name (suc k) more) ⊛ ‵ (pens_own name (suc k) n)) $ split ! $
      suffices ! _ (upd_i 𝓤 Z) $ move ! (2 ∷ 1 ∷ []) $ fjoin ! $ move ! (2 ∷ 1 ∷ []) $ fjoin ! $ done !

  -- the first part leaves the row
  pub one_part : (name k n : ℕ) → 0 < n
      → ent 𝓤 ⟦ pens_own name k n ⟧ (sep 𝓤 ⟦ tally_owns name k true 0 ⟧ ⟦ pens_own name (k + 1) (n - 1) ⟧)
  unfolding tally_owns
  one_part name k zero lt = absurd (omega (arith, lt))
  one_part name k (suc n) lt =
      let on : suc k ≡ k + 1 = omega arith in let less : n ≡ suc n - 1 = omega arith in
      subst (λ (t : ℕ × ℕ). ent 𝓤 ⟦ pens_own name k (suc n) ⟧ (sep 𝓤 ⟦ part name k quarter 0 ⟧ ⟦ pens_own name t.0 t.1 ⟧))
      (λ i. (on i, less i)) (id⊢ 𝓤 _)

  -- a part that is with a step is nothing
  pub no_part : (name k calls : ℕ) → ent 𝓤 (emp 𝓤) ⟦ tally_owns name k false calls ⟧
  unfolding tally_owns
  no_part name k calls = id⊢ 𝓤 (emp 𝓤)

  module _ {S : Type 0} (number_of : S → ℕ) where
    -- what there is of a log that has just begun
    abbrev pub Begun : S → ℕ → ℕ → Pr
    Begun first values name = sep 𝓤 ⟦ keeps_tallies number_of (name ∷ []) ((first, values) ∷ []) ⟧ ⟦ pens_own name 0 values ⟧

    -- it can be made
    pub begins : (first : S) (values : ℕ) → ent 𝓤 (emp 𝓤) (H.⇛ (ex 𝓤 (Begun first values)))
    begins first values = qed 𝓛 [] ∵ updating ! $
        use0 𝓛 (later (some (λ (name : ℕ). ‵ (roster name 0 [])))) (via 𝓤 _ (entries_new halved 𝓛 0 (λ _. (full_share, 0))) (basic 𝓛 _)) $
        await ! tt $ pick ! (λ name.
        use1 𝓛 (later (‵ (roster name 0 (replicate values (0, true))) ⊛ ‵ (pens_own name 0 values))) (via 𝓤 _ (rowed name values 0) (basic 𝓛 _)) $
        await ! tt $ split ! $ rewrite ! 0 (λ (c : List Cell). ‵ (roster name 0 c)) (tallies_begin number_of first values) refl $
        now ! $ show ! (Begun first values) name $ done !)

    module _ (any : S) (name : ℕ) (ask : Entry S) (calls : ℕ) where
      abbrev keeps : List (Entry S) → Fml
      keeps = keeps_tallies number_of (name ∷ [])

      abbrev gains : ℕ → Fml
      gains = gains_tally (name ∷ []) (known any (number_asked number_of ask) (calls_asked ask calls))

      abbrev N : List (Entry S) × List (Entry S) × ℕ → Pr
      N t = wand 𝓤 ⟦ keeps t.0 ⟧ (upd 𝓤 (sep 𝓤 ⟦ keeps t.1 ⟧ ⟦ gains t.2 ⟧))

      -- with both parts a step changes the number
      trades : (before after : List (Entry S)) (answer : ℕ) → IsDone number_of ask before after answer
          → ent 𝓤 ⟦ tally_owns name (number_asked number_of ask) true calls ⟧ (N (before, after, answer))
      unfolding tally_owns
      trades before after answer did =
          let k : ℕ = number_asked number_of ask in let cells : List Cell = tallies number_of before in let n : ℕ = (cell cells k).0 in
          let at = tally_at number_of before k did.few in
          let Z : Pr = sep 𝓤 ⟦ keeps after ⟧ ⟦ gains answer ⟧ in let new : List Cell = slice_set cells k (answer, true) in
          qed 𝓛 (‵ (part name k quarter calls) ∷ []) ∵ assume ! (‵ (roster name 0 cells)) $
          use1 𝓛 (‵ (part name k three_quarters n) ⊛ raw (all 𝓤 (Reset 𝓛 name 0 cells k k)))
          (at_home 𝓛 name cells 0 k k (omega arith) (omega (arith, did.few, length_tallies number_of before)) (ap (λ (c : Cell). c.1) at)) $
          split ! $ move ! (2 ∷ 0 ∷ []) $
          use2 𝓛 (given (calls ≡ n) (‵ (part name k full_share calls))) (joined 𝓛 name k calls n) $ learn ! (λ same.
          use1 𝓛 (raw (upd 𝓤 (sep 𝓤 ⟦ part name k quarter answer ⟧ ⟦ part name k three_quarters answer ⟧))) (resets 𝓛 name k calls answer) $
          settle 𝓛 Z (‵ (part name k quarter answer) ⊛ ‵ (part name k three_quarters answer)) $ split ! $ move ! (2 ∷ []) $
          use1 𝓛 (raw (Reset 𝓛 name 0 cells k k answer)) (all_e 𝓤 (Reset 𝓛 name 0 cells k k) answer) $ move ! (2 ∷ 0 ∷ []) $
          use2 𝓛 (‵ (roster name 0 new)) (apply∗ 𝓤 ⟦ part name k three_quarters answer ⟧ ⟦ roster name 0 new ⟧) $
          suffices ! _ (upd_i 𝓤 Z) $
          rewrite ! 0 (λ (c : List Cell). ‵ (roster name 0 c)) (tallies_done number_of ask before after answer did) refl $ frame ! $
          nothing ! $ fpack ! (answer ≡ calls_asked ask calls) (λ _. ftrue)
          (answer_is number_of ask before after answer did ∙ ap (λ (m : ℕ). calls_asked ask m) (sym (same ∙ ap (λ (c : Cell). c.0) at))) $
          fjoin ! $ done !)

      -- so a value's part is an offer to a step
      pub offers : ent 𝓤 ⟦ tally_owns name (number_asked number_of ask) true calls ⟧ ⟦ offer keeps (IsDone number_of ask) gains ⟧
      offers =
          all_i 𝓤 (λ (t : List (Entry S) × List (Entry S) × ℕ). all 𝓤 (λ (_ : IsDone number_of ask t.0 t.1 t.2). N t))
          (λ t. all_i 𝓤 (λ (_ : IsDone number_of ask t.0 t.1 t.2). N t) (λ did. trades t.0 t.1 t.2 did))
