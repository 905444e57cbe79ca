-- Ends, sweeps and closings are their events.
use Rattle.std.proofs.Common.{rules, ◌≡◌, ℕ, ◌<◌, ◌≤◌, ◌≢◌, eqb, Bool, true, false, not, ◌&&◌, ◌||◌, List, [], ◌∷◌, length, Some, if◌then◌else◌, refl, sym, ap, ◌∙◌, subst, arith, ne_eqb}
use Rattle.std.proofs.lemmas.Bool.{and_parts, and_from, ltb-true, lt-ltb, not-true, cond-false}
use Rattle.std.proofs.lemmas.List.{get_or-set_same, length-set}
use Rattle.std.specs.List.{list_any}
use mathlib.Core.Logic.{dite}
use native.Mathlib.Decide.{ℕ_discrete}
use Rattle.bump_rules.specs.declared.places.Place.TheVariants.{Dying}
use Rattle.bump_rules.specs.declared.items.ItemId.{ItemId}
use Rattle.bump_rules.specs.declared.items.Head.{Head}
use Rattle.bump_rules.specs.declared.bumps.Ended.{Ended}
use Rattle.bump_rules.specs.declared.bumps.Ended.TheVariants.{Freed, Deferred}
use Rattle.bump_rules.specs.declared.history.Change.{Change}
use Rattle.bump_rules.specs.declared.history.Change.TheVariants as change
use Rattle.bump_rules.specs.declared.events.Event.TheVariants as event
use Rattle.bump_rules.specs.declared.commands.Command.TheVariants as command
use Rattle.bump_rules.specs.Lives.{life}
use Rattle.bump_rules.specs.Heads.{unlinked_head}
use Rattle.bump_rules.specs.History.{Standing, target, is_place, freed_change}
use Rattle.bump_links.specs.Lists.{times}
use Rattle.bump_rules.specs.Lists.{list_at, to_front}
use Rattle.bump_rules.proofs.Laws.{bit_at_most}
use Rattle.bump_rules.proofs.PlainLists.{times_same, times_rest}
use Rattle.bump_rules.specs.Tables.{is_unheld, ended_of}
use Rattle.model_state.specs.State.{State, chunk_at, head_at, class_at, no_chunk, no_class, is_class, with_head, with_change, with_changes, class_with_change, class_of, is_linked, is_under_application}
use Rattle.model_state.specs.Worlds.{IsLawful, owns, place, place_in}
use Rattle.model_state.specs.Events.{is_enabled, after, unlink, close}
use Rattle.bump_core.specs.Runs.{run_of}
use Rattle.bump_core.specs.Commands.{is_allowed, events_of, command_after, unlinked_as, with_chunk_freed, unlink_item, look_of, unlink_events, looks_at}
use Rattle.bump_rules.specs.Sweeps.{unheld, swept_changes, swept_of}
use Rattle.bump_rules.proofs.SixLists.{times_front}
use Rattle.model_state.proofs.Tiles.{class_within}
use Rattle.bump_core.proofs.events.Moves.{stands_pushed}
use Rattle.bump_core.proofs.events.Runs.{run_step}
use Rattle.model_state.proofs.Fronts.{once_at, listed, times_in}
use Rattle.bump_core.proofs.worlds.StaysLawful.{lawful_after}
use Rattle.bump_core.proofs.commands.ChangedLists.{class_of_kept, application_kept, no_changes, changes_more}
use Rattle.bump_core.proofs.commands.FreedChunks.{linked_from}
use Rattle.bump_rules.proofs.Unlinks.{freed_subject}

-- an end that comes to Freed found nobody who holds the chunk, and else somebody does
pub ended_freed : (h : Head) → ended_of h ≡ Freed → is_unheld h ≡ true
ended_freed h is = search rules

-- A chunk of DYING, while no lane applies a bump of its class.
module _ (s : State) (o : IsLawful s) (c : ℕ) (in_range : c < length s.chunks) (dying : place s c
    ≡ Dying) (rest : is_under_application s (class_of s c) ≡ false) where
  -- it may be swept where nobody holds it
  pub may_sweep : is_unheld (head_at s c) ≡ true → is_enabled s (event.Sweep c) ≡ true
  may_sweep free = and_from _ _ (lt-ltb 0 _ (let once = once_at s o c Dying in_range dying in omega (arith, once)))
      (and_from _ _ free (ap not rest))

  -- a look at it is a sweep where nobody holds it
  pub look_made : (l : ItemId) (e : Ended) → l.chunk ≡ c → (head_at s c).generation ≡ l.generation
      → ended_of (head_at s c) ≡ e → run_of s (look_of c e ∷ []) ≡ Some (with_chunk_freed s l e)
  look_made l Deferred of generation comes = run_step s s (event.Load c) [] (lt-ltb c (length s.chunks) in_range) refl
  look_made l Freed of generation comes = run_step s (with_chunk_freed s l Freed) (event.Sweep c) []
      (may_sweep (ended_freed (head_at s c) comes))
      (ap (λ (m : ItemId). with_change s (class_of s m.chunk) (freed_change m)) (λ i. life (sym of i) (generation i)))

-- A linked life, while no lane applies a bump of its class.
module _ (s : State) (o : IsLawful s) (l : ItemId) (linked : is_linked s l ≡ true) (rest : is_under_application s
    (class_of s l.chunk) ≡ false) where
  -- its number, its class, its chunk and the entry of its end
  abbrev c : ℕ
  c = l.chunk

  abbrev k : ℕ
  k = class_of s l.chunk

  abbrev t : State
  t = unlink s l

  may_unlink : is_enabled s (event.Unlink l) ≡ true
  may_unlink = and_from _ _ linked (ap not rest)

  -- its chunk is DYING when it is unlinked
  unlinked_dying : place t c ≡ Dying
  unlinked_dying = ap (λ (f : ℕ → ℕ). place_in (class_at t (f c)) c) (class_of_kept (with_head s c (unlinked_head
      (head_at s c))) k (change.Unlinked l))
      ∙ (ap (λ x. place_in x c) (get_or-set_same s.classes k (class_with_change (class_at s k)
      (change.Unlinked l)) no_class (class_within s o.tiles c (linked_from s l linked).0))
      ∙ ap (λ (at : Standing). at.0) (stands_pushed (class_at s k) (change.Unlinked l) c refl))

  -- its head is unlinked
  head_unlinked : head_at t c ≡ unlinked_head (head_at s c)
  head_unlinked = ap (λ x. x.head) (get_or-set_same s.chunks c (record (chunk_at s c) {
    head = unlinked_head (head_at s c);
  }) no_chunk (linked_from s l linked).0)

  -- it ends by its events
  pub end_made : run_of s (unlink_events s l) ≡ Some (unlink_item s l)
  end_made = run_step s t (event.Unlink l) (look_of c (unlinked_as s l) ∷ []) may_unlink refl
      ∙ look_made t (lawful_after s o (event.Unlink l) may_unlink) c
      (omega (
        arith,
        (linked_from s l linked).0,
        length-set s.chunks c (record (chunk_at s c) {
          head = unlinked_head (head_at s c);
        }),
      ))
      unlinked_dying
      (application_kept (with_head s c (unlinked_head (head_at s c))) k (change.Unlinked l) (class_of t c)
      ∙ (ap (λ (f : ℕ → ℕ). is_under_application s (f c)) (class_of_kept (with_head s c (unlinked_head
      (head_at s c))) k (change.Unlinked l)) ∙ rest))
      l (unlinked_as s l) refl (ap (λ h. h.generation) head_unlinked ∙ (linked_from s l linked).1)
      (ap ended_of head_unlinked)

-- an unlink of a linked life is its end
pub unlink_made : (s : State) → IsLawful s → (l : ItemId) → is_allowed s (command.Unlink l) ≡ true
    → run_of s (events_of s (command.Unlink l)) ≡ Some (command_after s (command.Unlink l))
unlink_made s o l allowed = search (rules, end_made s o l)

-- how often a chunk that isn't free stands in DYING when another one is free: as before
dying_else : (s : State) (k c d g : ℕ) → k < length s.classes → d ≢ c
    → times d (class_at (with_change s k (freed_change (life c g))) k).lists.dying ≡ times d (class_at s k).lists.dying
dying_else s k c d g within other = ap (λ x. times d x.lists.dying) (get_or-set_same s.classes k (class_with_change
    (class_at s k) e) no_class within)
    ∙ (ap (λ (m : ItemId). times d (list_at (to_front m.chunk (target e) (class_at s k).lists) Dying)) (freed_subject
    (life c g))
    ∙ (times_front d c (target e) Dying (class_at s k).lists
    ∙ cond-false (eqb c d) _ _ (ne_eqb c d (λ same. other (sym same)))))
  where
    e : Change
    e = freed_change (life c g)

-- The chunks of a list that stand in DYING of a class are swept in order, where no lane applies a bump of it.
abbrev Stand : State → ℕ → List ℕ → Type 0
Stand s k cs = (d : ℕ) → times d cs ≤ times d (class_at s k).lists.dying

abbrev Rests : State → ℕ → List ℕ → Type 0
Rests s k cs = list_any (λ c. is_unheld (head_at s c)) cs ≡ true → is_under_application s k ≡ false

-- the chunks of such a list are swept in order
sweeps : (s : State) (k : ℕ) (cs : List ℕ) → IsLawful s → k < length s.classes → Stand s k cs → Rests s k cs
    → run_of s (looks_at (head_at s) cs) ≡ Some (with_changes s k (swept_of (head_at s) cs))
sweeps s k [] o within stand rests = ap (λ (t : State). Some t) (sym (no_changes s k))
sweeps s k (c ∷ cs) o within stand rests = by (is_unheld (head_at s c)) refl
    (λ others. sweeps s k cs o within (λ d. omega (arith, stand d, times_rest d c cs)) others)
    (λ lawful others more. sweeps u k cs lawful (omega (
      arith,
      within,
      length-set s.classes k (class_with_change
          (class_at s k) e),
    )) others more)
  where
    e : Change
    e = freed_change (life c (head_at s c).generation)

    u : State
    u = with_change s k e

    at : (class_of s c ≡ k) × (c < length s.chunks) × (place s c ≡ Dying)
    at = listed s o k c Dying within (omega (arith, stand c, times_same c c cs refl))

    swept : after s (event.Sweep c) ≡ u
    swept = ap (λ (j : ℕ). with_change s j e) at.0

    -- where nobody holds the first, no lane applies a bump of the class
    rest : is_unheld (head_at s c) ≡ true → is_under_application s k ≡ false
    rest is = rests (ap (λ b. b || list_any (λ d. is_unheld (head_at s d)) cs) is)

    enabled : is_unheld (head_at s c) ≡ true → is_enabled s (event.Sweep c) ≡ true
    enabled is = may_sweep s o c at.1 at.2 (ap (λ (j : ℕ). is_under_application s j) at.0 ∙ rest is) is

    -- the others still stand in DYING when it is free
    others_stand : Stand u k cs
    others_stand d = dite (ℕ_discrete d c)
        (λ same. subst (λ (z : ℕ). times z cs ≤ times z (class_at u k).lists.dying) (sym same) (omega (
          arith,
          stand c,
          times_same c c cs refl,
          times_in s o k c Dying within,
          bit_at_most (owns (class_at s k) c && is_place
              (place_in (class_at s k) c) Dying),
        )))
        (λ ne. omega (arith, stand d, times_rest d c cs, dying_else s k c d (head_at s c).generation within ne))

    by : (b : Bool) → is_unheld (head_at s c) ≡ b
        → (Rests s k cs → run_of s (looks_at (head_at s) cs) ≡ Some (with_changes s k (swept_of (head_at s) cs)))
        → (IsLawful u → Stand u k cs → Rests u k cs → run_of u (looks_at (head_at s) cs)
        ≡ Some (with_changes u k (swept_of (head_at s) cs)))
        → run_of s (look_of c (if b then Freed else Deferred) ∷ looks_at (head_at s) cs)
        ≡ Some (with_changes s k (swept_changes (head_at s) (if b then c ∷ unheld (head_at s) cs else unheld
        (head_at s) cs)))
    by true is held free = run_step s u (event.Sweep c) (looks_at (head_at s) cs) (enabled is) swept
        ∙ (free (subst IsLawful swept (lawful_after s o (event.Sweep c) (enabled is))) others_stand
        (λ more. application_kept s k e k ∙ rest is)
        ∙ ap (λ (t : State). Some t) (changes_more s k e (swept_of (head_at s) cs) within))
    by false is held free = run_step s s (event.Load c) (looks_at (head_at s) cs) (lt-ltb c (length s.chunks) at.1) refl
        ∙ held (λ more. rests (ap (λ b. b || list_any (λ d. is_unheld (head_at s d)) cs) is ∙ more))

-- a sweep looks at each chunk of DYING once
pub sweep_made : (s : State) → IsLawful s → (k : ℕ) → is_allowed s (command.Sweep k) ≡ true
    → run_of s (events_of s (command.Sweep k)) ≡ Some (command_after s (command.Sweep k))
sweep_made s o k allowed =
    let both = and_parts (is_class s k) (not (list_any (λ c. is_unheld (head_at s c))
    (class_at s k).lists.dying) || not (is_under_application s k)) allowed in
    sweeps s k (class_at s k).lists.dying o (ltb-true k (length s.classes) both.0) (λ d. omega arith)
    (λ some. not-true _ (ap (λ b. not b || not (is_under_application s k)) (sym some) ∙ both.1))

-- a closing is its event
pub close_made : (s : State) (w : ℕ) → is_allowed s (command.Close w) ≡ true
    → run_of s (events_of s (command.Close w)) ≡ Some (command_after s (command.Close w))
close_made s w allowed = run_step s (close s w) (event.Close w) [] allowed refl
