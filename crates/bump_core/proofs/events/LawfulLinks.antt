-- The events of links leave a lawful state lawful: the next item's label and time, and the link.
use Rattle.std.proofs.Common.{◌≡◌, ℕ, true, false, refl, arith, ◌<◌, length, ◌+◌, cond, eqb, Bool, Some, sym, ap, ◌∙◌, subst}
use Rattle.bump_rules.specs.declared.events.Event.TheVariants as event
use Rattle.model_state.specs.State.{State, head_at, chunk_at, class_at}
use Rattle.model_state.specs.Events.{next_chunk, may_link, is_enabled, after, with_time, with_label, next_life, link, link_next}
use Rattle.model_state.specs.Worlds.{references, first_hits_of, place, IsLawful, owns}
use Rattle.model_state.proofs.Enabled.{next_from, lawful_by_some}
use Rattle.bump_core.proofs.worlds.Frames.{time_lawful, label_lawful}
use Rattle.std.proofs.lemmas.Bool.{both_ways}
use Rattle.bump_rules.specs.declared.items.Head.{Head}
use Rattle.bump_rules.specs.declared.history.Change.{Change}
use Rattle.bump_rules.specs.declared.items.ItemId.{ItemId}
use Rattle.bump_rules.specs.declared.places.Place.{Place}
use Rattle.bump_rules.specs.declared.places.Start.{Start}
use Rattle.bump_rules.specs.Starts.{begun_change}
use Rattle.bump_rules.specs.Lawful.{Lawful}
use Rattle.bump_rules.proofs.Beginnings.{begun_subject, begun_target, begun_quiet}
use Rattle.model_state.specs.declared.chunks.Chunk.{Chunk}
use Rattle.bump_rules.specs.Heads.{linked_head}
use Rattle.model_state.proofs.Tiles.{class_owns}
use Rattle.model_state.proofs.Fronts.{next_front}
use Rattle.model_state.proofs.LawfulStates.{unused_shown, held_by, held_here, unused_unreferred, waiting_linked}
use Rattle.bump_rules.proofs.Laws.{born}
use Rattle.bump_core.proofs.events.Moves.{change_lawful}

-- where a life has no holds it has none under another head
held_none : (x : Chunk) (h : Head) → ((g : ℕ) → held_by x g ≡ 0) → (g : ℕ) → held_by (record x { head = h }) g
    ≡ held_by x g
held_none x h none g = by (eqb h.generation g) ∙ sym (none g)
  where
    empty : x.holds ≡ 0
    empty = sym (held_here x) ∙ none x.head.generation

    by : (b : Bool) → cond b x.holds 0 ≡ 0
    by true = empty
    by false = refl

-- The events.

-- the label of the next item of a class is stored
pub after_put_label : (s : State) (k x : ℕ) → IsLawful s → is_enabled s (event.PutLabel k x) ≡ true
    → IsLawful (after s (event.PutLabel k x))
after_put_label s k x o enabled = let next = next_from s k enabled in
    lawful_by_some (λ c. with_label s c x) s (next_chunk s k) next.0 next.2 (label_lawful s next.0 x o)

-- the time of the next item of a class is stored
pub after_put_time : (s : State) (k t : ℕ) → IsLawful s → is_enabled s (event.PutTime k t) ≡ true
    → IsLawful (after s (event.PutTime k t))
after_put_time s k t o enabled = let next = next_from s k enabled in
    lawful_by_some (λ c. with_time s c t) s (next_chunk s k) next.0 next.2 (time_lawful s next.0 t o)

-- a link keeps a World lawful, wherever the life begins
pub after_link : (s : State) → IsLawful s → (a : Start) (k : ℕ) → may_link s k ≡ true → IsLawful (link_next s a k)
after_link s o a k enabled = let next = next_from s k enabled in
    lawful_by_some (link s a k) s (next_chunk s k) next.0 next.2 (linked next.0 next.1 next.2)
  where
    linked : (c : ℕ) → k < length s.classes → next_chunk s k ≡ Some c → IsLawful (link s a k c)
    linked c within next =
        let at = next_front s o k c within next in
        let off = (unused_shown s o c at.2).0 in
        let none = unused_unreferred s o c at.2 in
        let own = subst (λ (j : ℕ). owns (class_at s j) c ≡ true) at.0 (class_owns s o.tiles c at.1) in
        let h : Head = linked_head a ((head_at s c).generation + 1) in
        let e : Change = begun_change a (next_life s c) in
        let of = begun_subject a (next_life s c) in
        change_lawful s o c h k e within own (ap (λ (l : ItemId). l.chunk) of)
        (λ g. held_none (chunk_at s c) h (λ n. omega (arith, none n)) g)
        (subst (λ (p : Place). Lawful s.refs_limit h p (references s c) (first_hits_of s c))
        (sym (begun_target a (next_life s c)))
        (born s.refs_limit (head_at s c) (place s c) (references s c) (first_hits_of s c) (o.chunks c) a at.2 o.limit))
        (ap (λ (l : ItemId). l.generation) of)
        (begun_quiet a (next_life s c))
        (λ w w_in b is same. both_ways (head_at s c).linked off (subst (λ (d : ℕ). (head_at s d).linked
        ≡ true) same (waiting_linked s o w b w_in is).0))
