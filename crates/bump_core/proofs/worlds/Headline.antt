-- What the headline says follows from that a World is lawful.
use Rattle.std.proofs.Common.{◌≡◌, ℕ, ◌<◌, ◌&&◌, Bool, true, List, ◌++◌, length, refl, sym, ap, ◌∙◌, subst, arith}
use Rattle.bump_rules.specs.declared.places.Place.{Place}
use Rattle.bump_rules.specs.declared.places.Place.TheVariants.{Unused, Retired}
use Rattle.bump_rules.specs.declared.bumps.Bump.{Bump}
use Rattle.bump_core.specs.Headline.{Headline, AppliesInOrder, StandsInList}
use Rattle.bump_rules.specs.History.{is_place}
use Rattle.bump_rules.specs.Lawful.{bit, IsUsed, Shows}
use Rattle.bump_links.specs.Lists.{times}
use Rattle.bump_rules.specs.Lists.{list_at, times_in_all}
use Rattle.model_state.specs.Rings.{in_ring, IsWorker}
use Rattle.bump_rules.specs.Rings.{numbered_from}
use Rattle.model_state.specs.State.{State, WorkerState, class_at, head_at, worker_at}
use Rattle.model_state.specs.Worlds.{owns, place, place_in, stands_in, is_of_class, IsLawful}
use Rattle.model_state.proofs.LawfulStates.{referred_in_range, referred_used}
use Rattle.model_state.proofs.Fronts.{times_in, listed, never_at}
use Rattle.bump_core.proofs.worlds.TrueEntries.{named_once, move_shown, not_named, true_entry}
use Rattle.model_state.proofs.Ring.{numbered_append}
use Rattle.bump_rules.proofs.MovesOf.{moves_as_told}
use Rattle.bump_rules.proofs.Standings.{other_place, once_in_places}

-- a lawful worker's lane applies what its ring accepted, in order
pub applies_in_order : (capacity : ℕ) (x : WorkerState) → IsWorker capacity x → AppliesInOrder x
applies_in_order capacity x p =
    ap (λ (bs : List Bump). bs ++ numbered_from (length x.received) (in_ring x)) p.applied
    ∙ (sym (numbered_append 0 x.received (in_ring x) (length x.received) (omega arith))
    ∙ ap (numbered_from 0) (sym p.ring.prefix))

-- a chunk of a class stands once in its seven lists
pub once_in_all : (s : State) → IsLawful s → (k c : ℕ) → k < length s.classes → owns (class_at s k) c ≡ true
    → times_in_all c (class_at s k).lists ≡ 1
once_in_all s o k c within own = once_in_places (place_in (class_at s k) c)
    (λ q. times c (list_at (class_at s k).lists q)) at
  where
    at : (q : Place) → times c (list_at (class_at s k).lists q) ≡ bit (is_place (place_in (class_at s k) c) q)
    at q = times_in s o k c q within ∙ ap (λ (b : Bool). bit (b && is_place (place_in (class_at s k) c) q)) own

-- how a chunk stands to a list of a class
pub stands_to : (s : State) → IsLawful s → (k c : ℕ) (q : Place) → k < length s.classes → StandsInList s k c q
stands_to s o k c q within = record {
  listed = times_in s o k c q within;
  shown = λ some. subst (Shows (head_at s c)) (listed s o k c q within some).2 (o.chunks c).shown;
  generation = λ some. sym (o.generations c) ∙ ap (λ (j : ℕ). (stands_in (class_at s j) c).1)
      (listed s o k c q within some).0;
}

-- a lawful World is as the headline says
pub headline : (s : State) → IsLawful s → Headline s
headline s o = record {
  in_order = λ w within. applies_in_order s.capacity (worker_at s w) (o.workers w within);
  rings = λ w within. (o.workers w within).ring;
  accounts = λ w within. (o.workers w within).accounts;
  none_free = λ c g some.
      let within = referred_in_range s o c g some in
      let used = referred_used s o c g some in (
        never_at s o c (place s c) Unused within refl (other_place (place s c) Unused (λ e. subst IsUsed e used)),
        never_at s o c (place s c) Retired within refl (other_place (place s c) Retired (λ e. subst IsUsed e used)),
      );
  stands = stands_to s o;
  once = once_in_all s o;
  causes = λ k within. (o.classes k within).causes;
  moves = o.moves;
  moves_in_all = λ k w within. moves_as_told w (is_of_class s k (λ l. true)) (class_at s k).history
      (worker_at s w).applied (worker_at s w).lane (o.classes k within).causes (λ n. o.moves k w n (λ l. true));
  named_once = named_once s o;
  shown = λ k w n l within has. move_shown s o k w n l has;
  unmoved = λ w a within has stays. not_named s o w a has stays;
  entries = true_entry s o;
}
