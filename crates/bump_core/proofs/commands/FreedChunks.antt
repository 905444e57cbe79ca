-- Where the chunks of ends and sweeps stand: each entry that they make is of a chunk of the class's lists.
use Rattle.std.proofs.Common.{◌≡◌, ℕ, ◌<◌, true, length, sym, ap, ◌∙◌, subst}
use Rattle.std.proofs.lemmas.Bool.{and_parts}
use Rattle.bump_rules.specs.declared.items.ItemId.{ItemId}
use Rattle.bump_rules.specs.declared.history.Change.{Change}
use Rattle.bump_rules.specs.History.{subject, freed_change}
use Rattle.bump_rules.specs.Lists.{IsListed}
use Rattle.model_state.specs.State.{State, head_at, class_at, class_of, is_current, is_linked}
use Rattle.model_state.specs.Worlds.{IsLawful}
use Rattle.model_state.proofs.Enabled.{current_from}
use Rattle.model_state.proofs.Fronts.{listed_at}
use Rattle.bump_rules.proofs.Unlinks.{freed_subject}

-- a linked life is its chunk's, which is in range and linked
pub linked_from : (s : State) (l : ItemId) → is_linked s l ≡ true → (l.chunk < length s.chunks)
    × ((head_at s l.chunk).generation ≡ l.generation) × ((head_at s l.chunk).linked ≡ true)
linked_from s l is = let both = and_parts (is_current s l) (head_at s l.chunk).linked is in
    let current = current_from s l both.0 in (current.0, current.1, both.1)

module _ (s : State) (o : IsLawful s) (l : ItemId) (k : ℕ) (in_range : l.chunk < length s.chunks) (of : k
    ≡ class_of s l.chunk) where
  -- the chunk of a life that ends stands in a list of its class
  pub ending_listed : IsListed l.chunk (class_at s k).lists
  ending_listed = listed_at s o l.chunk k in_range of

  -- and so does the chunk of the entry by which it is free
  pub freed_listed : (e : Change) → e ≡ freed_change l → IsListed (subject e).chunk (class_at s k).lists
  freed_listed e is = subst (λ (m : ItemId). IsListed m.chunk (class_at s k).lists) (sym (ap subject is
      ∙ freed_subject l)) ending_listed
