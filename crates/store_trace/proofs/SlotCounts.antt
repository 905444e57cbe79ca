-- As many workers as their rings.
use Rattle.std.proofs.Common.{◌≡◌, List, length, sym, ap, ◌∙◌}
use Rattle.std.proofs.lemmas.List.{length-map}
use Rattle.store_trace.specs.Slots.{slot_ring, slot_rings}
use Rattle.store_trace.specs.declared.slots.Slot.{Slot}

module _ {N : Type 0} where
  -- workers that have the same rings are as many
  pub as_many_slots : (slots others : List (Slot N)) → slot_rings slots ≡ slot_rings others → length slots ≡ length others
  as_many_slots slots others same = sym (length-map slots slot_ring) ∙ ap length same ∙ length-map others slot_ring
