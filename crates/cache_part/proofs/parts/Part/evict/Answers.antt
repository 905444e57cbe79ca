use Rattle.std.proofs.Common.{suc, ◌+◌, refl, sym, ap, ◌∙◌, rules, subst, IfSome, true}
use Rattle.cache_lists.specs.Items.{EndsAt}
use Rattle.cache_part.specs.Parts.{PartView}
use Rattle.cache_part.specs.Putting.{TellsRow}
use Rattle.cache_part.proofs.EvictingLemmas.{ended_at, evicts_next}
use Rattle.cache_part.proofs.PartLemmas.{cursor_kept}
use Rattle.cache_part.proofs.RoomLemmas.{evicted_class}
use Rattle.cache_part.proofs.ViewLemmas.{both_stay}
use Rattle.cache_part.proofs.parts.Part.evict.Goals as goal

pub evict_next-requires : goal.evict_next-requires
evict_next-requires g c = record {
  part = c.self.invariant.0;
  first = c.self.invariant.3;
  told = c.requires.told ∙ sym (ap (λ (v : PartView). suc (v.key_words + v.value_words)) c.self.view_is);
  few = c.self.invariant.1;
}

pub invariant_of-self : goal.invariant_of-self
invariant_of-self g c = (
  c.evict_next.ensures.part,
  c.self.invariant.1,
  cursor_kept c.self.inside.cursor c.self.inside.lists.book c.evict_next.new.lists.book
      (evicted_class c.evict_next.result c.self.inside.lists.book c.evict_next.new.lists.book c.evict_next.ensures.ends)
      c.self.invariant.2,
  c.evict_next.ensures.first,
)

pub returns : goal.returns
returns g c =
    let is = c.self.view_is in let left = c.evict_next.new.lists in let did = c.evict_next.ensures in
    let evicted = c.evict_next.result in let to = c.evict_next.new.index in record {
      evicts = evicts_next evicted c.args.most c.args.now _ _ c.args.lanes.now left c.evict_next.new.lanes
          c.self.inside.index to is did.evicts did.none did.still did.index refl;
      ends = subst (λ (v : PartView). IfSome evicted (λ chunk. EndsAt chunk v.book left.book)) is
          (ended_at evicted c.self.inside.lists.book left.book did.ends);
      told = subst (λ (v : PartView). TellsRow true evicted c.args.told.now c.evict_next.new.told v) is did.told;
      length = search rules;
      rest = both_stay _ _ left to.table is;
    }
