use Rattle.std.proofs.Common.{suc, ◌+◌, refl, sym, ap, ◌∙◌, rules, subst, IfSome, true}
use Rattle.bump_rules.specs.Lists.{all_without}
use Rattle.cache_lists.specs.Items.{EndsAt}
use Rattle.cache_lists.specs.Segments.{SameSegments}
use Rattle.cache_part.specs.Expiring.{looks_of}
use Rattle.cache_part.specs.Parts.{PartView}
use Rattle.cache_part.specs.Putting.{TellsRow}
use Rattle.cache_part.specs.Taking.{FindsNext}
use Rattle.cache_part.proofs.TakingLemmas.{taken_at, taken_ends, taken_others}
use Rattle.cache_part.proofs.ViewLemmas.{cursor_moves}
use Rattle.cache_part.proofs.parts.Part.take_expired.Goals as goal

pub take_expired-next-requires : goal.take_expired-next-requires
take_expired-next-requires g c = record {
  part = c.self.invariant.0;
  first = c.self.invariant.3;
  cursor = c.self.invariant.2;
  told = c.requires.told ∙ sym (ap (λ (v : PartView). suc (v.key_words + v.value_words)) c.self.view_is);
  few = c.self.invariant.1;
}

pub invariant_of-self : goal.invariant_of-self
invariant_of-self g c = (
  c.take_expired-next.ensures.part,
  c.self.invariant.1,
  c.take_expired-next.ensures.within,
  c.take_expired-next.ensures.first,
)

pub returns : goal.returns
returns g c =
    let is = c.self.view_is in let left = c.take_expired-next.new.lists in let did = c.take_expired-next.ensures in
    let now = c.args.now in let most = c.args.most in let next = c.take_expired-next.result in
    let to = c.take_expired-next.new.index in record {
      takes = record {
        finds = subst (λ (v : PartView). FindsNext (looks_of most v.book) v.cursor now next.chunk next.cursor v.book) is
            did.finds;
        ends = taken_ends next.chunk now _ _ left c.self.inside.index to next.cursor is did.ends did.looks did.rest
            did.index refl;
      };
      ends = subst (λ (v : PartView). IfSome next.chunk (λ chunk. EndsAt chunk v.book left.book)) is
          (taken_at next.chunk now c.self.inside.lists left did.ends);
      others = subst (λ (v : PartView). IfSome next.chunk (λ chunk. SameSegments (all_without chunk v.book.lists)
          left.book.lists)) is (taken_others next.chunk now c.self.inside.lists left did.ends);
      told = subst (λ (v : PartView). TellsRow true next.chunk c.args.told.now c.take_expired-next.new.told v) is did.told;
      length = search rules;
      rest = cursor_moves _ _ left to.table next.cursor is;
    }
