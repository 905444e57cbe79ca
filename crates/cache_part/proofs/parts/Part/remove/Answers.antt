use Rattle.std.proofs.Common.{suc, IfSome, IfNone, refl, sym, ap, ◌∙◌, rules, subst, true}
use Rattle.bump_rules.specs.Lists.{all_without}
use Rattle.cache_lists.specs.Items.{EndsAt}
use Rattle.cache_lists.specs.Segments.{SameSegments}
use Rattle.cache_part.specs.Looks.{LooksOnly}
use Rattle.cache_part.specs.Parts.{IsUnder, IsUnknown}
use Rattle.cache_part.specs.Putting.{TellsOld}
use Rattle.cache_part.proofs.PartLemmas.{cursor_kept, first_kept}
use Rattle.cache_part.proofs.ViewLemmas.{evictions_stay, none_changes, removes_item}
use Rattle.cache_part.proofs.parts.Part.remove.Goals as goal

pub remove-requires : goal.remove-requires
remove-requires g c = record {
  part = c.self.invariant.0;
  words = c.requires.key ∙ sym (ap (λ v. v.key_words) c.self.view_is);
  told = c.requires.old ∙ sym (ap (λ v. suc v.value_words) c.self.view_is);
  few = c.self.invariant.1;
}

pub invariant_of-self : goal.invariant_of-self
invariant_of-self g c = (
  c.remove.ensures.part,
  c.self.invariant.1,
  cursor_kept c.self.inside.cursor c.self.inside.lists.book c.remove.new.lists.book c.remove.ensures.class
      c.self.invariant.2,
  c.remove.ensures.first ∙ first_kept c.self.inside.index.first c.self.inside.lists.book c.remove.new.lists.book
      c.remove.ensures.class c.self.invariant.3,
)

pub returns : goal.returns
returns g c =
    let is = c.self.view_is in let did = c.remove.ensures in let told = c.remove.result in
    let left = c.remove.new.lists in record {
      removes = removes_item told c.args.key.now _ _
          (subst (λ v. IfSome told (λ chunk. IsUnder c.args.key.now chunk v)) is did.found)
          (subst (λ v. IfSome told (λ chunk. EndsAt chunk v.book left.book)) is did.ends)
          (subst (λ v. IfSome told (λ chunk. SameSegments (all_without chunk v.book.lists) left.book.lists)) is did.others)
          (subst (λ v. IfNone told (IsUnknown c.args.key.now v)) is did.none)
          (subst (λ v. IfNone told (LooksOnly v.book left.book)) is did.looks)
          (none_changes told _ _ left c.self.inside.index c.remove.new.index is did.rest did.index refl);
      told = subst (λ v. TellsOld true told c.args.old.now c.remove.new.told v) is did.told;
      length = search rules;
      rest = evictions_stay _ _ left c.remove.new.index.table is did.evictions;
    }
