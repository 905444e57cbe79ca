use Rattle.std.proofs.Common.{suc, sym, ap, ◌∙◌, rules, subst, true}
use Rattle.cache_part.specs.Looks.{LooksOnly}
use Rattle.cache_part.specs.Parts.{IsItem}
use Rattle.cache_part.specs.Putting.{TellsOld}
use Rattle.cache_part.proofs.LookLemmas.{looks_keep}
use Rattle.cache_part.proofs.PartLemmas.{cursor_kept, first_kept, part_looked}
use Rattle.cache_part.proofs.ViewLemmas.{book_alone}
use Rattle.cache_part.proofs.parts.Part.look.Goals as goal

pub look-requires : goal.look-requires
look-requires g c = record {
  part = c.self.invariant.0;
  words = c.requires.key ∙ sym (ap (λ v. v.key_words) c.self.view_is);
  told = c.requires.told ∙ sym (ap (λ v. suc v.value_words) c.self.view_is);
  few = c.self.invariant.1;
}

pub invariant_of-self : goal.invariant_of-self
invariant_of-self g c =
    let from = c.self.inside.lists.book in let left = c.look.new.lists.book in
    let class = (looks_keep from left c.look.ensures.looks).class in (
      part_looked c.self.inside.settings.seed c.self.inside.settings.key_words from left c.self.inside.index
          c.look.new.index c.self.invariant.0 c.look.ensures.looks c.look.ensures.index,
      c.self.invariant.1,
      cursor_kept c.self.inside.cursor from left class c.self.invariant.2,
      ap (λ i. i.first) c.look.ensures.index ∙ first_kept c.self.inside.index.first from left class c.self.invariant.3,
    )

pub returns : goal.returns
returns g c =
    let is = c.self.view_is in let left = c.look.new.lists in record {
      item = subst (λ v. IsItem c.args.key.now c.look.result v) is c.look.ensures.item;
      told = subst (λ v. TellsOld true c.look.result c.args.told.now c.look.new.told v) is c.look.ensures.told;
      length = search rules;
      reads = record {
        looks = subst (λ v. LooksOnly v.book left.book) is c.look.ensures.looks;
        rest = book_alone _ _ left c.look.new.index.table is c.look.ensures.rest (ap (λ i. i.table) c.look.ensures.index);
      };
    }
