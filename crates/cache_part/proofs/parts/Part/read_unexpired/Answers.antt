use Rattle.std.proofs.Common.{◌≡◌, ◌+◌, refl, ap, ◌∙◌, subst, arith}
use Rattle.cache_part.specs.Keys.{row_of}
use Rattle.cache_part.specs.Looks.{LooksOnly}
use Rattle.cache_part.specs.Visiting.{has_unexpired}
use Rattle.cache_part.proofs.LookLemmas.{looks_keep}
use Rattle.cache_part.proofs.PartLemmas.{cursor_kept, first_kept, part_kept}
use Rattle.cache_part.proofs.ViewLemmas.{book_alone}
use Rattle.cache_part.proofs.parts.Part.read_unexpired.Goals as goal

pub invariant_of-self : goal.invariant_of-self
invariant_of-self g c =
    let from = c.self.inside.lists in let left = c.read_unexpired.new.lists in
    let keeps = looks_keep from.book left.book c.read_unexpired.ensures.looks in (
      part_kept c.self.inside.settings.seed c.self.inside.settings.key_words from.book left.book c.self.inside.index.table
          c.self.invariant.0 keeps,
      c.self.invariant.1,
      cursor_kept c.self.inside.cursor from.book left.book keeps.class c.self.invariant.2,
      first_kept c.self.inside.index.first from.book left.book keeps.class c.self.invariant.3,
    )

pub returns : goal.returns
returns g c =
    let is = c.self.view_is in let left = c.read_unexpired.new.lists in let did = c.read_unexpired.ensures in
    record {
      told = subst (λ v. c.read_unexpired.result ≡ has_unexpired c.args.now v.book.sheet c.args.chunk) is did.told;
      read = λ told. did.read told
          ∙ (ap (λ n. row_of n c.self.inside.lists.book.sheet c.args.chunk) (omega (arith, c.requires.row))
          ∙ ap (λ v. row_of (c.args.self.now.key_words + c.args.self.now.value_words) v.book.sheet c.args.chunk) is);
      stays = did.stays;
      looks = subst (λ v. LooksOnly v.book left.book) is did.looks;
      rest = book_alone _ _ left c.self.inside.index.table is did.rest refl;
    }
