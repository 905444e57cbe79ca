use Rattle.std.proofs.Common.{ℕ, ◌∙◌, subst, ◌≡◌}
use Rattle.cache_part.specs.Expiring.{HasNoneExpired, IsInTurn, KeepsUnexpired, looks_of, number_behind}
use Rattle.cache_part.specs.Parts.{counted}
use Rattle.cache_part.specs.Tending.{Tends}
use Rattle.cache_part.proofs.PartLemmas.{first_kept}
use Rattle.cache_part.proofs.ViewLemmas.{cursor_moves}
use Rattle.cache_part.proofs.parts.Part.tend.Goals as goal

pub tend-cursor-requires : goal.tend-cursor-requires
tend-cursor-requires g c = record {
  part = c.self.invariant.0;
  first = c.self.invariant.3;
  cursor = c.self.invariant.2;
}

pub invariant_of-self : goal.invariant_of-self
invariant_of-self g c = (
  c.tend-cursor.ensures.part,
  c.self.invariant.1,
  c.tend-cursor.ensures.within,
  c.tend-cursor.ensures.first ∙ first_kept c.self.inside.index.first c.self.inside.lists.book c.tend-cursor.new.lists.book
      c.tend-cursor.ensures.kept.class c.self.invariant.3,
)

pub returns : goal.returns
returns g c =
    let is = c.self.view_is in let left = c.tend-cursor.new.lists in let did = c.tend-cursor.ensures in
    let now = c.args.now in let looks = c.args.looks in let result = c.tend-cursor.result in record {
      tends = subst (λ v. Tends c.args.most now c.args.bounds looks v.cursor (counted v) c.args.lanes.now left
          c.tend-cursor.new.lanes) is did.tends;
      looked = record {
        ended = subst (λ v. (chunk : ℕ) → IsInTurn v.cursor (looks_of looks v.book) v.book.sheet chunk
            → HasNoneExpired now chunk left.book) is did.ended;
        cursor = subst (λ v. result ≡ number_behind v.cursor (looks_of looks v.book) v.book.sheet.count) is did.cursor;
      };
      unexpired = subst (λ v. KeepsUnexpired now v.book left.book) is did.kept;
      rest = cursor_moves _ _ left c.tend-cursor.new.index.table result is;
    }
