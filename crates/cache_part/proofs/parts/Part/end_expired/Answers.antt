use Rattle.std.proofs.Common.{ℕ, ◌∙◌, subst, ◌≡◌}
use Rattle.cache_part.specs.Expiring.{HasNoneExpired, IsInTurn, KeepsUnexpired, LooksAround, looks_of, number_behind}
use Rattle.cache_part.specs.Parts.{counted}
use Rattle.cache_part.proofs.PartLemmas.{first_kept}
use Rattle.cache_part.proofs.ViewLemmas.{cursor_moves}
use Rattle.cache_part.proofs.parts.Part.end_expired.Goals as goal

pub end_expired-turn-requires : goal.end_expired-turn-requires
end_expired-turn-requires g c = record {
  part = c.self.invariant.0;
  first = c.self.invariant.3;
  cursor = c.self.invariant.2;
}

pub invariant_of-self : goal.invariant_of-self
invariant_of-self g c = (
  c.end_expired-turn.ensures.part,
  c.self.invariant.1,
  c.end_expired-turn.ensures.within,
  c.end_expired-turn.ensures.first ∙ first_kept c.self.inside.index.first c.self.inside.lists.book c.end_expired-turn.new.lists.book
      c.end_expired-turn.ensures.kept.class c.self.invariant.3,
)

pub returns : goal.returns
returns g c =
    let is = c.self.view_is in let left = c.end_expired-turn.new.lists in let did = c.end_expired-turn.ensures in
    let now = c.args.now in let most = c.args.most in let turn = c.end_expired-turn.result in record {
      looks = subst (λ v. LooksAround (looks_of most v.book) v.cursor now turn.ended (counted v) left) is did.looks;
      looked = record {
        ended = subst (λ v. (chunk : ℕ) → IsInTurn v.cursor (looks_of most v.book) v.book.sheet chunk
            → HasNoneExpired now chunk left.book) is did.ended;
        cursor = subst (λ v. turn.cursor ≡ number_behind v.cursor (looks_of most v.book) v.book.sheet.count) is did.cursor;
      };
      unexpired = subst (λ v. KeepsUnexpired now v.book left.book) is did.kept;
      rest = cursor_moves _ _ left c.end_expired-turn.new.index.table turn.cursor is;
    }
