-- What looks for expired items leave.
use Rattle.std.proofs.Common.{◌≡◌, ℕ, suc, ◌+◌, ◌⊎◌, inl, inr, Bool, true, false, ◌==◌, None, IsSome, if◌then◌else◌, min, refl, sym, ap, ◌∙◌, subst, eqb-true, arith}
use Rattle.bump_rules.specs.Lawful.{bit}
use Rattle.bump_steps.specs.Views.{last_word}
use Rattle.bump_class.specs.Books.{BookView}
use Rattle.cache_lists.specs.Counts.{CountedView}
use Rattle.cache_lists.specs.Expiring.{expired_at, EndsExpired, EndsFound}
use Rattle.cache_lists.specs.Items.{IsSameClass, KeepsItems, EndsAt}
use Rattle.cache_lists.specs.Linked.{linked_at}
use Rattle.bump_rules.specs.Expiry.{has_expired}
use Rattle.cache_part.specs.Expiring.{HasNoneExpired, EndedExpired, KeepsUnexpired, IsInTurn, IsNumberInTurn, LooksAt, LooksAround, number_behind}
use Rattle.cache_part.proofs.PartLemmas.{class_then}
use Rattle.cache_part.proofs.TurnLemmas.{in_turn_more}

-- where the words stay, an item expires when it did
label_same : (now : ℕ) (before after : BookView) (c : ℕ)
    → ((i c : ℕ) → last_word i after.sheet c ≡ last_word i before.sheet c)
    → expired_at now after.sheet c ≡ expired_at now before.sheet c
label_same now before after c words = ap (λ label. has_expired label now) (words 0 c)

-- where all items stay, what hasn't expired does
pub kept_unexpired : (now : ℕ) (before after : BookView) → KeepsItems before after → KeepsUnexpired now before after
kept_unexpired now before after keeps = record {
  class = keeps.class;
  linked = λ c. inl (keeps.linked c);
  words = keeps.words;
}

-- and also behind two changes
pub unexpired_then : (now : ℕ) (before between after : BookView) → KeepsUnexpired now before between
    → KeepsUnexpired now between after → KeepsUnexpired now before after
unexpired_then now before between after one other = record {
  class = class_then before between after one.class other.class;
  linked = λ c. by c (one.linked c) (other.linked c);
  words = λ i c. other.words i c ∙ one.words i c;
}
  where
    by : (c : ℕ) → (linked_at between.sheet c ≡ linked_at before.sheet c) ⊎ EndedExpired now c before between
        → (linked_at after.sheet c ≡ linked_at between.sheet c) ⊎ EndedExpired now c between after
        → (linked_at after.sheet c ≡ linked_at before.sheet c) ⊎ EndedExpired now c before after
    by c (inl same) (inl still) = inl (still ∙ same)
    by c (inl same) (inr ended) = inr (record {
      was = subst IsSome same ended.was;
      expired = sym (label_same now before between c one.words) ∙ ended.expired;
      gone = ended.gone;
    })
    by c (inr ended) (inl still) = inr (record {
      was = ended.was;
      expired = ended.expired;
      gone = still ∙ ended.gone;
    })
    by c (inr ended) (inr again) =
        let none : IsSome {T = ℕ} None = subst IsSome ended.gone again.was in absurd (cc none)

-- the end of an item that has expired leaves what hasn't
pub ended_unexpired : (now chunk : ℕ) (before after : BookView) → EndsAt chunk before after
    → expired_at now before.sheet chunk ≡ true → KeepsUnexpired now before after
ended_unexpired now chunk before after ends expired = record {
  class = ends.class;
  linked = λ c. by c (chunk == c) refl;
  words = ends.words;
}
  where
    by : (c : ℕ) (b : Bool) → (chunk == c) ≡ b
        → (linked_at after.sheet c ≡ linked_at before.sheet c) ⊎ EndedExpired now c before after
    by c true e =
        let same : chunk ≡ c = eqb-true chunk c e in inr (record {
          was = subst IsSome (sym ends.was.1 ∙ ap (linked_at before.sheet) same) refl;
          expired = ap (expired_at now before.sheet) (sym same) ∙ expired;
          gone = ends.linked c ∙ ap (λ b. if b then None else linked_at before.sheet c) e;
        })
    by c false e = inl (ends.linked c ∙ ap (λ b. if b then None else linked_at before.sheet c) e)

-- a chunk that has no expired item has none then
pub none_kept : (now chunk : ℕ) (before after : BookView) → KeepsUnexpired now before after
    → HasNoneExpired now chunk before → HasNoneExpired now chunk after
none_kept now chunk before after keeps none some =
    label_same now before after chunk keeps.words ∙ by (keeps.linked chunk)
  where
    by : (linked_at after.sheet chunk ≡ linked_at before.sheet chunk) ⊎ EndedExpired now chunk before after
        → expired_at now before.sheet chunk ≡ false
    by (inl same) = none (subst IsSome same some)
    by (inr ended) = let no : IsSome {T = ℕ} None = subst IsSome ended.gone some in absurd (cc no)

-- where an item is linked that has expired, it ended
pub found_expired : (chunk now : ℕ) (did : Bool) (before after : CountedView) → EndsExpired chunk now did before after
    → IsSome (linked_at before.book.sheet chunk) → expired_at now before.book.sheet chunk ≡ true
    → (did ≡ true) × EndsFound chunk now before after
found_expired chunk now true before after ends some expired = (refl, ends)
found_expired chunk now false before after finds some expired = absurd (by finds.none)
  where
    by : (linked_at before.book.sheet chunk ≡ None) ⊎ (expired_at now before.book.sheet chunk ≡ false) → ⊥
    by (inl none) = let no : IsSome {T = ℕ} None = subst IsSome none some in cc no
    by (inr unexpired) = cc (sym unexpired ∙ expired)

module _ (from count now : ℕ) (first : CountedView) (counts : first.book.sheet.count ≡ count) where
  -- one chunk more was looked at
  pub around_more : (looks ended so_far : ℕ) (did : Bool) (between after : CountedView)
      → LooksAround looks from now so_far first between
      → LooksAt (first.book.sheet.first + number_behind from looks count) now did between after
      → ended ≡ so_far + bit did → LooksAround (looks + 1) from now ended first after
  around_more looks ended so_far did between after around looked sums =
      let one_more : suc looks ≡ looks + 1 = omega arith in
      subst (λ n. LooksAround n from now ended first after) one_more (
        between,
        so_far,
        did,
        around,
        subst (λ n. LooksAt (first.book.sheet.first + number_behind from looks n) now did between after) (sym counts) looked,
        sums,
      )

  -- and none of those that were has an expired item
  pub none_in_turn : (looks : ℕ) (between after : BookView)
      → ((n : ℕ) → IsNumberInTurn from looks count n → HasNoneExpired now (first.book.sheet.first + n) between)
      → HasNoneExpired now (first.book.sheet.first + number_behind from looks count) after
      → KeepsUnexpired now between after
      → (n : ℕ) → IsNumberInTurn from (looks + 1) count n → HasNoneExpired now (first.book.sheet.first + n) after
  none_in_turn looks between after none here keeps n turn = by (in_turn_more from looks count n turn)
    where
      by : IsNumberInTurn from looks count n ⊎ (number_behind from looks count ≡ n)
          → HasNoneExpired now (first.book.sheet.first + n) after
      by (inl before) = none_kept now (first.book.sheet.first + n) between after keeps (none n before)
      by (inr this) = subst (λ m. HasNoneExpired now (first.book.sheet.first + m) after) this here

-- what holds of the class's chunks by their numbers holds of those in turn
pub none_of_class : (now from looks : ℕ) (book after : BookView)
    → ((n : ℕ) → IsNumberInTurn from looks book.sheet.count n → HasNoneExpired now (book.sheet.first + n) after)
    → (chunk : ℕ) → IsInTurn from looks book.sheet chunk → HasNoneExpired now chunk after
none_of_class now from looks book after none chunk (number, is, turn) =
    subst (λ c. HasNoneExpired now c after) (sym is) (none number turn)

-- chunks in turn of a class stay so where its chunks stay
pub in_turn_same : (from most : ℕ) (book left : BookView) → IsSameClass book left → (chunk : ℕ)
    → IsInTurn from (min most book.sheet.count) book.sheet chunk → IsInTurn from (min most left.sheet.count) left.sheet chunk
in_turn_same from most book left class chunk (number, is, turn) = (
  number,
  is ∙ ap (λ f. f + number) (sym class.first),
  subst (λ n. IsNumberInTurn from (min most n) n number) (sym class.count) turn,
)
