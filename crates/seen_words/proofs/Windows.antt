-- Moments in windows.
use Rattle.std.proofs.Common.{◌≡◌, suc, length, List, [], ◌∷◌, ◌++◌, sym, ap, ◌∙◌, subst, inl, inr, append_assoc, arith}
use Rattle.seen_words.specs.declared.views.Moment.{Moment}
use Rattle.seen_words.specs.Past.{Extends}
use Rattle.seen_words.specs.Windows.{AtOneOf, AtEachOf, AtOneWithin, NotAlways}

-- the first of a list that has one
abbrev head_or : {A : Type 0} → A → List A → A
head_or d [] = d
head_or d (x ∷ xs) = x

module _ (P : Moment → Type 0) where
  -- a longer window
  pub one_longer : (later more before : List Moment) → AtOneOf P more before → AtOneOf P (later ++ more) before
  one_longer [] more before one = one
  one_longer (now ∷ later) more before one = inr (one_longer later more before one)

  -- its last moment is in it
  pub one_now : (more before : List Moment) (now : Moment) (older : List Moment) → more ++ before ≡ now ∷ older
      → P now → AtOneOf P more before
  one_now [] [] now older is p =
      let none : 0 ≡ suc (length older) = ap (λ (xs : List Moment). length xs) is in absurd (omega arith)
  one_now [] (last ∷ rest) now older is p = subst P (ap (λ (xs : List Moment). head_or now xs) (sym is)) p
  one_now (m ∷ more) before now older is p = inl (subst P (ap (λ (xs : List Moment). head_or now xs) (sym is)) p)

  pub one_within_longer : (before between after : List Moment) → AtOneWithin P before between → Extends between after
      → AtOneWithin P before after
  one_within_longer before between after one on = record {
    more = on.more ++ one.more;
    is = on.is ∙ (ap (λ (xs : List Moment). on.more ++ xs) one.is ∙ sym (append_assoc on.more one.more before));
    one = one_longer on.more one.more before one.one;
  }

  one_later : (more first before : List Moment) → AtOneOf P more (first ++ before) → AtOneOf P (more ++ first) before
  one_later [] [] before one = one
  one_later [] (m ∷ first) before one = inl one
  one_later (now ∷ more) first before (inl p) = inl p
  one_later (now ∷ more) first before (inr one) = inr (one_later more first before one)

  -- a window that is longer before
  pub one_earlier : (before between after : List Moment) → Extends before between → AtOneWithin P between after
      → AtOneWithin P before after
  one_earlier before between after on one = record {
    more = one.more ++ on.more;
    is = one.is ∙ (ap (λ (xs : List Moment). one.more ++ xs) on.is ∙ sym (append_assoc one.more on.more before));
    one = one_later one.more on.more before (subst (λ (b : List Moment). AtOneOf P one.more b) on.is one.one);
  }

  pub one_within_now : (before after : List Moment) (now : Moment) (older : List Moment) → Extends before after
      → after ≡ now ∷ older → P now → AtOneWithin P before after
  one_within_now before after now older on is p = record {
    more = on.more;
    is = on.is;
    one = one_now on.more before now older (sym on.is ∙ is) p;
  }

-- what was seen grew, and grew again
pub extends_on : (before between after : List Moment) → Extends before between → Extends between after
    → Extends before after
extends_on before between after first second = record {
  more = second.more ++ first.more;
  is = second.is ∙ (ap (λ (xs : List Moment). second.more ++ xs) first.is ∙ sym (append_assoc second.more first.more before));
}

module _ (P : Moment → Type 0) where
  each_shorter : (later more before : List Moment) → AtEachOf P (later ++ more) before → AtEachOf P more before
  each_shorter [] more before all = all
  each_shorter (now ∷ later) more before all = each_shorter later more before all.1

  each_later : (later more before : List Moment) → AtEachOf P (later ++ more) before → AtEachOf P later (more ++ before)
  each_later [] [] [] all = tt
  each_later [] [] (last ∷ older) all = all
  each_later [] (m ∷ more) before all = all.0
  each_later (now ∷ later) more before all = (all.0, each_later later more before all.1)

  each_now : (more before : List Moment) (now : Moment) (older : List Moment) → more ++ before ≡ now ∷ older
      → AtEachOf P more before → P now
  each_now [] [] now older is all =
      let none : 0 ≡ suc (length older) = ap (λ (xs : List Moment). length xs) is in absurd (omega (arith, none))
  each_now [] (last ∷ rest) now older is all = subst P (ap (λ (xs : List Moment). head_or now xs) is) all
  each_now (m ∷ more) before now older is all = subst P (ap (λ (xs : List Moment). head_or now xs) is) all.0

  -- what doesn't hold at the last moment doesn't hold always
  pub not_now : (before after : List Moment) (now : Moment) (older : List Moment) → Extends before after
      → after ≡ now ∷ older → (P now → ⊥) → NotAlways P before after
  not_now before after now older on is none = record {
    more = on.more;
    is = on.is;
    not = λ all. none (each_now on.more before now older (sym on.is ∙ is) all);
  }

  -- a window that is longer behind, or before
  pub not_longer : (before between after : List Moment) → NotAlways P before between → Extends between after
      → NotAlways P before after
  not_longer before between after none on = record {
    more = on.more ++ none.more;
    is = on.is ∙ (ap (λ (xs : List Moment). on.more ++ xs) none.is ∙ sym (append_assoc on.more none.more before));
    not = λ all. none.not (each_shorter on.more none.more before all);
  }

  pub not_earlier : (before between after : List Moment) → Extends before between → NotAlways P between after
      → NotAlways P before after
  not_earlier before between after on none = record {
    more = none.more ++ on.more;
    is = none.is ∙ (ap (λ (xs : List Moment). none.more ++ xs) on.is ∙ sym (append_assoc none.more on.more before));
    not = λ all. none.not (subst (λ (b : List Moment). AtEachOf P none.more b) (sym on.is)
        (each_later none.more on.more before all));
  }
