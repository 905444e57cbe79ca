-- What a class's sheet keeps over a step: over one that only notes itself, and over an entry of its history that begins
-- no life.
use Rattle.std.proofs.Common.{◌≡◌, ℕ, ◌+◌, true, false, List, [], ◌∷◌, ◌++◌, Option, ap, arith}
use Rattle.bump_rules.specs.declared.history.Change.{Change}
use Rattle.bump_rules.specs.Entries.{is_stray}
use Rattle.bump_rules.specs.History.{subject, target}
use Rattle.bump_rules.specs.Lawful.{bit, IsUsed}
use Rattle.bump_rules.proofs.Replay.{are_between_push}
use Rattle.bump_rules.proofs.Updates.{total_push}
use Rattle.bump_steps.specs.declared.views.OwnStep.{OwnStep}
use Rattle.bump_steps.specs.declared.views.ClassSheet.{ClassSheet}
use Rattle.bump_steps.specs.declared.views.Ride.{Ride}
use Rattle.bump_steps.specs.Views.{owns, standing}
use Rattle.bump_steps.proofs.LifeLabels.{entered_labels}
use Rattle.bump_heads.specs.Seats.{IsClassSheet, is_barred}

-- a step is noted, and nothing else
pub noted_sheet : (words : ℕ) (k : ClassSheet) (steps : List OwnStep) → IsClassSheet words k
    → IsClassSheet words (record k { steps = steps })
noted_sheet words k steps p = record {
  within = p.within;
  between = p.between;
  causes = p.causes;
  allowed = p.allowed;
  labelled =
      p.labelled;
  unbegun = p.unbegun;
}

-- an application is named, or no more
pub named_sheet : (words : ℕ) (k : ClassSheet) (named : Option Ride) → IsClassSheet words k
    → IsClassSheet words (record k { applying = named })
named_sheet words k named p = record {
  within = p.within;
  between = p.between;
  causes = p.causes;
  allowed = p.allowed;
  labelled =
      p.labelled;
  unbegun = p.unbegun;
}

module _ (words : ℕ) (k : ClassSheet) (e : Change) (steps : List OwnStep) (p : IsClassSheet words k)
    (own : owns (subject e).chunk k ≡ true) (same_life : (subject e).generation ≡ (standing k (subject e).chunk).1)
  where
    abbrev pub entered : ClassSheet
    entered = record k { history = k.history ++ e ∷ []; steps = steps }

    -- An entry of the class's own chunk, in the life that this has, keeps what the class's sheet keeps: it is no stray
    -- move, nor one that no table has, and it leaves no free chunk where chunks are used.
    pub entered_sheet : is_stray e ≡ false → is_barred e ≡ false
        → (IsUsed (target e) → IsUsed (standing k (subject e).chunk).0) → IsClassSheet words entered
    entered_sheet straight fair used =
        let labels = entered_labels k e steps (record { labelled = p.labelled; unbegun = p.unbegun }) same_life used in record {
          within = p.within;
          between = are_between_push k.first (k.first + k.count) k.history e p.between own;
          causes = omega (arith, total_push (λ x. bit (is_stray x)) k.history e, p.causes, ap bit straight);
          allowed = omega (arith, total_push (λ x. bit (is_barred x)) k.history e, p.allowed, ap bit fair);
          labelled = labels.labelled;
          unbegun = labels.unbegun;
        }
