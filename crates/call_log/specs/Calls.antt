-- What contracts see of a caller, and of what it did.
use Rattle.std.specs.Prelude.{ℕ, ◌≡◌, ◌+◌, ◌-◌, ◌<◌, List, [], ◌∷◌, length, take}
use mathlib.Core.List.{IsPrefix}
use Rattle.call_log.specs.Logs.{LogView, Notes, calls_of, last_state, state_of}

pub record CallerView (S : Type 0) : Type 0 where
  -- the state that the log begins from
  pub first : S
  -- the state behind each call that the caller knows of, its own and those of others, in order
  pub log : List S
  -- how many calls it made
  pub calls : ℕ
  -- how many parts of the log's shares it has
  pub parts : ℕ

-- the last of these states, or else the first
unfoldable pub last_of : {S : Type 0} → S → List S → S
last_of first [] = first
last_of first (s ∷ log) = last_of s log

-- the states but the last one
abbrev pub before_last : {S : Type 0} → List S → List S
before_last log = take (length log - 1) log

module _ {S : Type 0} where
  -- the state behind the last call that the caller knows of
  abbrev pub to_of : CallerView S → S
  to_of me = last_of me.first me.log

  -- the state that the value of that call had before it
  abbrev pub from_of : (S → ℕ) → CallerView S → S
  from_of number_of me = state_of number_of (number_of (to_of me)) me.first (before_last me.log)

  -- the state of the value of this number, as far as the caller knows
  abbrev pub now_of : (S → ℕ) → ℕ → CallerView S → S
  now_of number_of i me = state_of number_of i me.first me.log

-- The caller made one call. It stands in the log behind all that its caller had seen, and is the last one that the
-- caller knows of now.
pub record MakesOne {S : Type 0} (me me' : CallerView S) : Type 0 where
  pub first : me'.first ≡ me.first
  pub seen : IsPrefix me.log me'.log
  pub new : length me.log < length me'.log
  pub once : me'.calls ≡ me.calls + 1
  pub parts : me'.parts ≡ me.parts

-- The caller made no call, and knows of those that others made since it looked last.
pub record OnlyLooks {S : Type 0} (me me' : CallerView S) : Type 0 where
  pub first : me'.first ≡ me.first
  pub seen : IsPrefix me.log me'.log
  pub calls : me'.calls ≡ me.calls
  pub parts : me'.parts ≡ me.parts

-- A caller's call was noted in a value's log, and left this state: the caller knows the whole log now.
pub record NotesCall {S : Type 0} (number_of : S → ℕ) (state : S) (before after : LogView S)
    (me me' : CallerView S) : Type 0 where
  pub log : Notes number_of state before after
  pub call : MakesOne me me'
  pub from : from_of number_of me' ≡ last_state number_of before
  pub to : to_of me' ≡ state
  pub all : (me'.first ≡ after.first) × (me'.log ≡ after.log)

-- A caller was shown a value's log: it knows each call of that value now, and of others those that came before.
pub record ShowsCalls {S : Type 0} (number_of : S → ℕ) (log : LogView S) (me me' : CallerView S) : Type 0 where
  pub look : OnlyLooks me me'
  pub to : now_of number_of log.number me' ≡ last_state number_of log
  pub calls : calls_of number_of log.number me'.log ≡ calls_of number_of log.number log.log
  pub first : me'.first ≡ log.first
  pub seen : IsPrefix log.log me'.log
  pub alone : log.values ≡ 1 → me'.log ≡ log.log
