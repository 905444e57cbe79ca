-- Texts that are whole lines.
use Rattle.std.proofs.Common.{◌≡◌, ℕ, ◌+◌, List, [], ◌∷◌, ◌++◌, Option, None, refl, sym, ap, ◌∙◌, append_assoc, append-nil, inl, inr, subst}
use Rattle.std.specs.Prelude.{codes, decimal}
use Rattle.bump_rules.specs.declared.bumps.Accounts.{Accounts}
use Rattle.bump_rules.specs.declared.bumps.Entry.{Entry}
use Rattle.bump_rules.specs.declared.commands.Answer.{Answer}
use Rattle.bump_rules.specs.declared.places.Start.{Start}
use Rattle.bump_rules.specs.declared.places.Tail.{Tail}
use Rattle.trace_lines.specs.Fields.{tail_word}
use Rattle.trace_lines.specs.Text.{link_word, get_start, answer_text, answer_told, entry_text, accounts_text, close_start, accounts_line, bump_line, busy_get_line, busy_hold_line, closed_line, del_line, drain_line, drop_line, get_held_line, get_line, hit_line, hold_line, moves_line, pull_line, read_line, set_line, sweep_line}
use Rattle.store_trace.specs.Reports.{numbered_text, moves_lines}
use Rattle.store_trace.specs.WholeLines.{IsEnded, IsLines}

-- a line feed ends a text
pub ends : (text : List ℕ) → IsEnded (text ++ codes "\n")
ends text = (text, refl)

-- text before one that is ended is ended too
pub ends_behind : (text more : List ℕ) → IsEnded more → IsEnded (text ++ more)
ends_behind text more (before, is) = (text ++ before, ap (λ (t : List ℕ). text ++ t) is ∙ sym (append_assoc text before (codes "\n")))

-- whole lines behind whole lines
pub lines_behind : (text more : List ℕ) → IsLines text → IsLines more → IsLines (text ++ more)
lines_behind text more whole (inl none) = subst IsLines (sym (ap (λ (t : List ℕ). text ++ t) none ∙ append-nil text)) whole
lines_behind text more whole (inr ended) = inr (ends_behind text more ended)

-- a line behind whole lines
pub line_behind : (text more new : List ℕ) → IsEnded more → new ≡ text ++ more → IsLines new
line_behind text more new ended is = subst IsLines (sym is) (inr (ends_behind text more ended))

-- each of a list has a line or some
pub numbered_lines : {A : Type 0} (text : ℕ → A → List ℕ) → ((n : ℕ) (x : A) → IsLines (text n x)) → (n : ℕ) (xs : List A) → IsLines (numbered_text text n xs)
numbered_lines text each n [] = inl refl
numbered_lines text each n (x ∷ xs) = lines_behind (text n x) (numbered_text text (n + 1) xs) (each n x) (numbered_lines text each (n + 1) xs)

-- the line of each answer is ended
pub set_ends : (begins : Start) (name : List ℕ) (given : Answer) → IsEnded (set_line begins name given)
set_ends begins name given = ends (link_word begins ++ codes " " ++ name ++ codes " " ++ answer_text given)

pub get_ends : (worker : ℕ) (name : List ℕ) (given : Option Answer) → IsEnded (get_line worker name given)
get_ends worker name given = ends (get_start worker name ++ answer_told given)

pub get_held_ends : (worker : ℕ) (name : List ℕ) (label hit : Answer) → IsEnded (get_held_line worker name label hit)
get_held_ends worker name label hit = ends (get_start worker name ++ answer_text label ++ codes " " ++ answer_text hit)

pub busy_get_ends : (worker : ℕ) (name : List ℕ) → IsEnded (busy_get_line worker name)
busy_get_ends worker name = ends_behind (get_start worker name) (codes "busy\n") (codes "busy", refl)

pub hold_ends : (worker : ℕ) (name held : List ℕ) (given : Option Answer) → IsEnded (hold_line worker name held given)
hold_ends worker name held given = ends (codes "hold " ++ decimal worker ++ codes " " ++ name ++ codes " " ++ held ++ codes " " ++ answer_told given)

pub busy_hold_ends : (worker : ℕ) (name held : List ℕ) → IsEnded (busy_hold_line worker name held)
busy_hold_ends worker name held = ends_behind (codes "hold " ++ decimal worker ++ codes " " ++ name ++ codes " " ++ held) (codes " busy\n") (codes " busy", refl)

pub hit_ends : (worker : ℕ) (held : List ℕ) (given : Option Answer) → IsEnded (hit_line worker held given)
hit_ends worker held given = ends (codes "hit " ++ decimal worker ++ codes " " ++ held ++ codes " " ++ answer_told given)

pub read_ends : (held : List ℕ) (given : Answer) → IsEnded (read_line held given)
read_ends held given = ends (codes "read " ++ held ++ codes " " ++ answer_text given)

pub drop_ends : (held : List ℕ) → IsEnded (drop_line held)
drop_ends held = ends (codes "drop " ++ held)

pub del_ends : (name : List ℕ) (given : Answer) → IsEnded (del_line name given)
del_ends name given = ends (codes "del " ++ name ++ codes " " ++ answer_text given)

pub pull_ends : (class : ℕ) (tail : Tail) (given : Answer) → IsEnded (pull_line class tail given)
pull_ends class tail given = ends (codes "pull " ++ decimal class ++ codes " " ++ tail_word tail ++ codes " " ++ answer_text given)

pub sweep_ends : (class : ℕ) (given : Answer) → IsEnded (sweep_line class given)
sweep_ends class given = ends (codes "sweep " ++ decimal class ++ codes " " ++ answer_text given)

pub bump_ends : (worker : ℕ) (entry : Entry) → IsEnded (bump_line worker entry)
bump_ends worker entry = ends (codes "bump " ++ decimal worker ++ codes " " ++ entry_text entry)

pub drain_ends : (count : ℕ) → IsEnded (drain_line count)
drain_ends count = ends (codes "drain " ++ decimal count)

pub moves_ends : (class worker count : ℕ) → IsEnded (moves_line class worker count)
moves_ends class worker count = ends (codes "moves " ++ decimal class ++ codes " " ++ decimal worker ++ codes " " ++ decimal count)

pub closed_ends : (worker : ℕ) → IsEnded (closed_line worker)
closed_ends worker = ends (close_start worker ++ answer_told None)

pub accounts_ends : (worker : ℕ) (accounts : Accounts) (applied : ℕ) → IsEnded (accounts_line worker accounts applied)
accounts_ends worker accounts applied = ends (codes "worker " ++ decimal worker ++ codes " " ++ accounts_text accounts applied)

-- the lines of `moves` are whole
pub moves_whole : (moves : List (List ℕ)) → IsLines (numbered_text moves_lines 0 moves)
moves_whole moves = numbered_lines moves_lines (λ class counts. numbered_lines (moves_line class) (λ worker count. inr (moves_ends class worker count)) 0 counts) 0 moves
