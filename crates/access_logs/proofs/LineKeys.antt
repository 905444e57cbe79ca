-- Lemmas on the lines of a text, one after the other, and on the entry of a line of which only the front is kept.
use Rattle.std.proofs.Common.{◌≡◌, ℕ, ◌+◌, ◌-◌, ◌<◌, ◌≤◌, Bool, true, false, cond, List, [], ◌∷◌, ◌++◌, map, length, take, refl, sym, ap, subst, ◌∙◌, arith, take_all, append-nil, append_assoc, length-take, true≢false, ne_eqb}
use Rattle.std.specs.Prelude.{Option, None, Some, IfSome, ⊤, nat_lt, ◌==◌, if◌then◌else◌}
use Rattle.std.specs.Io.BufRead.{ends_with_byte, strip_last, take_through, drop_through, DropsThrough}
use Rattle.std.proofs.BufReadLemmas.{take_through-nil}
use Rattle.std.proofs.lemmas.Bool.{lt-ltb, ltb-false, ltb-true}
use Rattle.access_logs.specs.Entries.{Said, Taken, Unread, of_key}
use Rattle.access_logs.specs.Lines.{with_byte, lines_of, content_of, entry_of_content, longest_key, entry_of_line, entries_of_lines}
use Rattle.access_logs.specs.declared.log.Defect.TheVariants as defect
use Rattle.access_logs.specs.declared.log.Field.TheVariants as field

-- the first line of a text, and the lines behind it
pub lines_of-through : (byte : ℕ) (bytes : List ℕ) → lines_of (byte ∷ bytes) ≡ take_through 10 (byte ∷ bytes) ∷ lines_of (drop_through 10 (byte ∷ bytes))
unfolding lines_of
lines_of-through byte [] = by (byte == 10)
  where
    by : (b : Bool) → cond b ((byte ∷ []) ∷ []) (with_byte byte []) ≡ cond b (byte ∷ []) (byte ∷ []) ∷ lines_of (cond b [] [])
    by true = refl
    by false = refl
lines_of-through byte (next ∷ bytes) = by (byte == 10) (lines_of-through next bytes)
  where
    by : (b : Bool) → lines_of (next ∷ bytes) ≡ take_through 10 (next ∷ bytes) ∷ lines_of (drop_through 10 (next ∷ bytes))
        → cond b ((byte ∷ []) ∷ lines_of (next ∷ bytes)) (with_byte byte (lines_of (next ∷ bytes)))
        ≡ cond b (byte ∷ []) (byte ∷ take_through 10 (next ∷ bytes)) ∷ lines_of (cond b (next ∷ bytes) (drop_through 10 (next ∷ bytes)))
    by true rest = refl
    by false rest = ap (with_byte byte) rest

-- without its last byte a text is one shorter at most
pub length-strip_last : (byte : ℕ) (bytes : List ℕ) → length bytes ≤ length (strip_last byte bytes) + 1
length-strip_last byte bytes = by (ends_with_byte byte bytes)
  where
    by : (b : Bool) → length bytes ≤ length (cond b (take (length bytes - 1) bytes) bytes) + 1
    by true = let left = length-take (length bytes - 1) bytes in omega (arith, left)
    by false = omega arith

pub length-content_of : (line : List ℕ) → length line ≤ length (content_of line) + 2
length-content_of line = by (ends_with_byte 10 line)
  where
    by : (b : Bool) → length line ≤ length (cond b (strip_last 13 (strip_last 10 line)) line) + 2
    by true =
        let once = length-strip_last 10 line in
        let twice = length-strip_last 13 (strip_last 10 line) in
        omega (arith, once, twice)
    by false = omega arith

-- bytes that are too many are no key
pub entry-long : (content : List ℕ) → longest_key < length content → entry_of_content content ≡ Unread defect.TooLong
entry-long content long = by (length content == 0) (nat_lt longest_key (length content)) (ne_eqb (length content) 0 (λ e. omega (arith, e, long))) (lt-ltb longest_key (length content) long)
  where
    by : (a b : Bool) → a ≡ false → b ≡ true → (if a then Unread (defect.Lacks field.Key) else if b then Unread defect.TooLong else Taken (of_key content)) ≡ Unread defect.TooLong
    by true b some is = absurd (true≢false some)
    by false true some is = refl
    by false false some is = absurd (true≢false (sym is))

pub entry_of_line-long : (line : List ℕ) → 65538 < length line → entry_of_line line ≡ Unread defect.TooLong
unfolding entry_of_line
entry_of_line-long line long = let left = length-content_of line in entry-long (content_of line) (omega (arith, left, long))

-- the front of a line tells its entry
pub entry_of_line-kept : (line : List ℕ) → entry_of_line (take 65539 line) ≡ entry_of_line line
entry_of_line-kept line = by (nat_lt (length line) 65539) refl
  where
    by : (b : Bool) → nat_lt (length line) 65539 ≡ b → entry_of_line (take 65539 line) ≡ entry_of_line line
    by true short = ap entry_of_line (take_all 65539 line (let below = ltb-true (length line) 65539 short in omega (arith, below)))
    by false long =
        let above = ltb-false (length line) 65539 long in
        let front = length-take 65539 line in
        entry_of_line-long (take 65539 line) (omega (arith, above, front)) ∙ sym (entry_of_line-long line (omega (arith, above)))

-- the entries of the known bytes are those read so far, and then those of the bytes that are left
abbrev pub IsReadSoFar : Option (List ℕ) → Option (List ℕ) → List Said → Type 0
IsReadSoFar None left entries = ⊤
IsReadSoFar (Some bytes) None entries = ⊥
IsReadSoFar (Some bytes) (Some left) entries = entries_of_lines bytes ≡ entries ++ entries_of_lines left

pub none-read : (known : Option (List ℕ)) → IsReadSoFar known known []
none-read None = tt
none-read (Some bytes) = refl

-- a line more
pub line-read : (known left next : Option (List ℕ)) (entries : List Said) (kept : List ℕ) → IsReadSoFar known left entries
    → IfSome left (λ bytes. kept ≡ take 65539 (take_through 10 bytes)) → DropsThrough left next 10 → (length kept ≡ 0 → ⊥)
    → IsReadSoFar known next (entries ++ entry_of_line kept ∷ [])
line-read None left next entries kept before is rest some = tt
line-read (Some bytes) None next entries kept before is rest some = absurd before
line-read (Some bytes) (Some []) next entries kept before is rest some = absurd (some (ap length is))
line-read (Some bytes) (Some (byte ∷ left)) next entries kept before is rest some =
    let entry = ap entry_of_line is ∙ entry_of_line-kept (take_through 10 (byte ∷ left)) in
    subst (λ o. IsReadSoFar (Some bytes) o (entries ++ entry_of_line kept ∷ [])) (sym rest)
    (before ∙ ap (λ l. entries ++ map entry_of_line l) (lines_of-through byte left)
    ∙ ap (λ k. entries ++ k ∷ entries_of_lines (drop_through 10 (byte ∷ left))) (sym entry)
    ∙ sym (append_assoc entries (entry_of_line kept ∷ []) (entries_of_lines (drop_through 10 (byte ∷ left)))))

-- no line more
pub all-read : (known left : Option (List ℕ)) (entries : List Said) (kept : List ℕ) → IsReadSoFar known left entries
    → IfSome left (λ bytes. kept ≡ take 65539 (take_through 10 bytes)) → length kept ≡ 0 → IfSome known (λ bytes. entries ≡ entries_of_lines bytes)
unfolding lines_of
all-read None left entries kept before is none = tt
all-read (Some bytes) None entries kept before is none = absurd before
all-read (Some bytes) (Some left) entries kept before is none =
    let short = ap length (sym is) ∙ none in
    let front = length-take 65539 (take_through 10 left) in
    let end = take_through-nil 10 left (omega (arith, short, front)) in
    sym (before ∙ ap (λ l. entries ++ entries_of_lines l) end ∙ append-nil entries)

-- what was read so far is the front of all
pub front-read : (known left : Option (List ℕ)) (entries : List Said) → IsReadSoFar known left entries
    → IfSome known (λ bytes. (more : List Said) × (entries_of_lines bytes ≡ entries ++ more))
front-read None left entries before = tt
front-read (Some bytes) None entries before = absurd before
front-read (Some bytes) (Some left) entries before = (entries_of_lines left, before)
