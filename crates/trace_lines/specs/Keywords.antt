-- The first words of lines, looked for in two parts.
use Rattle.std.specs.Prelude.{ℕ, List, [], ◌∷◌, find, Option}
use Rattle.std.specs.Str.{bytes_eq}
use Rattle.trace_lines.specs.Lines.{keyword_word}
use Rattle.trace_lines.specs.declared.keywords.Keyword.{Keyword}
use Rattle.trace_lines.specs.declared.keywords.Keyword.TheVariants as keyword

-- the one among these that the bytes are
abbrev pub keyword_among : List Keyword → List ℕ → Option Keyword
keyword_among keywords word = find (λ keyword. bytes_eq word (keyword_word keyword)) keywords

-- those behind the first nine
abbrev pub other_keywords : List Keyword
other_keywords =
    keyword.Del ∷ keyword.Pull ∷ keyword.Sweep ∷ keyword.Drain ∷ keyword.Close ∷ keyword.Show ∷ keyword.Moves ∷
    keyword.Par ∷ []
