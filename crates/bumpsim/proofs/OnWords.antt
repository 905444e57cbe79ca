-- What a proof unfolds to compute `file_of` at words that are written out.
use Rattle.std.specs.Prelude.{⊤}
use Rattle.clap.proofs.OnLiterals.{clap_on_literals}

unfoldable pub on_words : ⊤
unfolding clap_on_literals
on_words = tt
