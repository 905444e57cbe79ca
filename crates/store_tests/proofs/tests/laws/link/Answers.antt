use Rattle.std.proofs.Common.{sym, ◌∙◌, arith}
use Rattle.store_tests.proofs.tests.laws.link.Goals as goal

pub link_words-requires-clause-law : goal.link_words-requires-clause-law
link_words-requires-clause-law g c row begins = begins.1 0 (omega arith) ∙ sym begins.0
