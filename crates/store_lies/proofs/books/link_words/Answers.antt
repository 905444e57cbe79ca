use Rattle.std.proofs.Common.{rules}
use Rattle.store_lies.proofs.books.link_words.Goals as goal

pub returns-clause-item : goal.returns-clause-item
returns-clause-item g c = search rules

pub returns-clause-linked : goal.returns-clause-linked
returns-clause-linked g c = search rules

pub returns-clause-words : goal.returns-clause-words
returns-clause-words g c = search rules
