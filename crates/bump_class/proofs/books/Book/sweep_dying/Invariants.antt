use Rattle.bump_class.proofs.Freeing.{SoFar}
use Rattle.bump_class.proofs.books.Book.sweep_dying.Given as goal

-- the first chunks of DYING were looked at, and those that came free are told
abbrev pub invariant-loop-looked : goal.invariant-loop-looked
invariant-loop-looked g l = SoFar l.fn.self l.fn.freed l.looked l.self l.next l.count l.freed
