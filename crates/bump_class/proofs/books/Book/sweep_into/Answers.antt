use Rattle.std.proofs.Common.{rules, ◌≡◌, length}
use Rattle.bump_class.proofs.Freeing.{swept_none}
use Rattle.bump_class.proofs.books.Book.sweep_into.Goals as goal

pub returns-then-is_empty-clause-swept : goal.returns-then-is_empty-clause-swept
returns-then-is_empty-clause-swept g c =
    let none : length c.args.freed.now ≡ 0 = search rules in
    swept_none c.args.self.now c.args.freed.now none
