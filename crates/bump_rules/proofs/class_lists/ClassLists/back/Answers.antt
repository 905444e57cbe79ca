-- The last node is the last chunk.
use Rattle.std.proofs.Common.{◌≡◌, subst}
use Rattle.bump_links.specs.Lists.{last_of}
use Rattle.bump_rules.specs.Lists.{Lists, list_at}
use Rattle.bump_rules.proofs.class_lists.Numbering.{last_is}
use Rattle.bump_rules.proofs.class_lists.ClassLists.back.Goals as goal

pub returns : goal.returns
returns c =
    let Read : Lists → Type 0 = λ l. c.chunk_at.result ≡ last_of (list_at l c.args.place) in
    subst Read c.self.view_is
    (last_is c.self.inside.first c.number.result c.self.inside.links c.args.place c.number.ensures.number
    c.back.result c.chunk_at.result c.back.ensures.last c.chunk_at.ensures)
