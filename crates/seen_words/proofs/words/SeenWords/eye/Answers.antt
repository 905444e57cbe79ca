use Rattle.std.proofs.Common.{rules}
use Rattle.seen_words.specs.Past.{first_sight}
use Rattle.seen_words.proofs.Steps.{opens}
use Rattle.seen_words.proofs.words.SeenWords.eye.Goals as goal

pub load_new_seat-seat-requires : goal.load_new_seat-seat-requires
load_new_seat-seat-requires g c =
    let t = c.self.inside.table.shared in (search rules, opens g.L.Law.law t.table_id.slots 0 (first_sight t.key.items))
