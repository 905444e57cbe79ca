use Rattle.std.proofs.Common.{not, eqb, sym, ap, ◌∙◌}
use Rattle.std.specs.Arc.{arc_value}
use Rattle.std.proofs.lemmas.List.{get_or_read}
use Rattle.cache_index.specs.declared.led.Way.{Way}
use Rattle.cache_index.specs.Leads.{no_way}
use Rattle.cache_index.proofs.WriterLemmas.{chunk_within, leads_where}
use Rattle.cache_index.proofs.from_zero.IndexFromZero.leads.Goals as goal

pub returns : goal.returns
returns c =
    let nests = (arc_value c.self.inside.nests).nests in
    let words = c.self.inside.pen.words in
    let ways = c.self.inside.ways.items in
    let within = chunk_within c.args.self.now nests words ways c.args.chunk (sym c.self.view_is) c.requires in
    let way_is = get_or_read ways c.args.chunk c.index.result.now within c.index.ensures no_way in
    c.leads.ensures ∙ (ap (λ (w : Way). not (eqb w.place 0)) way_is
    ∙ leads_where c.args.self.now nests words ways c.args.chunk (sym c.self.view_is))
