use Rattle.std.proofs.Common.{refl, sym, ap, ◌∙◌, arith}
use Rattle.std.specs.Arc.{arc_value}
use Rattle.seen_words.specs.Past.{PenView}
use Rattle.cache_index.specs.Views.{NestsView, index_view}
use Rattle.cache_index.proofs.AnswerLemmas.{found_from, life_found, answer_anew, answer_led, answer_answered, end_all}
use Rattle.cache_index.proofs.from_zero.IndexFromZero.next_of.Goals as goal

pub returns-in_default-clause-all : goal.returns-in_default-clause-all
returns-in_default-clause-all c =
    let nests_is = ap (λ (v : NestsView). v.nests) c.deref.ensures in
    end_all c.args.self.now c.args.search.now (arc_value c.self.inside.nests).nests c.deref.result.now.nests
    c.self.inside.pen.words
    c.self.inside.ways.items c.search.inside.hash c.search.inside.looked (sym c.self.view_is) (sym c.search.view_is)
    nests_is
    c.self.invariant.1 c.self.invariant.2 (omega arith) c.in_default.ensures.none

pub returns-clause-anew : goal.returns-clause-anew
returns-clause-anew c =
    let nests_is = ap (λ (v : NestsView). v.nests) c.deref.ensures in
    let it = found_from (arc_value c.self.inside.nests).nests c.deref.result.now.nests c.self.inside.pen.words
    c.self.inside.ways.items
    c.search.inside.hash c.search.inside.looked c.in-Some.at.number nests_is c.self.invariant.1 c.self.invariant.2 (omega
    arith)
    c.in-Some.ensures.within c.in-Some.ensures.found c.in-Some.ensures.first in
    let number = life_found (arc_value c.self.inside.nests).nests c.deref.result.now.nests c.in-Some.at.nest
    c.in-Some.at.lane c.life.result
    c.search.inside.hash c.in-Some.at.number c.self.inside.pen.words c.look.new.pen.words nests_is
    c.in-Some.ensures.nest c.in-Some.ensures.lane.0 (ap (λ (p : PenView). p.words) c.look.ensures.pen)
    c.life.ensures.life in
    answer_anew c.args.self.now c.args.search.now (arc_value c.self.inside.nests).nests c.self.inside.pen.words
    c.self.inside.ways.items
    c.search.inside.hash c.search.inside.looked c.in-Some.at.number c.life_of.result.chunk c.life.result
    (sym c.self.view_is) (sym c.search.view_is) it number c.life_of.ensures.chunk

pub returns-clause-led : goal.returns-clause-led
returns-clause-led c =
    let nests_is = ap (λ (v : NestsView). v.nests) c.deref.ensures in
    let it = found_from (arc_value c.self.inside.nests).nests c.deref.result.now.nests c.self.inside.pen.words
    c.self.inside.ways.items
    c.search.inside.hash c.search.inside.looked c.in-Some.at.number nests_is c.self.invariant.1 c.self.invariant.2 (omega
    arith)
    c.in-Some.ensures.within c.in-Some.ensures.found c.in-Some.ensures.first in
    let number = life_found (arc_value c.self.inside.nests).nests c.deref.result.now.nests c.in-Some.at.nest
    c.in-Some.at.lane c.life.result
    c.search.inside.hash c.in-Some.at.number c.self.inside.pen.words c.look.new.pen.words nests_is
    c.in-Some.ensures.nest c.in-Some.ensures.lane.0 (ap (λ (p : PenView). p.words) c.look.ensures.pen)
    c.life.ensures.life in
    answer_led c.args.self.now c.args.search.now (arc_value c.self.inside.nests).nests c.self.inside.pen.words
    c.self.inside.ways.items
    c.search.inside.hash c.search.inside.looked c.in-Some.at.number c.life_of.result.chunk c.life.result
    (sym c.self.view_is) (sym c.search.view_is) it number c.life_of.ensures.chunk c.life_of.result.generation
    c.life_of.ensures.generation

pub returns-clause-answered : goal.returns-clause-answered
returns-clause-answered c =
    let nests_is = ap (λ (v : NestsView). v.nests) c.deref.ensures in
    let it = found_from (arc_value c.self.inside.nests).nests c.deref.result.now.nests c.self.inside.pen.words
    c.self.inside.ways.items
    c.search.inside.hash c.search.inside.looked c.in-Some.at.number nests_is c.self.invariant.1 c.self.invariant.2 (omega
    arith)
    c.in-Some.ensures.within c.in-Some.ensures.found c.in-Some.ensures.first in
    let number = life_found (arc_value c.self.inside.nests).nests c.deref.result.now.nests c.in-Some.at.nest
    c.in-Some.at.lane c.life.result
    c.search.inside.hash c.in-Some.at.number c.self.inside.pen.words c.look.new.pen.words nests_is
    c.in-Some.ensures.nest c.in-Some.ensures.lane.0 (ap (λ (p : PenView). p.words) c.look.ensures.pen)
    c.life.ensures.life in
    answer_answered c.args.self.now c.args.search.now (arc_value c.self.inside.nests).nests c.self.inside.pen.words
    c.self.inside.ways.items
    c.search.inside.hash c.search.inside.looked c.in-Some.at.number c.life_of.result.chunk c.life.result
    (sym c.self.view_is) (sym c.search.view_is) it number c.life_of.ensures.chunk _ _
    (ap (λ (p : PenView). index_view (arc_value c.self.inside.nests).nests p.words c.self.inside.ways.items)
    (c.life.ensures.pen ∙ c.look.ensures.pen)) refl
