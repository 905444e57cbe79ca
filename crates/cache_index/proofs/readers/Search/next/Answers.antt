use Rattle.std.proofs.Common.{◌≡◌, ℕ, ◌+◌, ◌*◌, ◌%◌, ◌^◌, refl, sym, ap, ap₂, ◌∙◌, subst, arith, rules}
use Rattle.bump_rules.specs.declared.items.ItemId.{ItemId}
use Rattle.seen_words.specs.Past.{EyeView}
use Rattle.cache_index.specs.Views.{IndexReaderView, ReaderSearchView}
use Rattle.cache_index.specs.History.{AnswersPast, ComesPast, EndsPast, Looks}
use Rattle.cache_index.proofs.ReaderLemmas.{ends_last, looks_more, looks_none, past_answer, past_end, past_more, past_still, sees_looks, takes_past}
use Rattle.cache_index.proofs.WalkLemmas.{walked_more}
use Rattle.cache_index.proofs.readers.Search.next.Goals as goal
use Rattle.cache_index.proofs.readers.Search.next.Goals.{then-is_last-via-then-is_last, then-is_last-via-else-is_last+then-is_end}

pub loop-self-preserved : goal.loop-self-preserved
loop-self-preserved c =
    let i = c.loop-self.invariant in
    let start = c.args.eye.now in
    let middle = c.is_end.new.eye in
    let after = c.walk.new.eye in
    let from = c.args.self.now in
    let at = c.loop-self.self in
    let to = c.walk.new.self in
    let looked : Looks c.loop-self.eye middle = sees_looks c.loop-self.eye middle c.is_end.ensures.eye in
    let walked : Looks middle after = sees_looks middle after c.walk.ensures.eye in
    let first : Looks start middle = looks_more start c.loop-self.eye middle i.8 looked in
    let past : ComesPast from.nests from.hash from at start middle =
    past_more from.nests from.hash from at at start c.loop-self.eye middle i.8 looked i.9
    (past_still from.nests from.hash at c.loop-self.eye middle) in
    let more : ComesPast from.nests from.hash at to middle after =
    subst (λ (n : ℕ). ComesPast n from.hash at to middle after) i.0
    (subst (λ (h : ℕ). ComesPast at.nests h at to middle after) i.7 c.walk.ensures.past) in (
      search rules,
      search rules,
      walked_more _ _ _ c.loop-self.invariant.2 (search rules) (search rules) c.loop-self.invariant.0 c.walk.ensures.later
          c.walk.ensures.nest,
      search rules,
      search rules,
      search rules,
      search rules,
      search rules,
      looks_more start middle after first walked,
      past_more from.nests from.hash from at to start middle after first walked past more,
      search rules,
    )

pub returns-clause-walks : goal.returns-clause-walks
returns-clause-walks c = search rules

pub returns-clause-one : goal.returns-clause-one
returns-clause-one c = search rules

pub returns-then-is_last-clause-eye : goal.returns-then-is_last-clause-eye
returns-then-is_last-clause-eye c =
    let i = c.loop-self.invariant in
    let start = c.args.eye.now in
    let eye = c.loop-self.eye in
    elim c.then-is_last.branch [
      | then-is_last-via-then-is_last w ↦ subst (λ (e : EyeView). Looks start e) (sym w.eye-is) i.8
      | then-is_last-via-else-is_last+then-is_end w ↦ subst (λ (e : EyeView). Looks start e) (sym w.eye-is)
          (looks_more start eye w.is_end.new.eye i.8 (sees_looks eye w.is_end.new.eye w.is_end.ensures.eye))
    ]

pub returns-then-is_last-clause-ends : goal.returns-then-is_last-clause-ends
returns-then-is_last-clause-ends c =
    let i = c.loop-self.invariant in
    let start = c.args.eye.now in
    let eye = c.loop-self.eye in
    let from = c.args.self.now in
    let at = c.loop-self.self in
    let lanes_none : at.lanes ≡ 0 = sym (ap (λ (r : ReaderSearchView). r.lanes) c.self.view_is) ∙ c.loop-self-test.true in
    elim c.then-is_last.branch [
      | then-is_last-via-then-is_last w ↦ subst (λ (e : EyeView). EndsPast from.nests from.hash from start e) (sym w.eye-is)
          (past_end from.nests from.hash from at start eye eye i.8 (looks_none eye) i.9
          (subst (λ (n : ℕ). EndsPast n from.hash at eye eye) i.0
          (ends_last from.hash at eye lanes_none (c.is_last.ensures.last w.if-is_last.true))))
      | then-is_last-via-else-is_last+then-is_end w ↦
          let last = w.is_end.new.eye in
          subst (λ (e : EyeView). EndsPast from.nests from.hash from start e) (sym w.eye-is)
          (past_end from.nests from.hash from at start eye last i.8 (sees_looks eye last w.is_end.ensures.eye) i.9
          (subst (λ (n : ℕ). EndsPast n from.hash at eye last) i.0
          (subst (λ (h : ℕ). EndsPast at.nests h at eye last) i.7 (w.is_end.ensures.ends w.if-is_end.true))))
    ]

pub returns-clause-eye : goal.returns-clause-eye
returns-clause-eye c =
    looks_more c.args.eye.now c.loop-self.eye c.life_now.new.eye c.loop-self.invariant.8
    (sees_looks c.loop-self.eye c.life_now.new.eye c.life_now.ensures.eye)

pub returns-clause-answers : goal.returns-clause-answers
returns-clause-answers c =
    let i = c.loop-self.invariant in
    let start = c.args.eye.now in
    let eye = c.loop-self.eye in
    let after = c.life_now.new.eye in
    let from = c.args.self.now in
    let at = c.loop-self.self in
    let j = c.self-2.inside in
    let s : ReaderSearchView = record {
      table = j.nests.now.table;
      first = j.reader.now.first;
      hash = j.hash;
      nests = j.nests.now.nests;
      tag = j.tag;
      nest = j.nest;
      later = j.later;
      lanes = j.lanes;
    } in
    let to : ReaderSearchView = record {
      table = j.nests.now.table;
      first = j.reader.now.first;
      hash = j.hash;
      nests = j.nests.now.nests;
      tag = j.tag;
      nest = j.nest;
      later = j.later;
      lanes = c.without_lowest-self-inside.result;
    } in
    let is : s ≡ at = c.self-2.view_is in
    let life : ItemId = record {
      chunk = (c.life_of-life.result.chunk + c.reader.inside.first) % 2 ^ 32;
      generation = c.life_of-life.result.generation;
    } in
    let first : c.reader.inside.first ≡ j.reader.now.first = ap (λ (r : IndexReaderView). r.first) c.reader.view_is in
    let lanes : c.self.inside.lanes ≡ at.lanes = ap (λ (r : ReaderSearchView). r.lanes) c.self.view_is in
    let lanes_2 : j.lanes ≡ at.lanes = ap (λ (r : ReaderSearchView). r.lanes) is in
    let few = c.self-2.invariant.2 in
    let answers : AnswersPast s.nests from.hash life s to eye after =
    takes_past from.hash (8 * j.nest) c.life_now.result c.lowest-lane.result life s to eye after c.life_now.ensures.eye
    refl c.without_lowest-self-inside.ensures (omega (arith, lanes, lanes_2, c.loop-self-test.false))
    (omega (arith, few)) c.lowest-lane.ensures.bits c.life_now.ensures.life
    (ap₂ (λ (a b : ℕ). (a + b) % 2 ^ 32) (sym c.life_of-life.ensures.chunk) (sym first), sym c.life_of-life.ensures.generation)
    refl refl refl in
    past_answer from.nests from.hash life from at to start eye after i.8 (sees_looks eye after c.life_now.ensures.eye) i.9
    i.10
    (subst (λ (n : ℕ). AnswersPast n from.hash life at to eye after) i.0
    (subst (λ (r : ReaderSearchView). AnswersPast r.nests from.hash life r to eye after) is answers))
