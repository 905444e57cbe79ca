use Rattle.std.proofs.Common.{◌≡◌, ℕ, ◌<◌, List, [], ◌∷◌, sym, ◌∙◌, ap, subst}
use mathlib.Core.List.{IsPrefix}
use Rattle.call_log.specs.Laws.{states_in, values_in}
use Rattle.call_log.specs.Logs.{calls_of}
use Rattle.call_log.specs.Steps.{HasDone}
use Rattle.call_log.specs.Tallies.{calls_asked, calls_known, name_in, number_asked}
use Rattle.call_log.proofs.Asking.{asked_at}
use Rattle.call_log.proofs.Seeing.{extends, goes_begun}
use Rattle.call_log.proofs.Steps.{asks_moves}
use Rattle.call_log.proofs.fronts.Front.step.Goals as goal

-- the load keeps the rule
pub load-requires : goal.load-requires
load-requires g c =
    let h = c.head.invariant in
    let offer = c.ask-offer.ensures in
    let ask = g.M.Plain.ask c.args.about.now in
    let k = c.head.inside.word.key in
    let mine = c.self.inside.seen.log in
    let joined = c.learn.new.self.log in
    let this : IsPrefix mine joined = subst (λ (l : List (g.row.E.Denot × ℕ)). IsPrefix l joined)
    (ap (λ s. s.log) c.again-seen.ensures) c.learn.ensures.2 in
    let values : values_in joined ≡ c.args.self.now.values =
    (extends g.E.State.some_state 0 0 mine joined c.self.invariant.1 this).values ∙ ap (λ v. v.values) c.self.view_is in
    let few : k < values_in joined = rw (c.head.view_is, values) c.requires.of in
    let own : number_asked g.E.State.number ask < values_in joined = rw (c.requires.request, values) c.requires.of in
    let book = c.learn.ensures.0 ∙ (ap (λ s. s.book) c.again-seen.ensures ∙ (c.self.invariant.0 ∙ sym (ap (λ w. w.book) h))) in
    let names = offer.names ∙ (ap (λ (n : ℕ). n ∷ []) (c.requires.tally.named ∙ sym (ap (λ v. v.name) c.self.view_is))
    ∙ (sym c.self.invariant.2 ∙ (sym (ap (λ s. s.names) c.again-seen.ensures) ∙ sym c.learn.ensures.1))) in (
      ap (λ w. w.tracked) h,
      book,
      names,
      rw (offer.request, offer.waits) (asks_moves g.E.State.number joined ask k (goes_begun mine joined c.self.invariant.1 this) few own),
    )

-- the request was done on the whole log, which has what both had seen
pub returns-clause-did : goal.returns-clause-did
returns-clause-did g c =
    let number_of = g.E.State.number in
    let ask = g.M.Plain.ask c.args.about.now in
    let mine = c.self.inside.seen.log in
    let theirs = c.other.inside.seen.log in
    let joined = c.learn.new.self.log in
    let after = c.load.new.seen.log in
    let state = c.load.new.offer.state in
    let calls = c.args.tally.now.calls in
    let this : IsPrefix mine joined = subst (λ (l : List (g.row.E.Denot × ℕ)). IsPrefix l joined)
    (ap (λ s. s.log) c.again-seen.ensures) c.learn.ensures.2 in
    let count : calls ≡ calls_of number_of (number_asked number_of ask) (states_in mine) = c.requires.tally.counts
    ∙ (ap (λ (n : ℕ). calls_of number_of n c.args.self.now.log) (sym c.requires.request)
    ∙ sym (ap (λ v. calls_of number_of (number_asked number_of ask) v.log) c.self.view_is)) in
    let answered : c.into_gain.result.answer ≡ calls_asked ask calls = c.settle.ensures.answer
    ∙ ap calls_known (c.into_gain.ensures.1 ∙ (c.load.ensures.4 ∙ c.ask-offer.ensures.known)) in
    let same : name_in c.load.new.seen.names ≡ name_in c.self.inside.seen.names =
    ap name_in (c.load.ensures.1 ∙ (c.learn.ensures.1 ∙ ap (λ s. s.names) c.again-seen.ensures)) in
    rw (← c.self.view_is, ← c.other.view_is) (asked_at number_of g.E.State.some_state ask
    (name_in c.self.inside.seen.names) (name_in c.other.inside.seen.names) (name_in c.load.new.seen.names) calls
    c.into_gain.result.answer state mine theirs joined after same c.self.invariant.1 c.other.invariant.1 this
    c.learn.ensures.3 count c.into_gain.ensures.2 answered
    (subst (λ (e : g.row.E.Denot × ℕ). HasDone number_of e joined after state) c.ask-offer.ensures.request c.load.ensures.6.1))
