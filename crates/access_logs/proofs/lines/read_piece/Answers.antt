use Rattle.std.proofs.Common.{◌≡◌, ◌≢◌, ◌-◌, ◌≤◌, min, ◌++◌, All, take, length, sym, ap, subst, ◌∙◌, rules, arith, eq-eqb, eqb-true, get_or, get_or-take, length-take-le, take_all, append-nil, true, []}
use Rattle.std.specs.Prelude.{is_ok}
use Rattle.std.specs.Io.BufRead.{FillKeeps, DropsConsumable}
use Rattle.std.proofs.lemmas.List.Elements.{All-more, All-nil}
use Rattle.std.proofs.KnownBytes.{Consumes-nil, Consumes-kept}
use Rattle.std.proofs.BufReadLemmas.{Consumes_shown, zero_unless_positive}
use Rattle.std.proofs.Transfers.{StopsAt-of_All, StopsAt-take}
use Rattle.access_logs.proofs.LineLemmas.{kept-piece}
use Rattle.access_logs.proofs.lines.read_piece.Goals.{then-end-eq0, else-end-eq0}
use Rattle.access_logs.proofs.lines.read_piece.Goals as goal

pub returns-then-eq-clause-piece : goal.returns-then-eq-clause-piece
returns-then-eq-clause-piece g c =
    let items = c.args.line.now.items in (
      [],
      sym (ap (take 65539) (append-nil items) ∙ take_all 65539 items (search rules)),
      Consumes-kept _ _ _ [] (Consumes-nil _) c.fill_buf.follows.holds-at-none.0,
      StopsAt-of_All [] 10 (All-nil (λ x. x ≢ 10)),
      λ _. All-nil (λ x. x ≢ 10),
      search rules,
      search rules,
    )

pub returns-clause-piece : goal.returns-clause-piece
returns-clause-piece g c =
    let shown = c.in-Ok.shown.now in
    let items = c.args.line.now.items in
    let room : length items ≤ 65539 = search rules in
    let kept : c.min-kept.result ≡ min c.len_through-end.result (65539 - length items) = search rules in
    let end = c.len_through-end in
    let filled : is_ok c.extend_from_slice.result ≡ true = search rules in
    let rested = c.fill_buf.follows.lender-at-none in
    let keeps = subst (FillKeeps _ (g.B.Read.remaining rested) (g.B.BufRead.consumable_len rested)) c.in-Ok.is c.fill_buf.follows.holds-at-none in
    let same : c.if-end-eq0.source ≡ rested = search rules in
    let drops = subst (λ r. DropsConsumable (g.B.Read.remaining r) (g.B.Read.remaining c.consume.new.self) (g.B.BufRead.consumable_len r) end.result) same c.consume.ensures.bytes in
    let moved = Consumes_shown _ _ _ _ shown end.result end.ensures.bound c.in-Ok.ensures.front c.in-Ok.ensures.end keeps.0 keeps.1 drops in
    let long = length-take-le end.result shown end.ensures.bound in (
      take end.result shown,
      rw filled at c.extend_from_slice.ensures.items ∙ ap (λ k. items ++ take k shown) kept ∙ kept-piece items shown end.result 65539 room,
      moved.0,
      StopsAt-take _ _ _ end.ensures.bound end.ensures.before,
      λ more. elim c.if-end-eq0.branch [
        | then-end-eq0 w ↦ absurd (more (search rules))
        | else-end-eq0 w ↦ subst (λ k. All (λ x. x ≢ 10) (take k shown)) (omega (arith, w.if-end-eq0.false))
            (All-more (λ x. x ≢ 10) _ (end.result - 1) 0 (omega (arith, w.if-end-eq0.false, end.ensures.bound)) end.ensures.before (λ e. more (w.is_done-is ∙ eq-eqb _ _ e)))
      ],
      λ done some. elim c.if-end-eq0.branch [
        | then-end-eq0 w ↦ absurd (omega (arith, w.if-end-eq0.true, long, some))
        | else-end-eq0 w ↦ ap (λ n. get_or (take end.result shown) (n - 1) 0) long
            ∙ get_or-take end.result shown (end.result - 1) 0 (omega (arith, some, long)) ∙ eqb-true _ _ (sym w.is_done-is ∙ done)
      ],
      λ _ none. moved.1 (zero_unless_positive _ _ end.ensures.some (sym long ∙ none)),
    )
