use Rattle.std.proofs.Common.{◌≢◌, ◌≤◌, ◌++◌, [], take, length, length-take, ap, ◌∙◌, rules, arith, vec_items}
use Rattle.std.proofs.lemmas.List.Elements.{All-nil, All-append}
use Rattle.std.proofs.KnownBytes.{Consumes-nil, Consumes-trans}
use Rattle.std.proofs.BufReadLemmas.{Consumes_through}
use Rattle.access_logs.proofs.LineLemmas.{kept-more, kept-through}
use Rattle.access_logs.proofs.lines.read_line.Goals as goal

pub loop-init : goal.loop-init
loop-init g c = ([], c.clear.ensures.items, All-nil (λ x. x ≢ 10), Consumes-nil _)

pub read_piece-requires : goal.read_piece-requires
read_piece-requires g c =
    let inv = c.loop.invariant in
    let short : length (vec_items c.loop.line) ≤ 65539 = omega (arith, ap length inv.1, length-take 65539 inv.0) in
    search (rules, short)

pub loop-preserved : goal.loop-preserved
loop-preserved g c =
    let inv = c.loop.invariant in
    let step = c.in_ok-read_piece.ensures.piece in (
      inv.0 ++ step.0,
      step.1 ∙ ap (λ l. take 65539 (l ++ step.0)) inv.1 ∙ kept-more inv.0 step.0 65539,
      All-append (λ x. x ≢ 10) inv.0 step.0 inv.2 (step.4 (search rules)),
      Consumes-trans _ _ _ inv.0 step.0 inv.3 step.2,
    )

pub returns-then-branch-clause-line : goal.returns-then-branch-clause-line
returns-then-branch-clause-line g c =
    let inv = c.loop.invariant in
    let step = c.in_ok-read_piece.ensures.piece in
    let whole = Consumes_through 10 _ _ _ inv.0 step.0 inv.3 inv.2 step.2 step.3 (step.5 c.if-branch.true) (step.6 c.if-branch.true) in
    kept-through _ inv.0 step.0 _ 65539 (step.1 ∙ ap (λ l. take 65539 (l ++ step.0)) inv.1 ∙ kept-more inv.0 step.0 65539) whole.0

pub returns-then-branch-clause-rest : goal.returns-then-branch-clause-rest
returns-then-branch-clause-rest g c =
    let inv = c.loop.invariant in
    let step = c.in_ok-read_piece.ensures.piece in
    (Consumes_through 10 _ _ _ inv.0 step.0 inv.3 inv.2 step.2 step.3 (step.5 c.if-branch.true) (step.6 c.if-branch.true)).1
