use Rattle.std.proofs.Common.{◌≡◌, ℕ, ◌-◌, ◌≤◌, take, drop, replicate, length, length-take-le, sym, ap, subst, ◌∙◌, arith}
use Rattle.std.specs.Io.KnownBytes.{Consumes}
use Rattle.access_logs.proofs.PaddedBytes.{padding-consumed, padding-end, take-front, some-length}
use Rattle.access_logs.proofs.padded.PaddedRead.read.Goals as goal

pub returns-clause-bytes : goal.returns-clause-bytes
returns-clause-bytes g c =
    let buf = c.read.new.buf in
    let padding = c.min-padding.result in
    let left = c.args.self.now.left in
    let none_read : c.in_ok-count.count ≡ 0 = omega (arith, c.if-count-gt0.false) in
    let some = some-length (length buf) (sym c.is_empty.ensures ∙ c.if-is_empty.false) in
    let few : padding ≤ left = omega (arith, c.min-padding.ensures) in
    let fits : padding ≤ length buf = omega (arith, c.min-padding.ensures) in
    let long = length-take-le padding buf fits in
    let filled = c.fill.ensures.after (λ y same. same) ∙ ap (λ n. replicate {A = ℕ} n 10) long in
    let front = take-front c.fill.new.self (drop padding buf) padding (c.fill.ensures.len ∙ long) ∙ filled in
    let consumed = subst (λ n. Consumes (g.R.Read.remaining c.args.self.now.inner) (g.R.Read.remaining c.read.new.self) (take n buf)) none_read c.in_ok-count.ensures.bytes.0 in
    let end = c.in_ok-count.ensures.bytes.1 none_read some in (
      padding-consumed _ _ left padding 10 _ consumed end front few,
      λ none _. padding-end _ (left - padding) 10 end (omega (arith, none, some, c.min-padding.ensures)),
    )
