use Rattle.std.proofs.Common.{◌≡◌, ℕ, ◌*◌, Fits, w64, sym, subst, arith}
use Rattle.std.proofs.Math.Facts.{Fits-of_lt}
use Rattle.cache_index.specs.Tags.{tag_in}
use Rattle.cache_index.proofs.TagLemmas.{with_bits, one_at, tag_fits, tags_fit, tag_here, tag_elsewhere}
use Rattle.cache_index.proofs.tags.with_tag.Goals as goal

pub overflow_mul-result-2 : goal.overflow_mul-result-2
overflow_mul-result-2 c =
    let P : ℕ → Type 0 = λ one. Fits w64 (c.args.tag * one) in
    subst P (sym (one_at c.args.lane c.requires.lane))
    (Fits-of_lt {w = w64} (tag_fits c.args.lane c.args.tag c.requires.lane c.requires.tag))

pub overflow_add-result : goal.overflow_add-result
overflow_add-result c =
    let P : ℕ → Type 0 = λ one. Fits w64 (with_bits c.args.tags one c.args.tag) in
    subst P (sym (one_at c.args.lane c.requires.lane))
    (Fits-of_lt {w = w64} (tags_fit c.args.tags c.args.lane c.args.tag c.requires.lane c.requires.tag (omega arith)))

pub returns-clause-here : goal.returns-clause-here
returns-clause-here c =
    let P : ℕ → Type 0 = λ one. tag_in (with_bits c.args.tags one c.args.tag) c.args.lane ≡ c.args.tag in
    subst P (sym (one_at c.args.lane c.requires.lane)) (tag_here c.args.tags c.args.lane c.args.tag c.requires.tag)

pub returns-clause-elsewhere : goal.returns-clause-elsewhere
returns-clause-elsewhere c other apart =
    let P : ℕ → Type 0 = λ one. tag_in (with_bits c.args.tags one c.args.tag) other ≡ tag_in c.args.tags other in
    subst P (sym (one_at c.args.lane c.requires.lane))
    (tag_elsewhere c.args.tags c.args.lane c.args.tag other c.requires.tag apart)
