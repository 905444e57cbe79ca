use Rattle.std.proofs.Common.{◌≡◌, ℕ, suc, ◌+◌, List, ap, ◌∙◌, arith}
use Rattle.std.specs.Prelude.{replicate}
use Rattle.packed_words.specs.Spelling.{words_for}
use Rattle.cache_handles.specs.Desks.{DeskView}
use Rattle.cache_handles.proofs.desks.Desk.new.Goals as goal

pub returns : goal.returns
returns g c =
    let made : List ℕ → List ℕ → List ℕ → DeskView = λ key had entry. record {
      shelf = c.args.shelf;
      place = c.args.place;
      key_bytes = c.args.key_bytes;
      value_bytes = c.args.value_bytes;
      key = key;
      had = had;
      entry = entry;
    } in
    let keys : ℕ = c.words_for-key_words.result in
    let values : ℕ = c.words_for.result in
    let zeros : ℕ → List ℕ = λ n. replicate n 0 in
    let key : c.in_ok-vec.field-0.items ≡ zeros (words_for c.args.key_bytes) =
    c.in_ok-vec.ensures.items_if_clones_equal (λ y e. e) ∙ ap zeros c.words_for-key_words.ensures in
    let had_long : 1 + (values + 1) ≡ suc (suc (words_for c.args.value_bytes)) = omega (arith, c.words_for.ensures) in
    let had : c.in_ok-vec-2.field-0.items ≡ zeros (suc (suc (words_for c.args.value_bytes))) =
    c.in_ok-vec-2.ensures.items_if_clones_equal (λ y e. e) ∙ ap zeros had_long in
    let entry_long : 1 + keys + (values + 1) ≡ suc (words_for c.args.key_bytes + suc (words_for c.args.value_bytes)) =
    omega (arith, c.words_for.ensures, c.words_for-key_words.ensures) in
    let entry : c.in_ok-vec-4.field-0.items
    ≡ zeros (suc (words_for c.args.key_bytes + suc (words_for c.args.value_bytes))) =
    c.in_ok-vec-4.ensures.items_if_clones_equal (λ y e. e) ∙ ap zeros entry_long in
    ap (λ it. made it c.in_ok-vec-2.field-0.items c.in_ok-vec-4.field-0.items) key
    ∙ (ap (λ it. made (zeros (words_for c.args.key_bytes)) it c.in_ok-vec-4.field-0.items) had
    ∙ ap (made (zeros (words_for c.args.key_bytes)) (zeros (suc (suc (words_for c.args.value_bytes))))) entry)
