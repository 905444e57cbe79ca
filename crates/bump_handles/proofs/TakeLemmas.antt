-- Parts are taken out of a row of parts by their numbers.
use Rattle.std.proofs.Common.{◌≡◌, ◌≢◌, ℕ, List, map, Option, Some, None, refl, sym, ap, ◌∙◌}
use Rattle.std.proofs.lemmas.List.{map-set}
use Rattle.std.proofs.lemmas.Option.{slice_get-map}
use Rattle.std.specs.Prelude.{option_map, slice_get, slice_set, slice_index_or}
use Rattle.bump_handles.specs.Opening.{TakesPart}
use Rattle.bump_handles.proofs.PlaceLemmas.{put_back}

-- a part that isn't there isn't seen there
absent : {A B : Type 0} (f : A → B) (x : Option (Option A)) (part : B) → ((it : A) → x ≢ Some (Some it))
    → option_map (option_map f) x ≢ Some (Some part)
absent f None part free there = absurd (cc)
absent f (Some None) part free there = absurd (cc)
absent f (Some (Some it)) part free there = free it refl

-- the part that stood there is taken
pub takes_there : {A : Type 0} (n : ℕ) (before after : List (Option A)) (x answer : Option A) → slice_get before n ≡ Some x
    → x ≡ slice_index_or before n x → answer ≡ x → after ≡ slice_set before n None → TakesPart A n before after answer
takes_there n before after x None there read is left = record {
  taken = tt;
  left = tt;
  none = λ part found. absurd (cc);
  unchanged = left ∙ ap (slice_set before n) is ∙ put_back before n x read;
}
takes_there n before after x (Some it) there read is left = record {
  taken = there ∙ ap (λ (y : Option _). Some y) (sym is);
  left = left;
  none = tt;
  unchanged = tt;
}

-- what taking a part is to what is seen of the parts
pub takes_seen : {A B : Type 0} (f : A → B) (n : ℕ) (before after : List (Option A)) (answer : Option A)
    → TakesPart A n before after answer
    → TakesPart B n (map (option_map f) before) (map (option_map f) after) (option_map f answer)
takes_seen f n before after None t = record {
  taken = tt;
  left = tt;
  none = λ part there. absent f (slice_get before n) part t.none (sym (slice_get-map (option_map f) before n) ∙ there);
  unchanged = ap (map (option_map f)) t.unchanged;
}
takes_seen f n before after (Some it) t = record {
  taken = slice_get-map (option_map f) before n ∙ ap (option_map (option_map f)) t.taken;
  left = ap (map (option_map f)) t.left ∙ map-set (option_map f) before n None;
  none = tt;
  unchanged = tt;
}
