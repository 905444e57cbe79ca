-- Lemmas on how many bytes the fields of a record have in all.
use Rattle.std.proofs.Common.{◌≡◌, ℕ, zero, suc, ◌+◌, ◌<◌, ◌≤◌, true, List, [], ◌∷◌, length, take, sym, ap, refl, arith, take_all, zero-le, true≢false}
use Rattle.std.specs.Prelude.{Some, is_some, unwrap_or}
use Rattle.csv.specs.Records.{field_at}
use Rattle.access_logs.specs.Records.{bytes_in}

-- the first fields have no more than all
pub bytes_in-take : (fields : List (List ℕ)) (n : ℕ) → bytes_in (take n fields) ≤ bytes_in fields
bytes_in-take [] n = let none = ap bytes_in (take_all n [] zero-le) in omega (arith, none)
bytes_in-take (field ∷ fields) zero = omega arith
bytes_in-take (field ∷ fields) (suc n) = let rest = bytes_in-take fields n in omega (arith, rest)

-- one field more
pub bytes_in-next : (fields : List (List ℕ)) (n : ℕ) (field : List ℕ) → field_at fields n ≡ Some field → bytes_in (take (suc n) fields) ≡ bytes_in (take n fields) + length field
unfolding field_at
bytes_in-next [] n field is = absurd (true≢false (sym (ap is_some is)))
bytes_in-next (first ∷ fields) zero field is = let same = ap (λ o. length (unwrap_or o [])) is in omega (arith, same)
bytes_in-next (first ∷ fields) (suc n) field is = let rest = bytes_in-next fields n field is in omega (arith, rest)

-- there is a field at each place before the end
pub field_at-some : (fields : List (List ℕ)) (n : ℕ) → n < length fields → is_some (field_at fields n) ≡ true
unfolding field_at
field_at-some [] n before = absurd (omega (arith, before))
field_at-some (first ∷ fields) zero before = refl
field_at-some (first ∷ fields) (suc n) before = field_at-some fields n (omega (arith, before))
