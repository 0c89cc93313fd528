-- A legal sequential history, by recursion and place by place.
use Rattle.std.proofs.Common.{◌≡◌, ◌∙◌, zero, suc, List, [], ◌∷◌, Option, Some, None, IfSome, refl, ap, sym}
use Rattle.seq_object.specs.Sequential.{Sequential}
use Rattle.seq_object.specs.History.{Call, IsLegal, IsLegalByPlaces}

module _ {S I R : Type 0} (object : Sequential S I R) where
  pub IsLegalByPlaces-from_IsLegal : (s : S) (calls : List (Call I R)) → IsLegal object s calls → IsLegalByPlaces object s calls
  IsLegalByPlaces-from_IsLegal s [] legal place call r at given = cc
  IsLegalByPlaces-from_IsLegal s (c ∷ cs) legal zero call r at given =
      let same : c ≡ call = cc in
      let told : c.response ≡ Some r = ap (λ (x : Call I R). x.response) same ∙ given in
      let right = rw told at legal.0 in
      ap Some (sym right)
  IsLegalByPlaces-from_IsLegal s (c ∷ cs) legal (suc place) call r at given =
      IsLegalByPlaces-from_IsLegal (object.next s c.inv) cs legal.1 place call r at given

  -- what is given at the first place
  first_is_answer : (s : S) (c : Call I R) (cs : List (Call I R)) → IsLegalByPlaces object s (c ∷ cs)
      → (o : Option R) → c.response ≡ o → IfSome o (λ r. r ≡ object.answer s c.inv)
  first_is_answer s c cs places None given = tt
  first_is_answer s c cs places (Some r) given = let right = places 0 c r refl given in cc

  pub IsLegal-from_IsLegalByPlaces : (s : S) (calls : List (Call I R)) → IsLegalByPlaces object s calls → IsLegal object s calls
  IsLegal-from_IsLegalByPlaces s [] places = tt
  IsLegal-from_IsLegalByPlaces s (c ∷ cs) places = (
    first_is_answer s c cs places c.response refl,
    IsLegal-from_IsLegalByPlaces (object.next s c.inv) cs (λ place call r at given. places (suc place) call r at given),
  )
