-- Whether two places are one, and memory that stays as it is.
use Rattle.uni_model.proofs.Vocabulary.{AfterOf, Announced, BeforeOf, Grows, HeadOf, InvOf, Memory, NewOf, Place, SeqOf, arith, false, nat_tests, place_eq, refl, subst, sym, true, ◌≡◌, ◌≢◌}
use Rattle.uni_model.proofs.Written.{name_eq_same}

pub place_eq_same : (x : Place) → place_eq x x ≡ true
place_eq_same (Announced p) = grind (arith, nat_tests)
place_eq_same (HeadOf p) = grind (arith, nat_tests)
place_eq_same (InvOf x) = name_eq_same x
place_eq_same (SeqOf x) = name_eq_same x
place_eq_same (AfterOf x) = name_eq_same x
place_eq_same (NewOf x) = name_eq_same x
place_eq_same (BeforeOf x) = name_eq_same x

pub place_eq_false : (x y : Place) → place_eq x y ≡ false → x ≢ y
place_eq_false x y e same = let t = place_eq_same x in let f : place_eq x x ≡ false = subst (λ z. place_eq x z ≡ false) (sym same) e in cc

pub Grows-same : {S I R : Type 0} (m : Memory S I R) → Grows m m
Grows-same m = record { seq = λ x h. refl; after = λ x y e. e; new = λ x v e. e; before = λ x y e. e; inv = λ x i e. e }
