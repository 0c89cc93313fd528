-- Copies that share what they are of.
use Rattle.std.specs.Prelude.{◌≡◌, List, [], ◌∷◌, map, refl}
use Rattle.std.specs.List.{AllZip}

-- where f doesn't tell a copy from what it is of, it doesn't tell the lists
pub same_values : {A B : Type 0} (f : A → B) (xs ys : List A) → AllZip (λ x y. f y ≡ f x) xs ys → map f ys ≡ map f xs
same_values f [] [] all = refl
same_values f [] (y ∷ ys) all = absurd all
same_values f (x ∷ xs) [] all = absurd all
same_values f (x ∷ xs) (y ∷ ys) all = (λ j. all.0 j ∷ same_values f xs ys all.1 j)
