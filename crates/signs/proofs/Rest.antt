-- What is left of a list, one element on and at its end.
use Rattle.std.proofs.Common.{◌≡◌, ◌∙◌, ℕ, ◌+◌, ◌<◌, ◌≤◌, List, [], ◌∷◌, length, get_or, drop, ap, sym, subst}
use Rattle.std.proofs.lemmas.List.{drop_more, drop_all}

pub more : {A : Type 0} (P : List A → Type 0) (xs : List A) (i : ℕ) (x : A) → i < length xs → x ≡ get_or xs i x → P (x ∷ drop (i + 1) xs) → P (drop i xs)
more P xs i x inside is = subst P (sym (drop_more xs i x inside ∙ ap (λ y. y ∷ drop (i + 1) xs) (sym is)))

pub more_at : {A : Type 0} (P : List A → Type 0) (xs : List A) (i : ℕ) (d : A) → i < length xs → P (get_or xs i d ∷ drop (i + 1) xs) → P (drop i xs)
more_at P xs i d inside = subst P (sym (drop_more xs i d inside))

pub none : {A : Type 0} (P : List A → Type 0) (xs : List A) (i : ℕ) → length xs ≤ i → P [] → P (drop i xs)
none P xs i past = subst P (sym (drop_all i xs past))
