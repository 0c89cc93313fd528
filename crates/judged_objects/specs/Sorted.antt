-- Lists whose elements have keys: those on one side of a key, and a list with an element in its place.
use Rattle.std.specs.Prelude.{◌==◌, ℕ, Bool, not, nat_lt, List, ◌∷◌, ◌++◌, filter}
use Rattle.judged_objects.specs.declared.sorted.Side.{Side}
use Rattle.judged_objects.specs.declared.sorted.Side.TheVariants.{Below, Beside, Above}

-- whether a number is on this side of another
abbrev pub is_on : Side → (number other : ℕ) → Bool
is_on Below number other = nat_lt number other
is_on Beside number other = not (number == other)
is_on Above number other = nat_lt other number

-- those below a key, an element, and those above the key
abbrev pub placed : {A : Type 0} → (key_of : A → ℕ) → List A → ℕ → A → List A
placed key_of xs key x = filter (λ y. nat_lt (key_of y) key) xs ++ x ∷ filter (λ y. nat_lt key (key_of y)) xs
