-- Which lanes there are from a place on and before another.
use Rattle.std.specs.Prelude.{◌≡◌, ℕ, ◌&&◌, nat_lt, min, max, fold, Bool, List, [], ◌∷◌, refl}
use Rattle.run_layout.specs.Vocabulary.{filter, Stretch}

-- whether an era is there from a place on and before another
abbrev pub is_between : (from to : ℕ) → Stretch → Bool
is_between from to stretch = nat_lt stretch.from to && nat_lt from stretch.to

-- the most lanes of the eras that are
abbrev pub most_between : List Stretch → (from to : ℕ) → ℕ
most_between stretches from to = fold (λ most stretch. max stretch.lanes most) 0 (filter (is_between from to) stretches)

-- the most lanes of such an era, 64 at most
abbrev pub lanes_between : List Stretch → (from to : ℕ) → ℕ
lanes_between stretches from to = min (most_between stretches from to) 64

-- an era of two lanes ends where one of three begins: before that place there are two, from it on there are three
abbrev two_eras : List Stretch
two_eras = record { from = 0; to = 40; lanes = 2 } ∷ record { from = 40; to = 90; lanes = 3 } ∷ []

lanes_of_three : lanes_between two_eras 10 40 ∷ lanes_between two_eras 10 41 ∷ lanes_between two_eras 90 95 ∷ [] ≡ 2 ∷ 3 ∷ 0 ∷ []
lanes_of_three = refl
