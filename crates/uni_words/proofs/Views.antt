-- What holds of each thing that the views tell.
use Rattle.uni_words.proofs.Vocabulary.{All, Contains, Contains-append_cases, Contains-append_right, Contains-get_or, Contains-push_cases, List, View, [], arith, at_set, at_snoc, get_elem?, inl, inr, refl, set, some, subst, sym, ℕ, ◌++◌, ◌∷◌, ◌≡◌, ◌⊎◌}

-- an element of a list is its first, or among the others
pub first_or : {A : Type 0} (x : A) (xs : List A) (c : A) → Contains (x ∷ xs) c → (x ≡ c) ⊎ Contains xs c
first_or x xs c has = elim (Contains-append_cases (x ∷ []) xs c has) [
  | inl one ↦ elim (Contains-push_cases [] x c one) [ inl none ↦ absurd (let k = none.1 in omega arith) | inr same ↦ inl same ]
  | inr more ↦ inr more
]

pub first_there : {A : Type 0} (x : A) (xs : List A) → Contains (x ∷ xs) x
first_there x xs = (0, omega arith, refl)

pub later_there : {A : Type 0} (x : A) (xs : List A) (c : A) → Contains xs c → Contains (x ∷ xs) c
later_there x xs c has = Contains-append_right (x ∷ []) xs c has

-- what holds of each element
pub All-each : {A : Type 0} (P : A → Type 0) (xs : List A) → ((x : A) → Contains xs x → P x) → All P xs
All-each P xs each k d inside = each _ (Contains-get_or xs k d inside)

module _ {A : Type 0} (tells : View → List A) where
  -- P holds of each element of what each view tells
  abbrev pub Holds : (A → Type 0) → List View → Type 0
  Holds P views = (id : ℕ) (v : View) → get_elem? views id ≡ some v → (a : A) → Contains (tells v) a → P a

  -- one view is another one, of which it holds too
  pub Holds-set : (P : A → Type 0) (views : List View) (id : ℕ) (v : View) → Holds P views → ((a : A) → Contains (tells v) a → P a) → Holds P (set views id v)
  Holds-set P views id v old new j u e a has = elim (at_set views id j v u e) [
    | inl mine ↦ new a (subst (λ z. Contains (tells z) a) (sym mine.1) has)
    | inr other ↦ old j u other.1 a has
  ]

  -- one that tells the same
  pub Holds-kept : (P : A → Type 0) (views : List View) (id : ℕ) (v w : View) → get_elem? views id ≡ some v → tells w ≡ tells v → Holds P views → Holds P (set views id w)
  Holds-kept P views id v w at same old = Holds-set P views id w old (λ a has. old id v at a (subst (λ l. Contains l a) same has))

  -- there is one view more
  pub Holds-push : (P : A → Type 0) (views : List View) (v : View) → Holds P views → ((a : A) → Contains (tells v) a → P a) → Holds P (views ++ v ∷ [])
  Holds-push P views v old new j u e a has = elim (at_snoc views v u j e) [
    | inl there ↦ old j u there a has
    | inr last ↦ new a (subst (λ z. Contains (tells z) a) (sym last) has)
  ]

  -- what holds then holds later
  pub Holds-later : (P Q : A → Type 0) (views : List View) → ((a : A) → P a → Q a) → Holds P views → Holds Q views
  Holds-later P Q views later old id v e a has = later a (old id v e a has)
