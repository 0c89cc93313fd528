-- The place of a name's pair among the pairs of a directory, and what follows from it.
use Rattle.ready_objects.proofs.Vocabulary.{AddsName, All, All-from_recursion, All-push, AreNamed, Bool, IsDistinct, List, None, Option, Pairs, Some, [], ap, arith, bytes_eq, cases_Bool, cond, false, get_or, get_or-map, get_or-take, get_or_from_slice_get, inl, inr, length, length-take, list_any, lookup, map, map-append, map-set, named, nat_tests, position, position_or_len, refl, remove, remove_entry, set, set_value, slice_get, slice_get_within, subst, suc, sym, take, take-append-le, true, value_of, zero, ℕ, ◌++◌, ◌+◌, ◌<◌, ◌==◌, ◌∙◌, ◌∷◌, ◌≡◌, ◌≤◌}
use Rattle.std.proofs.Common.{nat_lt, if◌then◌else◌, lt-ltb}
use Rattle.std.specs.Option.{MatchOption, option_map}
use Rattle.std.specs.Cmp.Lexicographic.{bytes_decides}
use Rattle.std.proofs.Math.Seq.{take-length}
use Rattle.indexmap.specs.IndexSet.{insert_key}
use Rattle.ready_objects.specs.declared.directory.Pair.{Pair}

module _ {A : Type 0} (test : A → Bool) where
  -- the item at the place passes, and none before it
  abbrev pub IsFirst : List A → ℕ → Type 0
  IsFirst [] place = ⊥
  IsFirst (x ∷ xs) zero = test x ≡ true
  IsFirst (x ∷ xs) (suc place) = (test x ≡ false) × IsFirst xs place

  -- no item passes
  abbrev pub NonePasses : List A → Type 0
  NonePasses [] = Unit {0}
  NonePasses (x ∷ xs) = (test x ≡ false) × NonePasses xs

  one_later : (n len : ℕ) → cond (nat_lt (1 + n) (suc len)) (Some (1 + n)) None ≡ option_map suc (cond (nat_lt n len) (Some n) None)
  one_later n len =
      elim (cases_Bool (nat_lt n len)) [
        | inl e ↦ let later : nat_lt (1 + n) (suc len) ≡ true = grind (arith, nat_tests) in rw (e, later) (ap Some (omega arith))
        | inr e ↦ let later : nat_lt (1 + n) (suc len) ≡ false = grind (arith, nat_tests) in rw (e, later) refl
      ]

  position-cons : (x : A) (xs : List A) → position test (x ∷ xs) ≡ cond (test x) (Some 0) (option_map suc (position test xs))
  position-cons x xs =
      elim (cases_Bool (test x)) [
        | inl same ↦ let within : nat_lt 0 (suc (length xs)) ≡ true = lt-ltb 0 (suc (length xs)) (omega arith) in rw (same, within) refl
        | inr other ↦ rw other (one_later (position_or_len test xs) (length xs))
      ]

  place_of : (xs : List A) → MatchOption (position test xs) (NonePasses xs) (IsFirst xs)
  place_of [] = tt
  place_of (x ∷ xs) =
      let at = λ (b : Bool). cond b (Some 0) (option_map suc (position test xs)) in
      elim (cases_Bool (test x)) [
        | inl same ↦ subst (λ r. MatchOption r (NonePasses (x ∷ xs)) (IsFirst (x ∷ xs))) (sym (position-cons x xs ∙ ap at same)) same
        | inr other ↦ subst (λ r. MatchOption r (NonePasses (x ∷ xs)) (IsFirst (x ∷ xs))) (sym (position-cons x xs ∙ ap at other)) (by (position test xs) other (place_of xs))
      ]
    where
      by : (r : Option ℕ) → test x ≡ false → MatchOption r (NonePasses xs) (IsFirst xs) → MatchOption (option_map suc r) (NonePasses (x ∷ xs)) (IsFirst (x ∷ xs))
      by None other none = (other, none)
      by (Some place) other first = (other, first)

  -- what `position` says
  pub first_of : (xs : List A) (place : ℕ) → position test xs ≡ Some place → IsFirst xs place
  first_of xs place at = subst (λ r. MatchOption r (NonePasses xs) (IsFirst xs)) at (place_of xs)

  pub none_of : (xs : List A) → position test xs ≡ None → NonePasses xs
  none_of xs at = subst (λ r. MatchOption r (NonePasses xs) (IsFirst xs)) at (place_of xs)

  -- at the place the item passes
  pub passes : (xs : List A) (place : ℕ) (d : A) → IsFirst xs place → test (get_or xs place d) ≡ true
  passes [] place d first = absurd first
  passes (x ∷ xs) zero d first = first
  passes (x ∷ xs) (suc place) d first = passes xs place d first.1

  pub within : (xs : List A) (place : ℕ) → IsFirst xs place → place < length xs
  within [] place first = absurd first
  within (x ∷ xs) zero first = omega arith
  within (x ∷ xs) (suc place) first = omega (arith, within xs place first.1)

  pub fails : (xs : List A) (place : ℕ) (d : A) → NonePasses xs → place < length xs → test (get_or xs place d) ≡ false
  fails [] place d none below = absurd (omega arith)
  fails (x ∷ xs) zero d none below = none.0
  fails (x ∷ xs) (suc place) d none below = fails xs place d none.1 (omega arith)

  pub position-none : (xs : List A) → NonePasses xs → position test xs ≡ None
  position-none [] none = refl
  position-none (x ∷ xs) none = rw (position-cons x xs, none.0, position-none xs none.1) refl

-- where one test passes each item as the other does what it is mapped to, both have one place
pub position-map : {A B : Type 0} (f : A → B) (test : B → Bool) (mine : A → Bool) (xs : List A)
    → All (λ x. test (f x) ≡ mine x) xs → position test (map f xs) ≡ position mine xs
position-map f test mine [] same = refl
position-map f test mine (x ∷ xs) same =
    let later = position-map f test mine xs (λ k d below. same (suc k) d (omega arith)) in
    let here : test (f x) ≡ mine x = same 0 x (omega arith) in
    position-cons test (f x) (map f xs) ∙ (λ j. cond (here j) (Some 0) (option_map suc (later j))) ∙ sym (position-cons mine x xs)

map-remove : {A B : Type 0} (f : A → B) (xs : List A) (i : ℕ) → map f (remove xs i) ≡ remove (map f xs) i
map-remove f [] zero = refl
map-remove f [] (suc i) = refl
map-remove f (x ∷ xs) zero = refl
map-remove f (x ∷ xs) (suc i) = ap (λ rest. f x ∷ rest) (map-remove f xs i)

module _ {K V : Type 0} (test : K → Bool) where
  -- what a look-up, a write and a removal do at the place of the first key that passes
  pub lookup-first : (es : List (K × V)) (place : ℕ) (d : K × V) → IsFirst (λ e. test e.0) es place → lookup test es ≡ Some (get_or es place d).1
  lookup-first [] place d first = absurd first
  lookup-first (e ∷ es) zero d first = rw first refl
  lookup-first (e ∷ es) (suc place) d first = rw first.0 (lookup-first es place d first.1)

  pub set_value-first : (es : List (K × V)) (place : ℕ) (v : V) (d : K × V) → IsFirst (λ e. test e.0) es place → set_value test es v ≡ set es place ((get_or es place d).0, v)
  set_value-first [] place v d first = absurd first
  set_value-first (e ∷ es) zero v d first = rw first refl
  set_value-first (e ∷ es) (suc place) v d first = rw first.0 (ap (λ rest. e ∷ rest) (set_value-first es place v d first.1))

  pub remove_entry-first : (es : List (K × V)) (place : ℕ) → IsFirst (λ e. test e.0) es place → remove_entry test es ≡ remove es place
  remove_entry-first [] place first = absurd first
  remove_entry-first (e ∷ es) zero first = rw first refl
  remove_entry-first (e ∷ es) (suc place) first = rw first.0 (ap (λ rest. e ∷ rest) (remove_entry-first es place first.1))

  -- and where no key passes
  pub lookup-none : (es : List (K × V)) → NonePasses (λ e. test e.0) es → lookup test es ≡ None
  lookup-none [] none = refl
  lookup-none (e ∷ es) none = rw none.0 (lookup-none es none.1)

  pub set_value-none : (es : List (K × V)) (v : V) → NonePasses (λ e. test e.0) es → set_value test es v ≡ es
  set_value-none [] v none = refl
  set_value-none (e ∷ es) v none = rw none.0 (ap (λ rest. e ∷ rest) (set_value-none es v none.1))

  pub remove_entry-none : (es : List (K × V)) → NonePasses (λ e. test e.0) es → remove_entry test es ≡ es
  remove_entry-none [] none = refl
  remove_entry-none (e ∷ es) none = rw none.0 (ap (λ rest. e ∷ rest) (remove_entry-none es none.1))

-- among distinct names the name at an index is this one exactly where the index is this one's
same_index : (names : List (List ℕ)) (name : List ℕ) (index other : ℕ) → IsDistinct bytes_eq names → IsFirst (bytes_eq name) names index
    → other < length names → bytes_eq name (get_or names other []) ≡ (other == index)
unfolding IsDistinct
same_index [] name index other distinct first below = absurd first
same_index (n ∷ names) name zero zero distinct first below = first
same_index (n ∷ names) name zero (suc other) distinct first below =
    let same : name ≡ n = (bytes_decides name n).0 first in
    let apart : (suc other == 0) ≡ false = grind (arith, nat_tests) in
    rw (same, apart) (All-from_recursion (λ y. bytes_eq n y ≡ false) names distinct.0 other [] (omega arith))
same_index (n ∷ names) name (suc index) zero distinct first below =
    let apart : (0 == suc index) ≡ false = grind (arith, nat_tests) in rw apart first.0
same_index (n ∷ names) name (suc index) (suc other) distinct first below =
    let same : (suc other == suc index) ≡ (other == index) = grind (arith, nat_tests) in
    rw same (same_index names name index other distinct.1 first.1 (omega arith))

module _ (names : List (List ℕ)) (pairs : List Pair) (are : AreNamed names pairs) (name : List ℕ) where
  -- the place of a name's pair is that of its index
  pub place_at_index : (index : ℕ) → position (bytes_eq name) names ≡ Some index
      → position (λ pair. bytes_eq name pair.0) (map (named names) pairs) ≡ position (λ pair. pair.name == index) pairs
  place_at_index index at =
      position-map (named names) (λ pair. bytes_eq name pair.0) (λ pair. pair.name == index) pairs
      (λ k d below. same_index names name index (get_or pairs k d).name are.0 (first_of (bytes_eq name) names index at) (are.1 k d below))

  -- and a name that isn't among the names has no pair
  pub no_place : position (bytes_eq name) names ≡ None → position (λ pair. bytes_eq name pair.0) (map (named names) pairs) ≡ None
  no_place at =
      position-map (named names) (λ pair. bytes_eq name pair.0) (λ _. false) pairs (λ k d below. fails (bytes_eq name) names (get_or pairs k d).name [] (none_of (bytes_eq name) names at) (are.1 k d below))
      ∙ position-none (λ _. false) pairs (never pairs)
    where
      never : (ps : List Pair) → NonePasses (λ _. false) ps
      never [] = tt
      never (p ∷ ps) = (refl, never ps)

-- an inserted name
pub AddsName-inserted : (names later : List (List ℕ)) (name stored : List ℕ) (index : ℕ) → later ≡ insert_key bytes_eq names name → IsDistinct bytes_eq later
    → slice_get later index ≡ Some stored → bytes_eq name stored ≡ true → AddsName names later name index
AddsName-inserted names later name stored index inserted distinct at same =
    let begins = by (list_any (bytes_eq name) names) in
    (ap (take (length names)) inserted ∙ begins, distinct, slice_get_within later index stored at, get_or_from_slice_get later index stored [] at ∙ sym ((bytes_decides name stored).0 same))
  where
    by : (b : Bool) → take (length names) (if b then names else names ++ name ∷ []) ≡ names
    by true = take-length names
    by false = take-append-le (length names) names (name ∷ []) (omega arith) ∙ take-length names

-- a name that is there
pub AddsName-there : (names : List (List ℕ)) (name : List ℕ) (index : ℕ) → IsDistinct bytes_eq names → position (bytes_eq name) names ≡ Some index
    → AddsName names names name index
AddsName-there names name index distinct at =
    let first = first_of (bytes_eq name) names index at in
    (take-length names, distinct, within (bytes_eq name) names index first, sym ((bytes_decides name (get_or names index [])).0 (passes (bytes_eq name) names index [] first)))

module _ (names later : List (List ℕ)) (name : List ℕ) (index : ℕ) (adds : AddsName names later name index) where
  -- where names are added, the pairs stay
  pub named-later : (pairs : List Pair) → AreNamed names pairs → map (named later) pairs ≡ map (named names) pairs
  named-later [] are = refl
  named-later (pair ∷ pairs) are =
      let below : pair.name < length names = are.1 0 pair (omega arith) in
      let same : get_or later pair.name [] ≡ get_or names pair.name [] = sym (get_or-take (length names) later pair.name [] below) ∙ ap (λ ns. get_or ns pair.name []) adds.0 in
      let rest = named-later pairs (are.0, λ k d under. are.1 (suc k) d (omega arith)) in
      (λ j. (same j, pair.value) ∷ rest j)

  length-later : length names ≤ length later
  length-later = omega (arith, length-take (length names) later, ap length adds.0)

  -- and one with the added name goes last
  pub AreNamed-push : (pairs : List Pair) (v : ℕ) → AreNamed names pairs → AreNamed later (pairs ++ record { name = index; value = v } ∷ [])
  AreNamed-push pairs v are =
      (adds.1, All-push (λ pair. pair.name < length later) pairs (record { name = index; value = v }) (λ k d below. omega (arith, are.1 k d below, length-later)) adds.2)

  pub named-push : (pairs : List Pair) (v : ℕ) → AreNamed names pairs
      → map (named later) (pairs ++ record { name = index; value = v } ∷ []) ≡ map (named names) pairs ++ (name, v) ∷ []
  named-push pairs v are = rw (map-append, named-later pairs are, adds.3) refl

module _ (names : List (List ℕ)) (pairs : List Pair) (name : List ℕ) where
  module _ (place : ℕ) (at : position (λ pair. bytes_eq name pair.0) (map (named names) pairs) ≡ Some place) where
    first : IsFirst (λ pair. bytes_eq name pair.0) (map (named names) pairs) place
    first = first_of (λ pair. bytes_eq name pair.0) (map (named names) pairs) place at

    -- the pair at the name's place has the name's value
    pub value_of-place : (pair : Pair) → pair ≡ get_or pairs place pair → value_of (map (named names) pairs) name ≡ Some pair.value
    value_of-place pair is =
        lookup-first (bytes_eq name) (map (named names) pairs) place (named names pair) first
        ∙ ap (λ p. Some p.1) (get_or-map (named names) pairs place pair ∙ ap (named names) (sym is))

    -- a value written there is the name's
    pub set_value-place : (pair : Pair) (v : ℕ) → pair ≡ get_or pairs place pair
        → map (named names) (set pairs place (record { name = pair.name; value = v })) ≡ set_value (bytes_eq name) (map (named names) pairs) v
    set_value-place pair v is =
        let there : get_or (map (named names) pairs) place (named names pair) ≡ named names pair = get_or-map (named names) pairs place pair ∙ ap (named names) (sym is) in
        map-set (named names) pairs place (record { name = pair.name; value = v })
        ∙ ap (λ n. set (map (named names) pairs) place (n, v)) (sym (ap (λ p. p.0) there))
        ∙ sym (set_value-first (bytes_eq name) (map (named names) pairs) place v (named names pair) first)

    -- and without the pair there the name is out
    pub remove_entry-place : map (named names) (remove pairs place) ≡ remove_entry (bytes_eq name) (map (named names) pairs)
    remove_entry-place = map-remove (named names) pairs place ∙ sym (remove_entry-first (bytes_eq name) (map (named names) pairs) place first)

-- a name with no place has no pair
module _ (pairs : Pairs) (name : List ℕ) (at : position (λ pair. bytes_eq name pair.0) pairs ≡ None) where
  pub value_of-no_place : value_of pairs name ≡ None
  value_of-no_place = lookup-none (bytes_eq name) pairs (none_of (λ pair. bytes_eq name pair.0) pairs at)

  pub set_value-no_place : (v : ℕ) → set_value (bytes_eq name) pairs v ≡ pairs
  set_value-no_place v = set_value-none (bytes_eq name) pairs v (none_of (λ pair. bytes_eq name pair.0) pairs at)

  pub remove_entry-no_place : remove_entry (bytes_eq name) pairs ≡ pairs
  remove_entry-no_place = remove_entry-none (bytes_eq name) pairs (none_of (λ pair. bytes_eq name pair.0) pairs at)
