-- A map is made of its keys, and a set of its numbers: what a call is answered follows from the calls with the same one. The lemmas
-- stand here, and not in proofs, since an impl takes its laws from specs.
use Rattle.std.specs.Prelude.{◌≡◌, ◌==◌, ◌∷◌, ◌++◌, ℕ, Bool, true, false, not, nat_eq, nat_lt, if◌then◌else◌, List, [], filter, refl}
use Rattle.std.proofs.Common.{ap, arith, inl, inr, sym, ◌∙◌, ◌≢◌}
use Rattle.std.proofs.lemmas.Bool.Decides.{nat_tests}
use Rattle.std.proofs.lemmas.List.{append-nil}
use Rattle.std.proofs.lemmas.List.Elements.{filter-append}
use Rattle.seq_object.specs.History.{state_after}
use Rattle.seq_object.specs.Sequential.{Sequential}
use Rattle.lin_check.proofs.Vocabulary.{number_cases}
use Rattle.lin_check.specs.Parts.{IsInParts}
use Rattle.judged_objects.specs.declared.entries.Entry.{Entry}
use Rattle.judged_objects.specs.declared.map.MapInv.{MapInv}
use Rattle.judged_objects.specs.declared.map.MapInv.TheVariants.{Get, Put, Insert, Remove as TakeOut}
use Rattle.judged_objects.specs.Map.{found, map_answer, map_key, map_next, map_object, value_at}
use Rattle.judged_objects.specs.declared.set.SetInv.{SetInv}
use Rattle.judged_objects.specs.declared.set.SetInv.TheVariants.{Add, Remove, Contains}
use Rattle.judged_objects.specs.Set.{has, said, set, set_answer, set_key, set_next}

-- An object whose states have a look by each key: a call leaves the looks of other keys, and of its own the next look and the answer
-- follow from the look before.
module _ {S I R L : Type 0} (object : Sequential S I R) (key : I → ℕ) (look : ℕ → S → L)
    (others : (k : ℕ) (s : S) (i : I) → key i ≢ k → look k (object.next s i) ≡ look k s)
    (own : (k : ℕ) (a b : S) (i : I) → key i ≡ k → look k a ≡ look k b → look k (object.next a i) ≡ look k (object.next b i))
    (answers : (a b : S) (i : I) → look (key i) a ≡ look (key i) b → object.answer a i ≡ object.answer b i) where
  look_after : (k : ℕ) (calls : List I) (a b : S) → look k a ≡ look k b
      → look k (state_after object a calls) ≡ look k (state_after object b (filter (λ j. key j == k) calls))
  look_after k [] a b same = same
  look_after k (i ∷ calls) a b same = elim (number_cases (key i) k) [
    | inl this ↦ rw this.1 (look_after k calls (object.next a i) (object.next b i) (own k a b i this.0 same))
    | inr other ↦ rw other.1 (look_after k calls (object.next a i) b (others k a i other.0 ∙ same))
  ]

  by_looks : IsInParts object key
  by_looks calls i = answers (state_after object object.initial calls) (state_after object object.initial (filter (λ j. key j == key i) calls)) i
      (look_after (key i) calls object.initial object.initial refl)

-- Elements by their keys: those with one key, in a list without some, and in one with an element in its place.
module _ {A : Type 0} (key : A → ℕ) (k : ℕ) where
  abbrev with_key : List A → List A
  with_key xs = filter (λ x. key x == k) xs

  kept : (test : A → Bool) (xs : List A) → ((x : A) → key x ≡ k → test x ≡ true) → with_key (filter test xs) ≡ with_key xs
  kept test [] keeps = refl
  kept test (x ∷ xs) keeps = by_test (test x) refl (kept test xs keeps) where
    by_test : (b : Bool) → test x ≡ b → with_key (filter test xs) ≡ with_key xs → with_key (filter test (x ∷ xs)) ≡ with_key (x ∷ xs)
    by_test true is so_far = rw is (ap (λ ys. if key x == k then x ∷ ys else ys) so_far)
    by_test false is so_far = let other : nat_eq (key x) k ≡ false = grind (arith, nat_tests, keeps x) in rw is (rw other so_far)

  none : (test : A → Bool) (xs : List A) → ((x : A) → key x ≡ k → test x ≡ false) → with_key (filter test xs) ≡ []
  none test [] drops = refl
  none test (x ∷ xs) drops = by_test (test x) refl (none test xs drops) where
    by_test : (b : Bool) → test x ≡ b → with_key (filter test xs) ≡ [] → with_key (filter test (x ∷ xs)) ≡ []
    by_test true is so_far = let other : nat_eq (key x) k ≡ false = grind (arith, nat_tests, drops x) in rw is (rw other so_far)
    by_test false is so_far = rw is so_far

  abbrev placed : A → List A → List A
  placed x xs = filter (λ y. nat_lt (key y) (key x)) xs ++ x ∷ filter (λ y. nat_lt (key x) (key y)) xs

  placed_own : (x : A) (xs : List A) → key x ≡ k → with_key (placed x xs) ≡ x ∷ []
  placed_own x xs same =
      let here : nat_eq (key x) k ≡ true = grind (arith, nat_tests) in
      rw (
        filter-append,
        none (λ y. nat_lt (key y) (key x)) xs (λ y is. grind (arith, nat_tests)),
        here,
        none (λ y. nat_lt (key x) (key y)) xs (λ y is. grind (arith, nat_tests)),
      ) refl

  placed_other : (x : A) (xs : List A) → key x ≢ k → with_key (placed x xs) ≡ with_key xs
  placed_other x xs other =
      let elsewhere : nat_eq (key x) k ≡ false = grind (arith, nat_tests) in rw (filter-append, elsewhere) (by_test (nat_lt k (key x)) refl) where
        by_test : (b : Bool) → nat_lt k (key x) ≡ b
            → with_key (filter (λ y. nat_lt (key y) (key x)) xs) ++ with_key (filter (λ y. nat_lt (key x) (key y)) xs) ≡ with_key xs
        by_test true is =
            rw (none (λ y. nat_lt (key x) (key y)) xs (λ y same. grind (arith, nat_tests)), append-nil)
            (kept (λ y. nat_lt (key y) (key x)) xs (λ y same. grind (arith, nat_tests)))
        by_test false is =
            rw (none (λ y. nat_lt (key y) (key x)) xs (λ y same. grind (arith, nat_tests)))
            (kept (λ y. nat_lt (key x) (key y)) xs (λ y same. grind (arith, nat_tests)))

  gone : (j : ℕ) (xs : List A) → j ≡ k → with_key (filter (λ x. not (key x == j)) xs) ≡ []
  gone j xs own = none (λ x. not (key x == j)) xs (λ x same. grind (arith, nat_tests))

  stays : (j : ℕ) (xs : List A) → j ≢ k → with_key (filter (λ x. not (key x == j)) xs) ≡ with_key xs
  stays j xs other = kept (λ x. not (key x == j)) xs (λ x same. grind (arith, nat_tests))

-- Maps: the look is the entries with the key.
abbrev entries_with : ℕ → List Entry → List Entry
entries_with k entries = with_key (λ e. e.key) k entries

map_others : (k : ℕ) (entries : List Entry) (i : MapInv) → map_key i ≢ k → entries_with k (map_next entries i) ≡ entries_with k entries
map_others k entries (Get j) other = refl
map_others k entries (Put j v) other = placed_other (λ e. e.key) k (record { key = j; value = v }) entries other
map_others k entries (Insert j v) other = placed_other (λ e. e.key) k (record { key = j; value = v }) entries other
map_others k entries (TakeOut j) other = stays (λ e. e.key) k j entries other

map_own : (k : ℕ) (a b : List Entry) (i : MapInv) → map_key i ≡ k → entries_with k a ≡ entries_with k b
    → entries_with k (map_next a i) ≡ entries_with k (map_next b i)
map_own k a b (Get j) own same = same
map_own k a b (Put j v) own same =
    placed_own (λ e. e.key) k (record { key = j; value = v }) a own ∙ sym (placed_own (λ e. e.key) k (record { key = j; value = v }) b own)
map_own k a b (Insert j v) own same =
    placed_own (λ e. e.key) k (record { key = j; value = v }) a own ∙ sym (placed_own (λ e. e.key) k (record { key = j; value = v }) b own)
map_own k a b (TakeOut j) own same = gone (λ e. e.key) k j a own ∙ sym (gone (λ e. e.key) k j b own)

value_with : (k : ℕ) (entries : List Entry) → value_at (entries_with k entries) k ≡ value_at entries k
value_with k [] = refl
value_with k (e ∷ entries) = elim (number_cases e.key k) [ inl same ↦ rw same.1 (rw same.1 refl) | inr other ↦ rw other.1 (value_with k entries) ]

same_value : (k : ℕ) (a b : List Entry) → entries_with k a ≡ entries_with k b → value_at a k ≡ value_at b k
same_value k a b same = sym (value_with k a) ∙ ap (λ entries. value_at entries k) same ∙ value_with k b

map_answers : (a b : List Entry) (i : MapInv) → entries_with (map_key i) a ≡ entries_with (map_key i) b → map_answer a i ≡ map_answer b i
map_answers a b (Get k) same = ap found (same_value k a b same)
map_answers a b (Put k v) same = refl
map_answers a b (Insert k v) same = ap found (same_value k a b same)
map_answers a b (TakeOut k) same = ap found (same_value k a b same)

pub map_by_key : IsInParts map_object map_key
map_by_key = by_looks map_object map_key entries_with map_others map_own map_answers

-- Sets: the look is the number itself, where it is in.
abbrev numbers_with : ℕ → List ℕ → List ℕ
numbers_with v numbers = with_key (λ x. x) v numbers

set_others : (v : ℕ) (numbers : List ℕ) (i : SetInv) → set_key i ≢ v → numbers_with v (set_next numbers i) ≡ numbers_with v numbers
set_others v numbers (Add w) other = placed_other (λ x. x) v w numbers other
set_others v numbers (Remove w) other = stays (λ x. x) v w numbers other
set_others v numbers (Contains w) other = refl

set_own : (v : ℕ) (a b : List ℕ) (i : SetInv) → set_key i ≡ v → numbers_with v a ≡ numbers_with v b
    → numbers_with v (set_next a i) ≡ numbers_with v (set_next b i)
set_own v a b (Add w) own same = placed_own (λ x. x) v w a own ∙ sym (placed_own (λ x. x) v w b own)
set_own v a b (Remove w) own same = gone (λ x. x) v w a own ∙ sym (gone (λ x. x) v w b own)
set_own v a b (Contains w) own same = same

has_with : (v : ℕ) (numbers : List ℕ) → has (numbers_with v numbers) v ≡ has numbers v
has_with v [] = refl
has_with v (x ∷ numbers) = elim (number_cases x v) [ inl same ↦ rw same.1 (rw same.1 refl) | inr other ↦ rw other.1 (has_with v numbers) ]

same_has : (v : ℕ) (a b : List ℕ) → numbers_with v a ≡ numbers_with v b → has a v ≡ has b v
same_has v a b same = sym (has_with v a) ∙ ap (λ numbers. has numbers v) same ∙ has_with v b

set_answers : (a b : List ℕ) (i : SetInv) → numbers_with (set_key i) a ≡ numbers_with (set_key i) b → set_answer a i ≡ set_answer b i
set_answers a b (Add v) same = ap (λ t. said (not t)) (same_has v a b same)
set_answers a b (Remove v) same = ap said (same_has v a b same)
set_answers a b (Contains v) same = ap said (same_has v a b same)

pub set_by_key : IsInParts set set_key
set_by_key = by_looks set set_key numbers_with set_others set_own set_answers
