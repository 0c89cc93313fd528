-- Pairs in a row of words: what the steps of a map on the words do to the pairs.
use Rattle.small_objects.proofs.Vocabulary.{Absent, Full, IsReached, IsStateOf, List, None, Option, Some, Value, [], ap, arith, drop, get_or_past, inl, inr, kept_by_calls, le-ltb, length, length-append, length-padded, lt-ltb, nat_eq, number_cases, padded, refl, slice_index, slice_set, suc, sym, take, zero, ℕ, ◌*◌, ◌++◌, ◌+◌, ◌-◌, ◌<◌, ◌∙◌, ◌∷◌, ◌≡◌, ◌≢◌, ◌≤◌}
use Rattle.std.specs.List.{copy_within}
use Rattle.std.specs.Map.{remove_entry, set_value}
use Rattle.std.proofs.lemmas.Map.{length-set_value}
use Rattle.small_objects.specs.Map.{IsAbsent, IsFirst, IsMap, before, bounded_map, call_in, flat, insert_answer, map, map_next, map_words, paired, pairs_in, reply_words, spelled, value_of}
use Rattle.small_objects.specs.declared.map.MapCall.{MapCall}
use Rattle.small_objects.specs.declared.map.MapCall.TheVariants.{Get, Insert, Remove}
use Rattle.small_objects.proofs.Reached.{reached_is}
use Rattle.small_objects.proofs.Rows.{index-padded, more_few, pushed, row_fits, taken_out}

-- the place of a pair's key among the words
abbrev pub double : ℕ → ℕ
double zero = 0
double (suc i) = suc (suc (double i))

double_is : (i : ℕ) → double i ≡ 2 * i
double_is zero = refl
double_is (suc i) = omega (arith, double_is i)

length-flat : (pairs : List (ℕ × ℕ)) → length (flat pairs) ≡ 2 * length pairs
length-flat [] = refl
length-flat (p ∷ pairs) = omega (arith, length-flat pairs)

flat-append : (pairs : List (ℕ × ℕ)) (key value : ℕ) → flat (pairs ++ (key, value) ∷ []) ≡ (flat pairs ++ key ∷ []) ++ value ∷ []
flat-append [] key value = refl
flat-append (p ∷ pairs) key value = ap (λ l. p.0 ∷ p.1 ∷ l) (flat-append pairs key value)

paired-flat : (pairs : List (ℕ × ℕ)) → paired (flat pairs) ≡ pairs
paired-flat [] = refl
paired-flat (p ∷ pairs) = ap (λ l. p ∷ l) (paired-flat pairs)

set-padded : (room : ℕ) (values : List ℕ) (i v : ℕ) → i < length values → length values ≤ room → slice_set (padded room values) i v ≡ padded room (slice_set values i v)
set-padded room [] i v below few = absurd (omega arith)
set-padded zero (x ∷ values) i v below few = absurd (omega arith)
set-padded (suc room) (x ∷ values) zero v below few = refl
set-padded (suc room) (x ∷ values) (suc i) v below few = ap (λ l. x ∷ l) (set-padded room values i v (omega arith) (omega arith))

-- the first pair with a key is at this index
record IsFirstPair (pairs : List (ℕ × ℕ)) (key i : ℕ) : Type 0 where
  pub below : i < length pairs
  pub here : slice_index (flat pairs) (double i) ≡ key
  pub first : (j : ℕ) → j < i → slice_index (flat pairs) (double j) ≢ key

-- the value of its key; and the pairs with another value for it, or without it
first_pair : (pairs : List (ℕ × ℕ)) (key i : ℕ) → IsFirstPair pairs key i
    → (value_of pairs key ≡ Some (slice_index (flat pairs) (suc (double i))))
    × ((value : ℕ) → slice_set (flat pairs) (suc (double i)) value ≡ flat (set_value (nat_eq key) pairs value))
    × (take (double i) (flat pairs) ++ drop (suc (suc (double i))) (flat pairs)
    ≡ flat (remove_entry (nat_eq key) pairs))
    × (suc (length (remove_entry (nat_eq key) pairs)) ≡ length pairs)
first_pair [] key i f = absurd (let b = f.below in omega arith)
first_pair (p ∷ pairs) key zero f = elim (number_cases key p.0) [
  | inl same ↦ rw same.1 (refl, λ value. refl, refl, refl)
  | inr other ↦ absurd (other.0 (sym f.here))
]
first_pair (p ∷ pairs) key (suc i) f = elim (number_cases key p.0) [
  | inl same ↦ absurd (f.first 0 (omega arith) (sym same.0))
  | inr other ↦
      let below : i < length pairs = (let b = f.below in omega arith) in
      let earlier = λ (j : ℕ) (less : j < i). f.first (suc j) (omega arith) in
      let h = first_pair pairs key i (record { below = below; here = f.here; first = earlier }) in
      rw other.1 (h.0, λ value. ap (λ l. p.0 ∷ p.1 ∷ l) (h.1 value), ap (λ l. p.0 ∷ p.1 ∷ l) h.2, ap suc h.3)
]

-- no pair has the key
absent_pair : (pairs : List (ℕ × ℕ)) (key : ℕ)
    → ((j : ℕ) → j < length pairs → slice_index (flat pairs) (double j) ≢ key)
    → (value_of pairs key ≡ None) × (remove_entry (nat_eq key) pairs ≡ pairs)
absent_pair [] key absent = (refl, refl)
absent_pair (p ∷ pairs) key absent = elim (number_cases key p.0) [
  | inl same ↦ absurd (absent 0 (omega arith) (sym same.0))
  | inr other ↦
      let h = absent_pair pairs key (λ j less. absent (suc j) (omega arith)) in
      rw other.1 (h.0, ap (λ l. p ∷ l) h.1)
]

fewer : (key : ℕ) (pairs : List (ℕ × ℕ)) → length (remove_entry (nat_eq key) pairs) ≤ length pairs
fewer key [] = omega arith
fewer key (p ∷ pairs) = elim (number_cases key p.0) [
  | inl same ↦ rw same.1 (omega arith)
  | inr other ↦ rw other.1 (let h = fewer key pairs in omega arith)
]

module _ (capacity : ℕ) where
  -- no more pairs than fit, and after a call one more at most
  grown : (pairs : List (ℕ × ℕ)) (call : MapCall) → length pairs ≤ capacity
      → (length (map_next capacity pairs call) ≤ capacity)
      × (length (map_next capacity pairs call) ≤ suc (length pairs))
  grown pairs (Get key) few = (few, omega arith)
  grown pairs (Insert key value) few = by_value (value_of pairs key) refl where
    by_value : (before : Option ℕ) → value_of pairs key ≡ before
        → (length (map_next capacity pairs (Insert key value)) ≤ capacity)
        × (length (map_next capacity pairs (Insert key value)) ≤ suc (length pairs))
    by_value (Some v) is = rw is (let same = length-set_value (nat_eq key) pairs value in (omega arith, omega arith))
    by_value None is = rw is (more_few capacity pairs (key, value) few)
  grown pairs (Remove key) few = (let h = fewer key pairs in (omega arith, omega arith))

  few_pairs : (pairs : List (ℕ × ℕ)) → IsStateOf (bounded_map capacity) call_in pairs → length pairs ≤ capacity
  few_pairs pairs was =
      kept_by_calls (bounded_map capacity) call_in (λ ps. length ps ≤ capacity) (omega arith)
      (λ ps words few. (grown ps (call_in words) few).0) pairs was

  read_back : (pairs : List (ℕ × ℕ)) → length pairs ≤ capacity → pairs_in (map_words capacity pairs) ≡ pairs
  read_back pairs few =
      let l = length-flat pairs in
      ap (λ n. paired (take n (padded (2 * capacity) (flat pairs)))) (sym l)
      ∙ ap paired (row_fits (2 * capacity) (flat pairs) (omega arith)) ∙ paired-flat pairs

  pub is_map : (words : List ℕ) → IsReached (spelled capacity).object words → IsMap capacity words
  is_map words reached =
      let h = reached_is (bounded_map capacity) call_in (map_words capacity) pairs_in
      (λ ps was. read_back ps (few_pairs ps was)) reply_words words reached in
      let few = few_pairs (pairs_in words) h.0 in
      record {
        wide = ap length h.1 ∙ (let l = length-padded (2 * capacity) (flat (pairs_in words)) in omega arith);
        few = (let count = ap (λ w. slice_index w 0) h.1 in omega arith);
        words_are = h.1;
      }

module _ {capacity : ℕ} {words : List ℕ} (h : IsMap capacity words) where
  abbrev pairs : List (ℕ × ℕ)
  pairs = pairs_in words

  count_is : slice_index words 0 ≡ length pairs
  count_is = ap (λ w. slice_index w 0) h.words_are

  long : length (flat pairs) ≤ 2 * capacity
  long = omega (arith, count_is, length-flat pairs)

  word_is : (k : ℕ) → slice_index words (suc k) ≡ slice_index (flat pairs) k
  word_is k = ap (λ w. slice_index w (suc k)) h.words_are ∙ index-padded (2 * capacity) (flat pairs) k long

  key_is : (i : ℕ) → slice_index words (1 + 2 * i) ≡ slice_index (flat pairs) (double i)
  key_is i =
      let spot : 1 + 2 * i ≡ suc (double i) = omega (arith, double_is i) in
      ap (slice_index words) spot ∙ word_is (double i)

  value_is : (i : ℕ) → slice_index words (2 + 2 * i) ≡ slice_index (flat pairs) (suc (double i))
  value_is i =
      let spot : 2 + 2 * i ≡ suc (suc (double i)) = omega (arith, double_is i) in
      ap (slice_index words) spot ∙ word_is (suc (double i))

  -- what a search finds
  found : {key i : ℕ} → IsFirst words key i → IsFirstPair pairs key i
  found {key} {i} f = record {
    below = (let c = count_is in let b = f.below in omega arith);
    here = sym (key_is i) ∙ f.here;
    first = λ j less same. f.first j less (key_is j ∙ same);
  }

  none_here : {key : ℕ} → IsAbsent words key → (value_of pairs key ≡ None) × (remove_entry (nat_eq key) pairs ≡ pairs)
  none_here {key} absent =
      absent_pair pairs key (λ j less same. absent.none j (omega (arith, count_is)) (key_is j ∙ same))

  value_here : {key i : ℕ} → IsFirst words key i → value_of pairs key ≡ Some (slice_index words (2 + 2 * i))
  value_here {key} {i} f = (first_pair pairs key i (found f)).0 ∙ ap Some (sym (value_is i))

  -- a value is asked for, or told with a removal
  pub told_found : {key i : ℕ} → IsFirst words key i
      → Value (slice_index words (2 + 2 * i)) ≡ before (value_of pairs key)
  told_found {key} {i} f = sym (ap before (value_here f))

  pub told_absent : {key : ℕ} → IsAbsent words key → Absent ≡ before (value_of pairs key)
  told_absent {key} absent = sym (ap before (none_here absent).0)

  -- the words behind a pair more than there are stay
  pub map_alike : (call : MapCall) (i : ℕ) → 2 * slice_index words 0 + 3 ≤ i
      → slice_index ((map capacity).next words call) i ≡ slice_index words i
  map_alike call zero far = absurd (omega arith)
  map_alike call (suc k) far =
      let c = count_is in
      let next = map_next capacity pairs call in
      let more = grown capacity pairs call (omega arith) in
      let l = length-flat next in
      let m = length-flat pairs in
      index-padded (2 * capacity) (flat next) k (omega (arith, more.0))
      ∙ get_or_past (flat next) k 0 (omega (arith, more.1))
      ∙ sym (word_is k ∙ get_or_past (flat pairs) k 0 (omega arith))

  -- a key that is there gets a value
  pub replaced : {key i : ℕ} → IsFirst words key i → (value : ℕ)
      → (slice_set words (2 + 2 * i) value ≡ map_words capacity (map_next capacity pairs (Insert key value)))
      × (Value (slice_index words (2 + 2 * i)) ≡ insert_answer capacity (length pairs) (value_of pairs key))
  replaced {key} {i} f value =
      let d = double_is i in
      let first = found f in
      let its = first_pair pairs key i first in
      let spot : 2 + 2 * i ≡ suc (suc (double i)) = omega arith in
      let l = length-flat pairs in
      let inside : suc (double i) < length (flat pairs) = omega arith in
      let set = set-padded (2 * capacity) (flat pairs) (suc (double i)) value inside long in
      let long = sym (length-set_value (nat_eq key) pairs value) in (
        rw its.0 (
            ap (λ k. slice_set words k value) spot ∙ ap (λ w. slice_set w (suc (suc (double i))) value) h.words_are
            ∙ ap (λ r. length pairs ∷ r) (set ∙ ap (padded (2 * capacity)) (its.1 value))
            ∙ ap (λ n. n ∷ padded (2 * capacity) (flat (set_value (nat_eq key) pairs value))) long),
        sym (ap (insert_answer capacity (length pairs)) (value_here f)),
      )

  -- a new key goes last
  pub added : {key : ℕ} → IsAbsent words key → (value : ℕ) → slice_index words 0 < capacity
      → (slice_set (slice_set (slice_set words (1 + 2 * slice_index words 0) key) (2 + 2 * slice_index words 0) value) 0
      (slice_index words 0 + 1) ≡ map_words capacity (map_next capacity pairs (Insert key value)))
      × (Absent ≡ insert_answer capacity (length pairs) (value_of pairs key))
  added {key} absent value room =
      let c = count_is in
      let l = length-flat pairs in
      let more = flat pairs ++ key ∷ [] in
      let all = pairs ++ (key, value) ∷ [] in
      let a = length-append (flat pairs) (key ∷ []) in
      let p = length-append pairs ((key, value) ∷ []) in
      let n = slice_index words 0 + 1 in
      let first = suc (length (flat pairs)) in
      let one : 1 + 2 * slice_index words 0 ≡ first = omega arith in
      let two : 2 + 2 * slice_index words 0 ≡ suc (length more) = omega arith in
      let longer : n ≡ length all = omega arith in
      let its = pushed (2 * capacity) more value (omega arith) in
      rw ((none_here absent).0, lt-ltb (length pairs) capacity (omega arith)) (
        ap (λ k. slice_set (slice_set (slice_set words k key) (2 + 2 * slice_index words 0) value) 0 n) one
            ∙ ap (λ k. slice_set (slice_set (slice_set words first key) k value) 0 n) two
            ∙ ap (λ w. slice_set (slice_set (slice_set w first key) (suc (length more)) value) 0 n) h.words_are
            ∙ ap (λ p. n ∷ slice_set p (length more) value) (pushed (2 * capacity) (flat pairs) key (omega arith))
            ∙ ap (λ p. n ∷ p) (its ∙ ap (padded (2 * capacity)) (sym (flat-append pairs key value)))
            ∙ ap (λ k. k ∷ padded (2 * capacity) (flat all)) longer,
        refl,
      )

  -- there is no room for it
  pub refused : {key : ℕ} → IsAbsent words key → (value : ℕ) → capacity ≤ slice_index words 0
      → (words ≡ map_words capacity (map_next capacity pairs (Insert key value)))
      × (Full ≡ insert_answer capacity (length pairs) (value_of pairs key))
  refused {key} absent value full =
      rw ((none_here absent).0, le-ltb (length pairs) capacity (omega (arith, count_is))) (h.words_are, refl)

  -- a pair is taken out, or none
  pub not_removed : {key : ℕ} → IsAbsent words key → words ≡ map_words capacity (map_next capacity pairs (Remove key))
  not_removed {key} absent = h.words_are ∙ ap (map_words capacity) (sym (none_here absent).1)

  pub removed : {key i : ℕ} → IsFirst words key i → let at = 1 + 2 * i in let end = 1 + 2 * slice_index words 0 in
      (moved : List ℕ) → moved ≡ copy_within words (at + 2) end at
      → slice_set (slice_set (slice_set moved (end - 2) 0) (end - 1) 0) 0 (slice_index words 0 - 1)
      ≡ map_words capacity (map_next capacity pairs (Remove key))
  removed {key} {i} f moved moved_is =
      let at = 1 + 2 * i in
      let end = 1 + 2 * slice_index words 0 in
      let less = slice_index words 0 - 1 in
      let c = count_is in
      let d = double_is i in
      let l = length-flat pairs in
      let first = found f in
      let its = first_pair pairs key i first in
      let fewer : less ≡ length (remove_entry (nat_eq key) pairs) = (let s = its.3 in omega arith) in
      taken_out (2 * capacity) (length pairs) (flat pairs) words moved (double i) at (at + 2) end (end - 2) (end - 1)
      less (2 * length pairs - 2) h.words_are long moved_is (omega arith) (omega arith) (omega arith) (omega arith)
      (omega arith) (omega arith) (omega arith)
      ∙ ap (λ p. less ∷ padded (2 * capacity) p) its.2
      ∙ ap (λ n. n ∷ padded (2 * capacity) (flat (remove_entry (nat_eq key) pairs))) fewer
