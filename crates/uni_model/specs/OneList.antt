-- The one list of a world, told by the places of its chain: the anchor first, and at each place a cell with its number, its
-- value and the way back.
use Rattle.std.specs.Prelude.{◌≡◌, ℕ, ◌+◌, ◌<◌, ◌≤◌, List, [], ◌∷◌, Option, None, Some, option_map, map, length}
use Rattle.std.specs.Prelude.{slice_get, take, IsSome, refl}
use Rattle.seq_object.specs.Sequential.{Sequential, counter}
use Rattle.seq_object.specs.History.{state_after, response_at, IsLegal}
use Rattle.uni_model.specs.Places.{Name, seq_of, after_of, new_of, before_of}
use Rattle.uni_model.specs.Places.Name.{Anchor}
use Rattle.uni_model.specs.Chain.{Entry}
use Rattle.uni_model.specs.Worlds.{WorldOf, chain, last_cell}
use Rattle.uni_model.specs.History.{log, invocations_of, logged_call}
use Rattle.uni_model.specs.Invariant.{Has}

-- the state after the invocation at a place, with the response to it; nothing where the list ends before it
abbrev pub value_at : {S I R : Type 0} → Sequential S I R → S → List I → (place : ℕ) → Option (S × Option R)
value_at object start invs place =
    option_map (λ r. (state_after object start (take (place + 1) invs), Some r)) (response_at object start invs place)

-- The cells from the anchor on are one list: no cell stands in it twice, and nothing comes after its last. A cell at place j of
-- the chain has the number anchor's + j + 1, once that is written, as it is in all but perhaps the last; no other cell than
-- these is threaded. What is settled in a cell is the state after the invocations up to its place, and the response there, from
-- the anchor's state on; a threaded cell has it settled, and leads back to the cell before it.
pub record IsOneList {S I R : Type 0} (object : Sequential S I R) (w : WorldOf S I R) (start : S) : Type 0 where
  pub anchor : new_of w.memory Anchor ≡ Some (start, None)
  pub once : (i j : ℕ) (x : Name) → slice_get (Anchor ∷ chain w) i ≡ Some x → slice_get (Anchor ∷ chain w) j ≡ Some x
      → i ≡ j
  pub end : after_of w.memory (last_cell w) ≡ None
  pub number : (j : ℕ) (x : Name) → slice_get (chain w) j ≡ Some x → 1 ≤ seq_of w.memory x
      → seq_of w.memory x ≡ seq_of w.memory Anchor + j + 1
  pub written : (j : ℕ) (x : Name) → slice_get (chain w) j ≡ Some x → j + 1 < length (chain w) → 1 ≤ seq_of w.memory x
  pub only : (x : Name) → 1 ≤ seq_of w.memory x → (j : ℕ) × (slice_get (Anchor ∷ chain w) j ≡ Some x)
  pub settled : (j : ℕ) (x : Name) → slice_get (chain w) j ≡ Some x → 1 ≤ seq_of w.memory x → Has (new_of w.memory x)
  pub value : (j : ℕ) (x : Name) (v : S × Option R) → slice_get (chain w) j ≡ Some x → new_of w.memory x ≡ Some v
      → value_at object start (invocations_of w) j ≡ Some v
  pub before : (j : ℕ) (x : Name) → slice_get (chain w) j ≡ Some x → 1 ≤ seq_of w.memory x
      → before_of w.memory x ≡ slice_get (Anchor ∷ chain w) j

-- the same of a world whose start state isn't named
abbrev pub HasOneList : {S I R : Type 0} → Sequential S I R → WorldOf S I R → Type 0
HasOneList {S} object w = (start : S) × IsOneList object w start

-- The log is a legal history from the anchor's state, and each entry but the last has its response.
pub record IsLegalLog {S I R : Type 0} (object : Sequential S I R) (w : WorldOf S I R) (start : S) : Type 0 where
  pub anchor : new_of w.memory Anchor ≡ Some (start, None)
  pub legal : IsLegal object start (map logged_call (log w))
  pub answered : (j : ℕ) (e : Entry I R) → slice_get (log w) j ≡ Some e → j + 1 < length (log w) → IsSome e.response

abbrev pub HasLegalLog : {S I R : Type 0} → Sequential S I R → WorldOf S I R → Type 0
HasLegalLog {S} object w = (start : S) × IsLegalLog object w start

-- the counter's value at the second of two calls, with 5 and then with 3
value_at-second : value_at counter 0 (5 ∷ 3 ∷ []) 1 ≡ Some (8, Some 5)
value_at-second = refl

value_at-past_the_end : value_at counter 0 (5 ∷ 3 ∷ []) 2 ≡ None
value_at-past_the_end = refl
