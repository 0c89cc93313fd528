-- The orders of worked histories, by a search on paper.
use Rattle.seq_object.specs.SwapRegister.{swap_register}
use Rattle.lin_check.proofs.Vocabulary.{arith, Call, Done, Event, Fails, FailsWith, Idle, IsOrder, List, None, Open, Reached, Return, Sequential, Slot, Some, [], length, refl, replies_of, slice_get, slice_set, slot_at, suc, sym, take, zero, ℕ, ◌++◌, ◌+◌, ◌<◌, ◌∙◌, ◌∷◌, ◌≡◌, ◌≢◌}
use Rattle.lin_check.proofs.Standing.{dead_call, dead_return, fails_called, fails_choice, fails_point, fails_returned, fails_shut, fails_unfit, reached_called, reached_point, reached_returned}
use Rattle.lin_check.proofs.Searching.{linearized, reached_first, sound_first}
use Rattle.lin_check.specs.Verdicts.{IsLinearizable}
use Rattle.lin_check.specs.Worked.{Put, Take, from_nowhere, line, never_returned, overlapping_puts, returns_first, stale_take, swapped_early, taken_early, taken_twice, twice_at_once}

-- two processes
idle_two : (p : ℕ) → slot_at (Idle ∷ Idle ∷ []) p ≡ Idle
idle_two zero = refl
idle_two (suc zero) = refl
idle_two (suc (suc p)) = refl

module _ {S I R : Type 0} (object : Sequential S I R) (history : List (Event I R)) where
  -- of two slots each one fails
  of_two : (at : ℕ) (s t : Slot) (state : S) → FailsWith object history at (s ∷ t ∷ []) state 0 → FailsWith object history at (s ∷ t ∷ []) state 1
      → (q : ℕ) → FailsWith object history at (s ∷ t ∷ []) state q
  of_two at s t state first second zero = first
  of_two at s t state first second (suc zero) = second
  of_two at s t state first second (suc (suc q)) = fails_shut object history at (s ∷ t ∷ []) state (suc (suc q)) (λ c e. (let f : Idle ≡ Open c = e in cc))

  shut : (at : ℕ) (slots : List Slot) (state : S) (q : ℕ) → slot_at slots q ≡ Idle → FailsWith object history at slots state q
  shut at slots state q idle = fails_shut object history at slots state q (λ c e. (let f : Idle ≡ Open c = sym idle ∙ e in cc))

  over : (at : ℕ) (slots : List Slot) (state : S) (q : ℕ) → slot_at slots q ≡ Done → FailsWith object history at slots state q
  over at slots state q done = fails_shut object history at slots state q (λ c e. (let f : Done ≡ Open c = sym done ∙ e in cc))

  -- process 0 calls and returns, while nothing else is open
  alone : (at : ℕ) (state : S) (i : I) (r : R) → slice_get history at ≡ Some (Call 0 i) → slice_get history (at + 1) ≡ Some (Return 0 r)
      → Fails object history (at + 1 + 1) (Idle ∷ Idle ∷ []) (object.next state i) → Fails object history at (Idle ∷ Idle ∷ []) state
  alone at state i r begins ends fails =
      fails_called object history at (Idle ∷ Idle ∷ []) state 0 i begins (omega arith) refl None
      (fails_choice object history (at + 1) (Open at ∷ Idle ∷ []) state 0 r ends at refl
      (of_two (at + 1) (Open at) Idle state takes_effect (shut (at + 1) (Open at ∷ Idle ∷ []) state 1 refl))) where
        takes_effect : FailsWith object history (at + 1) (Open at ∷ Idle ∷ []) state 0
        takes_effect =
            fails_point object history (at + 1) (Open at ∷ Idle ∷ []) state 0 at refl 0 i begins (omega arith)
            (fails_returned object history (at + 1) (Done ∷ Idle ∷ []) (object.next state i) 0 r ends (omega arith) refl None fails)

  -- process 1 calls while nothing else is open, and would be answered otherwise
  answered_otherwise : (at : ℕ) (state : S) (i : I) (r : R) → slice_get history at ≡ Some (Call 1 i) → slice_get history (at + 1) ≡ Some (Return 1 r)
      → slice_get (replies_of history) at ≡ Some (Some r) → object.answer state i ≢ r → Fails object history at (Idle ∷ Idle ∷ []) state
  answered_otherwise at state i r begins ends known unfit =
      fails_called object history at (Idle ∷ Idle ∷ []) state 1 i begins (omega arith) refl None
      (fails_choice object history (at + 1) (Idle ∷ Open at ∷ []) state 1 r ends at refl
      (of_two (at + 1) Idle (Open at) state (shut (at + 1) (Idle ∷ Open at ∷ []) state 0 refl)
      (fails_unfit object history (at + 1) (Idle ∷ Open at ∷ []) state 1 at refl 1 i begins r known unfit)))

pub stale_take-none : ¬ (IsLinearizable line stale_take)
stale_take-none =
    sound_first line stale_take (Idle ∷ Idle ∷ []) [] idle_two refl
    (alone line stale_take 0 [] (Put 5) None refl refl
    (alone line stale_take 2 (5 ∷ []) (Put 6) None refl refl
    (answered_otherwise line stale_take 4 (5 ∷ 6 ∷ []) Take (Some 6) refl refl refl (λ e. (let f : Some 5 ≡ Some 6 = e in cc)))))

pub from_nowhere-none : ¬ (IsLinearizable (swap_register 0) from_nowhere)
from_nowhere-none =
    sound_first (swap_register 0) from_nowhere (Idle ∷ Idle ∷ []) 0 idle_two refl
    (answered_otherwise (swap_register 0) from_nowhere 0 0 7 5 refl refl refl (λ e. omega (arith, e)))

pub twice_at_once-none : ¬ (IsLinearizable (swap_register 0) twice_at_once)
twice_at_once-none =
    sound_first (swap_register 0) twice_at_once (Idle ∷ Idle ∷ []) 0 idle_two refl
    (fails_called (swap_register 0) twice_at_once 0 (Idle ∷ Idle ∷ []) 0 0 5 refl (omega arith) refl None
    (dead_call (swap_register 0) twice_at_once 1 (Open 0 ∷ Idle ∷ []) 0 0 7 refl None (λ e. (let f : Open 0 ≡ Idle = e in cc))))

pub returns_first-none : ¬ (IsLinearizable (swap_register 0) returns_first)
returns_first-none =
    sound_first (swap_register 0) returns_first (Idle ∷ Idle ∷ []) 0 idle_two refl
    (dead_return (swap_register 0) returns_first 0 (Idle ∷ Idle ∷ []) 0 0 5 refl None refl)

pub taken_twice-none : ¬ (IsLinearizable line taken_twice)
taken_twice-none =
    sound_first line taken_twice (Idle ∷ Idle ∷ []) [] idle_two refl
    (fails_called line taken_twice 0 (Idle ∷ Idle ∷ []) [] 0 (Put 5) refl (omega arith) refl None
    (fails_called line taken_twice 1 (Open 0 ∷ Idle ∷ []) [] 1 Take refl (omega arith) refl None
    (fails_choice line taken_twice 2 (Open 0 ∷ Open 1 ∷ []) [] 1 (Some 5) refl 1 refl
    (of_two line taken_twice 2 (Open 0) (Open 1) []
    (fails_point line taken_twice 2 (Open 0 ∷ Open 1 ∷ []) [] 0 0 refl 0 (Put 5) refl (omega arith) put)
    (fails_unfit line taken_twice 2 (Open 0 ∷ Open 1 ∷ []) [] 1 1 refl 1 Take refl (Some 5) refl (λ e. (let f : None ≡ Some 5 = e in cc))))))) where
      again : Fails line taken_twice 3 (Done ∷ Idle ∷ []) []
      again =
          fails_called line taken_twice 3 (Done ∷ Idle ∷ []) [] 1 Take refl (omega arith) refl None
          (fails_choice line taken_twice 4 (Done ∷ Open 3 ∷ []) [] 1 (Some 5) refl 3 refl
          (of_two line taken_twice 4 Done (Open 3) [] (over line taken_twice 4 (Done ∷ Open 3 ∷ []) [] 0 refl)
          (fails_unfit line taken_twice 4 (Done ∷ Open 3 ∷ []) [] 1 3 refl 1 Take refl (Some 5) refl (λ e. (let f : None ≡ Some 5 = e in cc)))))

      put : Fails line taken_twice 2 (Done ∷ Open 1 ∷ []) (5 ∷ [])
      put =
          fails_choice line taken_twice 2 (Done ∷ Open 1 ∷ []) (5 ∷ []) 1 (Some 5) refl 1 refl
          (of_two line taken_twice 2 Done (Open 1) (5 ∷ []) (over line taken_twice 2 (Done ∷ Open 1 ∷ []) (5 ∷ []) 0 refl)
          (fails_point line taken_twice 2 (Done ∷ Open 1 ∷ []) (5 ∷ []) 1 1 refl 1 Take refl (omega arith)
          (fails_returned line taken_twice 2 (Done ∷ Done ∷ []) [] 1 (Some 5) refl (omega arith) refl None again)))

-- ---- those that have an order

module _ {S I R : Type 0} (object : Sequential S I R) (history : List (Event I R)) where
  first : (state : S) → state ≡ object.initial → Reached object history 0 (Idle ∷ Idle ∷ []) state []
  first state initial = reached_first object history (Idle ∷ Idle ∷ []) state idle_two initial

  module _ (at : ℕ) (slots : List Slot) (state : S) (q c : ℕ) (is_open : slot_at slots q ≡ Open c) (i : I) (here : slice_get history c ≡ Some (Call q i)) (within : q < length slots) (order : List ℕ) where
    -- the call of q takes effect, and it returns with this response
    answered : (v : R) → slice_get (replies_of history) c ≡ Some (Some v) → object.answer state i ≡ v
        → Reached object history at slots state order → Reached object history at (slice_set slots q Done) (object.next state i) (order ++ c ∷ [])
    answered v known fits h = reached_point object history at slots state q c is_open q i here within (λ r e. fits ∙ same_reply v r (sym known ∙ e)) order h where
      same_reply : (v r : R) → Some (Some v) ≡ Some (Some r) → v ≡ r
      same_reply v r e = cc

    -- or it never returns
    pending : slice_get (replies_of history) c ≡ Some None
        → Reached object history at slots state order → Reached object history at (slice_set slots q Done) (object.next state i) (order ++ c ∷ [])
    pending known h = reached_point object history at slots state q c is_open q i here within (λ r e. absurd (no_reply r (sym known ∙ e))) order h where
      no_reply : (r : R) → Some None ≡ Some (Some r) → ⊥
      no_reply r e = cc

pub before_stale_take : IsOrder line (take 5 stale_take) (0 ∷ 2 ∷ [])
before_stale_take =
    linearized line (take 5 stale_take) 5 (Idle ∷ Open 4 ∷ []) (5 ∷ 6 ∷ []) (0 ∷ 2 ∷ []) refl
    (reached_called line (take 5 stale_take) 4 (Idle ∷ Idle ∷ []) (5 ∷ 6 ∷ []) 1 Take refl (omega arith) refl (0 ∷ 2 ∷ [])
    (reached_returned line (take 5 stale_take) 3 (Done ∷ Idle ∷ []) (5 ∷ 6 ∷ []) 0 None refl (omega arith) refl (0 ∷ 2 ∷ [])
    (answered line (take 5 stale_take) 3 (Open 2 ∷ Idle ∷ []) (5 ∷ []) 0 2 refl (Put 6) refl (omega arith) (0 ∷ []) None refl refl
    (reached_called line (take 5 stale_take) 2 (Idle ∷ Idle ∷ []) (5 ∷ []) 0 (Put 6) refl (omega arith) refl (0 ∷ [])
    (reached_returned line (take 5 stale_take) 1 (Done ∷ Idle ∷ []) (5 ∷ []) 0 None refl (omega arith) refl (0 ∷ [])
    (answered line (take 5 stale_take) 1 (Open 0 ∷ Idle ∷ []) [] 0 0 refl (Put 5) refl (omega arith) [] None refl refl
    (reached_called line (take 5 stale_take) 0 (Idle ∷ Idle ∷ []) [] 0 (Put 5) refl (omega arith) refl []
    (first line (take 5 stale_take) [] refl))))))))

pub overlapping_puts-turned : IsOrder line overlapping_puts (1 ∷ 0 ∷ 4 ∷ [])
overlapping_puts-turned =
    linearized line overlapping_puts 6 (Idle ∷ Idle ∷ []) (5 ∷ []) (1 ∷ 0 ∷ 4 ∷ []) refl
    (reached_returned line overlapping_puts 5 (Done ∷ Idle ∷ []) (5 ∷ []) 0 (Some 6) refl (omega arith) refl (1 ∷ 0 ∷ 4 ∷ [])
    (answered line overlapping_puts 5 (Open 4 ∷ Idle ∷ []) (6 ∷ 5 ∷ []) 0 4 refl Take refl (omega arith) (1 ∷ 0 ∷ []) (Some 6) refl refl
    (reached_called line overlapping_puts 4 (Idle ∷ Idle ∷ []) (6 ∷ 5 ∷ []) 0 Take refl (omega arith) refl (1 ∷ 0 ∷ [])
    (reached_returned line overlapping_puts 3 (Idle ∷ Done ∷ []) (6 ∷ 5 ∷ []) 1 None refl (omega arith) refl (1 ∷ 0 ∷ [])
    (reached_returned line overlapping_puts 2 (Done ∷ Done ∷ []) (6 ∷ 5 ∷ []) 0 None refl (omega arith) refl (1 ∷ 0 ∷ [])
    (answered line overlapping_puts 2 (Open 0 ∷ Done ∷ []) (6 ∷ []) 0 0 refl (Put 5) refl (omega arith) (1 ∷ []) None refl refl
    (answered line overlapping_puts 2 (Open 0 ∷ Open 1 ∷ []) [] 1 1 refl (Put 6) refl (omega arith) [] None refl refl
    (reached_called line overlapping_puts 1 (Open 0 ∷ Idle ∷ []) [] 1 (Put 6) refl (omega arith) refl []
    (reached_called line overlapping_puts 0 (Idle ∷ Idle ∷ []) [] 0 (Put 5) refl (omega arith) refl []
    (first line overlapping_puts [] refl))))))))))

both_called : Reached line never_returned 2 (Open 0 ∷ Open 1 ∷ []) [] []
both_called =
    reached_called line never_returned 1 (Open 0 ∷ Idle ∷ []) [] 1 Take refl (omega arith) refl []
    (reached_called line never_returned 0 (Idle ∷ Idle ∷ []) [] 0 (Put 5) refl (omega arith) refl []
    (first line never_returned [] refl))

found_empty : Reached line never_returned 3 (Open 0 ∷ Idle ∷ []) [] (1 ∷ [])
found_empty =
    reached_returned line never_returned 2 (Open 0 ∷ Done ∷ []) [] 1 None refl (omega arith) refl (1 ∷ [])
    (answered line never_returned 2 (Open 0 ∷ Open 1 ∷ []) [] 1 1 refl Take refl (omega arith) [] None refl refl both_called)

pub never_returned-lost : IsOrder line never_returned (1 ∷ [])
never_returned-lost = linearized line never_returned 3 (Open 0 ∷ Idle ∷ []) [] (1 ∷ []) refl found_empty

pub never_returned-late : IsOrder line never_returned (1 ∷ 0 ∷ [])
never_returned-late =
    linearized line never_returned 3 (Done ∷ Idle ∷ []) (5 ∷ []) (1 ∷ 0 ∷ []) refl
    (pending line never_returned 3 (Open 0 ∷ Idle ∷ []) [] 0 0 refl (Put 5) refl (omega arith) (1 ∷ []) refl found_empty)

pub taken_early-order : IsOrder line taken_early (0 ∷ 1 ∷ [])
taken_early-order =
    linearized line taken_early 3 (Done ∷ Idle ∷ []) [] (0 ∷ 1 ∷ []) refl
    (reached_returned line taken_early 2 (Done ∷ Done ∷ []) [] 1 (Some 5) refl (omega arith) refl (0 ∷ 1 ∷ [])
    (answered line taken_early 2 (Done ∷ Open 1 ∷ []) (5 ∷ []) 1 1 refl Take refl (omega arith) (0 ∷ []) (Some 5) refl refl
    (pending line taken_early 2 (Open 0 ∷ Open 1 ∷ []) [] 0 0 refl (Put 5) refl (omega arith) [] refl
    (reached_called line taken_early 1 (Open 0 ∷ Idle ∷ []) [] 1 Take refl (omega arith) refl []
    (reached_called line taken_early 0 (Idle ∷ Idle ∷ []) [] 0 (Put 5) refl (omega arith) refl []
    (first line taken_early [] refl))))))

pub swapped_early-order : IsOrder (swap_register 0) swapped_early (0 ∷ 1 ∷ [])
swapped_early-order =
    linearized (swap_register 0) swapped_early 3 (Done ∷ Idle ∷ []) 7 (0 ∷ 1 ∷ []) refl
    (reached_returned (swap_register 0) swapped_early 2 (Done ∷ Done ∷ []) 7 1 5 refl (omega arith) refl (0 ∷ 1 ∷ [])
    (answered (swap_register 0) swapped_early 2 (Done ∷ Open 1 ∷ []) 5 1 1 refl 7 refl (omega arith) (0 ∷ []) 5 refl refl
    (pending (swap_register 0) swapped_early 2 (Open 0 ∷ Open 1 ∷ []) 0 0 0 refl 5 refl (omega arith) [] refl
    (reached_called (swap_register 0) swapped_early 1 (Open 0 ∷ Idle ∷ []) 0 1 7 refl (omega arith) refl []
    (reached_called (swap_register 0) swapped_early 0 (Idle ∷ Idle ∷ []) 0 0 5 refl (omega arith) refl []
    (first (swap_register 0) swapped_early 0 refl))))))
