-- What an event that leaves no choice changes.
use Rattle.std.proofs.Common.{length-set}
use Rattle.std.proofs.lemmas.List.Elements.{All-contains}
use Rattle.std.proofs.lemmas.Option.{slice_get_read}
use Rattle.lin_check.proofs.Vocabulary.{FailsFor, IsDead, Option, Call, Dead, Done, Event, Global, IsWithin, Node, Passes, Vec, arith, get_or, member, Idle, IsChoice, List, Open, Passed, Passing, Reached, Return, Sequential, Slot, Some, Stops, ap, for_call, for_return, length, passing_of, process_of, refl, slice_get, slot_after, slot_at, slots_after, slots_if, subst, sym, ℕ, ◌+◌, ◌<◌, ◌≡◌, ◌≢◌, ◌∙◌}
use Rattle.lin_check.proofs.Standing.{dead_call, dead_return, fails_called, fails_returned, reached_called, reached_returned}

call_passes : (s : Slot) → for_call s ≡ Passed → s ≡ Idle
call_passes Idle e = refl
call_passes (Open c) e = absurd (let f : Dead ≡ Passed = e in cc)
call_passes Done e = absurd (let f : Dead ≡ Passed = e in cc)

call_dies : (s : Slot) → for_call s ≡ Dead → s ≢ Idle
call_dies Idle e f = let g : Passed ≡ Dead = e in cc
call_dies (Open c) e f = cc
call_dies Done e f = cc

return_passes : (s : Slot) → for_return s ≡ Passed → s ≡ Done
return_passes Idle e = absurd (let f : Dead ≡ Passed = e in cc)
return_passes (Open c) e = absurd (let f : Stops ≡ Passed = e in cc)
return_passes Done e = refl

return_dies : (s : Slot) → for_return s ≡ Dead → s ≡ Idle
return_dies Idle e = refl
return_dies (Open c) e = absurd (let f : Stops ≡ Dead = e in cc)
return_dies Done e = absurd (let f : Passed ≡ Dead = e in cc)

return_stops : (s : Slot) → for_return s ≡ Stops → (c : ℕ) × (s ≡ Open c)
return_stops Idle e = absurd (let f : Dead ≡ Stops = e in cc)
return_stops (Open c) e = (c, refl)
return_stops Done e = absurd (let f : Passed ≡ Stops = e in cc)

call_never_stops : (s : Slot) → for_call s ≡ Stops → ⊥
call_never_stops Idle e = let f : Passed ≡ Stops = e in cc
call_never_stops (Open c) e = let f : Dead ≡ Stops = e in cc
call_never_stops Done e = let f : Dead ≡ Stops = e in cc

module _ {S I R : Type 0} (object : Sequential S I R) (history : List (Event I R)) (at : ℕ) (slots : List Slot) where
  pub stops : (event : Event I R) → slice_get history at ≡ Some event → passing_of event slots ≡ Stops → IsChoice history at slots
  stops (Call p i) here e = absurd (call_never_stops (slot_at slots p) e)
  stops (Return p r) here e = let s = return_stops (slot_at slots p) e in record { process = p; response = r; call = s.0; here = here; is_open = s.1 }

  module _ (state : S) where
    pub dies : (asked : Option (List ℕ)) (event : Event I R) → slice_get history at ≡ Some event → passing_of event slots ≡ Dead → FailsFor object history asked at slots state
    dies asked (Call p i) here e = dead_call object history at slots state p i here asked (call_dies (slot_at slots p) e)
    dies asked (Return p r) here e = dead_return object history at slots state p r here asked (return_dies (slot_at slots p) e)

    pub passes_fails : (asked : Option (List ℕ)) (event : Event I R) → slice_get history at ≡ Some event → process_of event < length slots → passing_of event slots ≡ Passed
        → FailsFor object history asked (at + 1) (slots_after at event slots) state → FailsFor object history asked at slots state
    passes_fails asked (Call p i) here within e fails =
        fails_called object history at slots state p i here within (call_passes (slot_at slots p) e) asked
        (subst (λ x. FailsFor object history asked (at + 1) (slots_if {I = I} {R = R} at (Call p i) slots x) state) e fails)
    passes_fails asked (Return p r) here within e fails =
        fails_returned object history at slots state p r here within (return_passes (slot_at slots p) e) asked
        (subst (λ x. FailsFor object history asked (at + 1) (slots_if {I = I} {R = R} at (Return p r) slots x) state) e fails)

    pub passes_reached : (event : Event I R) → slice_get history at ≡ Some event → process_of event < length slots → passing_of event slots ≡ Passed
        → (order : List ℕ) → Reached object history at slots state order → Reached object history (at + 1) (slots_after at event slots) state order
    passes_reached (Call p i) here within e order h =
        subst (λ x. Reached object history (at + 1) (slots_if {I = I} {R = R} at (Call p i) slots x) state order) (sym e)
        (reached_called object history at slots state p i here within (call_passes (slot_at slots p) e) order h)
    passes_reached (Return p r) here within e order h =
        subst (λ x. Reached object history (at + 1) (slots_if {I = I} {R = R} at (Return p r) slots x) state order) (sym e)
        (reached_returned object history at slots state p r here within (return_passes (slot_at slots p) e) order h)

length-slots_if : {I R : Type 0} (at : ℕ) (event : Event I R) (slots : List Slot) (x : Passing) → length (slots_if at event slots x) ≡ length slots
length-slots_if at event slots Passed = length-set slots (process_of event) (slot_after at event)
length-slots_if at event slots Stops = refl
length-slots_if at event slots Dead = refl

-- one round of the loop that passes events
module _ {S I R : Type 0} (object : Sequential S I R) (history : List (Event I R)) (before : Node S) (n at : ℕ) (old new : Vec Slot Global) (state : S) (event : Event I R)
    (so_far : Passes object history before (record { at = at; slots = old; state = state })) (bound : at < length history) (is : event ≡ get_or history at event)
    (within : IsWithin n history) (many : length old.items ≡ n) (slots : new.items ≡ slots_after at event old.items) where
  here : slice_get history at ≡ Some event
  here = slice_get_read history (length history) at event refl bound is

  small : process_of event < length old.items
  small = let p : process_of event < n = All-contains (λ event. process_of event < n) history event within (member history at event here) in omega arith

  pub still_many : length new.items ≡ n
  still_many = ap length slots ∙ length-slots_if at event old.items (passing_of event old.items) ∙ many

  pub round_passes : passing_of event old.items ≡ Passed → Passes object history before (record { at = at + 1; slots = new; state = state })
  round_passes e = record {
    fails = λ asked h. so_far.fails asked (passes_fails object history at old.items state asked event here small e (subst (λ xs. FailsFor object history asked (at + 1) xs state) slots h));
    reached = λ order h. subst (λ xs. Reached object history (at + 1) xs state order) (sym slots) (passes_reached object history at old.items state event here small e order (so_far.reached order h));
  }

  same_slots : passing_of event old.items ≡ Stops → new.items ≡ old.items
  same_slots e = slots ∙ ap (slots_if at event old.items) e

  pub round_stops : passing_of event old.items ≡ Stops → Passes object history before (record { at = at; slots = new; state = state })
  round_stops e = record {
    fails = λ asked h. so_far.fails asked (subst (λ xs. FailsFor object history asked at xs state) (same_slots e) h);
    reached = λ order h. subst (λ xs. Reached object history at xs state order) (sym (same_slots e)) (so_far.reached order h);
  }

  pub round_ready : passing_of event old.items ≡ Stops → IsChoice history at new.items
  round_ready e = subst (IsChoice history at) (sym (same_slots e)) (stops object history at old.items event here e)

  pub round_dies : passing_of event old.items ≡ Dead → IsDead object history before
  round_dies e asked = so_far.fails asked (dies object history at old.items state asked event here e)
