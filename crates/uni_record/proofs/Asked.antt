-- How many of the events of a packed history are calls.
use Rattle.uni_record.proofs.Vocabulary.{ArePacked, Bool, Call, Event, List, Reshape, Step, Trim, [], ap, arith, asking, call_with, calls_in, cond, drop, event_shown, event_with, events_shown, false, length, length-drop, map-append, nat_eq, nat_lt, refl, suc, true, unpacked, ℕ, ◌++◌, ◌+◌, ◌-◌, ◌∙◌, ◌∷◌, ◌≡◌, ◌≤◌}
use Rattle.uni_record.specs.declared.event.Event.TheVariants as stored

module _ {I : Type 0} where
  calls_in-append : (xs ys : List (Event I)) → calls_in (xs ++ ys) ≡ calls_in xs + calls_in ys
  calls_in-append [] ys = omega arith
  calls_in-append (Call p i ∷ xs) ys = ap suc (calls_in-append xs ys) ∙ omega arith
  calls_in-append (Step p ∷ xs) ys = calls_in-append xs ys
  calls_in-append (Trim ∷ xs) ys = calls_in-append xs ys
  calls_in-append (Reshape n ∷ xs) ys = calls_in-append xs ys

  calls_in-event_with : (c : ℕ) (is : List I) → asking c ≤ length is → calls_in (events_shown (event_with c is)) ≡ asking c
  calls_in-event_with c is few = by_test is (nat_lt c 64) (nat_lt c 128) (nat_eq c 128) few where
    by_test : (is : List I) (b d t : Bool) → cond b 0 (cond d 1 0) ≤ length is
        → calls_in (events_shown (cond b (stored.Step c ∷ []) (cond d (call_with (c - 64) is) (cond t (stored.Trim ∷ []) (stored.Reshape (c - 128) ∷ [])))))
        ≡ cond b 0 (cond d 1 0)
    by_test is true d t h = refl
    by_test [] false true t h = absurd (omega (arith, h))
    by_test (i ∷ is) false true t h = refl
    by_test is false false true h = refl
    by_test is false false false h = refl

  -- there is a call for each invocation
  pub calls_in-unpacked : (codes : List ℕ) (is : List I) → ArePacked codes is → calls_in (events_shown (unpacked codes is)) ≡ length is
  calls_in-unpacked [] is packed = packed
  calls_in-unpacked (c ∷ codes) is packed =
      let gone = length-drop (asking c) is in
      let one = calls_in-event_with c is (omega (arith, packed)) in
      let rest = calls_in-unpacked codes (drop (asking c) is) (omega (arith, packed, gone)) in
      let sum = ap calls_in (map-append event_shown (event_with c is) (unpacked codes (drop (asking c) is)))
      ∙ calls_in-append (events_shown (event_with c is)) (events_shown (unpacked codes (drop (asking c) is))) in
      omega (arith, one, rest, sum, packed, gone)
