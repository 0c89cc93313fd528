-- A packed history with an event more.
use Rattle.uni_record.proofs.Vocabulary.{ArePacked, Bool, HasCode, List, [], ap, append-nil, arith, asked_by, asking, asking_in, call_with, code_of, cond, drop, drop-append-le, event_with, false, le-ltb, length, length-append, length-drop, lt-ltb, nat_eq, nat_lt, ne_eqb, refl, sym, true, unpacked, ℕ, ◌++◌, ◌+◌, ◌-◌, ◌<◌, ◌∙◌, ◌∷◌, ◌≡◌, ◌≤◌}
use Rattle.std.proofs.lemmas.List.{append_assoc}
use Rattle.uni_record.specs.declared.event.Event.{Event as Stored}
use Rattle.uni_record.specs.declared.event.Event.TheVariants.{Call, Step, Trim, Reshape}

asking_in-snoc : (codes : List ℕ) (c : ℕ) → asking_in (codes ++ c ∷ []) ≡ asking_in codes + asking c
asking_in-snoc [] c = omega arith
asking_in-snoc (d ∷ codes) c = (let rest = asking_in-snoc codes c in omega (arith, rest))

module _ {I : Type 0} where
  -- what a code says, by the tests on it
  step_with : (c : ℕ) (is : List I) → c < 64 → event_with c is ≡ Step c ∷ []
  step_with c is below = rw (lt-ltb c 64 below) refl

  no_step : (c : ℕ) (is : List I) → 64 ≤ c → c < 128 → event_with c is ≡ call_with (c - 64) is
  no_step c is above below = rw (le-ltb c 64 above, lt-ltb c 128 below) refl

  no_call : (c : ℕ) (is : List I) → 128 ≤ c → event_with c is ≡ cond (nat_eq c 128) (Trim ∷ []) (Reshape (c - 128) ∷ [])
  no_call c is above = rw (le-ltb c 64 (omega (arith, above)), le-ltb c 128 above) refl

  -- an event is read again by its code
  event_of_code : (e : Stored I) → HasCode e → event_with (code_of e) (asked_by e) ≡ e ∷ []
  event_of_code (Step p) below = step_with p [] below
  event_of_code (Call p i) below = no_step (64 + p) (i ∷ []) (omega arith) (omega (arith, below)) ∙ ap (λ q. Call q i ∷ []) (omega arith)
  event_of_code Trim any = refl
  event_of_code (Reshape n) some = (let least = some.0 in
      no_call (128 + n) [] (omega arith) ∙ rw (ne_eqb (128 + n) 128 (λ e. omega (arith, e, least))) (ap (λ m. Reshape m ∷ []) (omega arith)))

  asking_of_code : (e : Stored I) → HasCode e → asking (code_of e) ≡ length (asked_by e)
  asking_of_code (Step p) below = rw (lt-ltb p 64 below) refl
  asking_of_code (Call p i) below = rw (le-ltb (64 + p) 64 (omega arith), lt-ltb (64 + p) 128 (omega (arith, below))) refl
  asking_of_code Trim any = refl
  asking_of_code (Reshape n) some = rw (le-ltb (128 + n) 64 (omega arith), le-ltb (128 + n) 128 (omega arith)) refl

  -- further invocations change no event that has its own
  event_with-append : (c : ℕ) (is more : List I) → asking c ≤ length is → event_with c (is ++ more) ≡ event_with c is
  event_with-append c [] more few = by_test (nat_lt c 64) (nat_lt c 128) few where
    by_test : (b d : Bool) → cond b 0 (cond d 1 0) ≤ 0
        → cond b (Step c ∷ []) (cond d (call_with (c - 64) more) (cond (nat_eq c 128) (Trim ∷ []) (Reshape (c - 128) ∷ [])))
        ≡ cond b (Step c ∷ []) (cond d [] (cond (nat_eq c 128) (Trim ∷ []) (Reshape (c - 128) ∷ [])))
    by_test true d h = refl
    by_test false true h = absurd (omega (arith, h))
    by_test false false h = refl
  event_with-append c (i ∷ is) more few = refl

  length-event_with : (c : ℕ) (is : List I) → asking c ≤ length is → length (event_with c is) ≡ 1
  length-event_with c is few = by_test is (nat_lt c 64) (nat_lt c 128) (nat_eq c 128) few where
    by_test : (is : List I) (b d t : Bool) → cond b 0 (cond d 1 0) ≤ length is
        → length (cond b (Step c ∷ []) (cond d (call_with (c - 64) is) (cond t (Trim ∷ []) (Reshape (c - 128) ∷ [])))) ≡ 1
    by_test is true d t h = refl
    by_test [] false true t h = absurd (omega (arith, h))
    by_test (i ∷ is) false true t h = refl
    by_test is false false true h = refl
    by_test is false false false h = refl

  -- a code and its invocation at the end are one event more
  unpacked-snoc : (codes : List ℕ) (is : List I) (e : Stored I) → ArePacked codes is → HasCode e
      → unpacked (codes ++ code_of e ∷ []) (is ++ asked_by e) ≡ unpacked codes is ++ e ∷ []
  unpacked-snoc [] [] e packed coded = append-nil _ ∙ event_of_code e coded
  unpacked-snoc [] (i ∷ is) e packed coded = absurd (omega (arith, packed))
  unpacked-snoc (c ∷ codes) is e packed coded =
      rw (event_with-append c is (asked_by e) few, drop-append-le (asking c) is (asked_by e) few, unpacked-snoc codes (drop (asking c) is) e left coded)
      (sym (append_assoc (event_with c is) (unpacked codes (drop (asking c) is)) (e ∷ []))) where
        few : asking c ≤ length is
        few = omega (arith, packed)

        left : ArePacked codes (drop (asking c) is)
        left = (let gone = length-drop (asking c) is in omega (arith, packed, gone))

  ArePacked-snoc : (codes : List ℕ) (is : List I) (e : Stored I) → ArePacked codes is → HasCode e → ArePacked (codes ++ code_of e ∷ []) (is ++ asked_by e)
  ArePacked-snoc codes is e packed coded = (let more = asking_in-snoc codes (code_of e) in let own = asking_of_code e coded in let sum = length-append is (asked_by e) in omega (arith, packed, more, own, sum))

  pub pushed : (codes longer : List ℕ) (is more : List I) (e : Stored I) → ArePacked codes is → HasCode e → longer ≡ codes ++ code_of e ∷ [] → more ≡ is ++ asked_by e
      → ArePacked longer more × (unpacked longer more ≡ unpacked codes is ++ e ∷ [])
  pushed codes longer is more e packed coded same_codes same_is = rw (same_codes, same_is) (ArePacked-snoc codes is e packed coded, unpacked-snoc codes is e packed coded)

  -- there is an event for each code
  pub length-unpacked : (codes : List ℕ) (is : List I) → ArePacked codes is → length (unpacked codes is) ≡ length codes
  length-unpacked [] is packed = refl
  length-unpacked (c ∷ codes) is packed =
      let gone = length-drop (asking c) is in
      let one = length-event_with c is (omega (arith, packed)) in
      let rest = length-unpacked codes (drop (asking c) is) (omega (arith, packed, gone)) in
      let sum = length-append (event_with c is) (unpacked codes (drop (asking c) is)) in
      omega (arith, one, rest, sum)
