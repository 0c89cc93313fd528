-- What `escaped` makes.
use Rattle.run_tell.proofs.Vocabulary.{AllByRecursion, IsPlain, List, [], arith, escaped, escaped_byte, inl, inr, subst, sym, ℕ, ◌++◌, ◌∷◌, ◌≡◌, ◌≢◌}
use Rattle.std.proofs.lemmas.Bool.{cases_eq, ne_eqb}

plain : (b : ℕ) → b ≢ 60 → b ≢ 38 → IsPlain b
plain b no_element no_name = record { no_element = no_element; no_name = no_name }

other_byte : (b : ℕ) → b ≢ 60 → b ≢ 38 → escaped_byte b ≡ b ∷ []
other_byte b lt amp = rw (ne_eqb b 60 lt, ne_eqb b 38 amp)

-- a byte before what is plain
plain_before : (rest : List ℕ) → AllByRecursion IsPlain rest → (b : ℕ) → AllByRecursion IsPlain (escaped_byte b ++ rest)
plain_before rest more b =
    let small : (n : ℕ) → n ≢ 60 → n ≢ 38 → IsPlain n = plain in
    let start = small 92 (omega arith) (omega arith) in
    let u = small 117 (omega arith) (omega arith) in
    let zero = small 48 (omega arith) (omega arith) in
    elim (cases_eq b 60) [
      | inl is ↦
          subst (λ x. AllByRecursion IsPlain (escaped_byte x ++ rest)) (sym is)
          (start, (u, (zero, (zero, (small 51 (omega arith) (omega arith), (small 99 (omega arith) (omega arith), more))))))
      | inr lt ↦
          elim (cases_eq b 38) [
            | inl is ↦
                subst (λ x. AllByRecursion IsPlain (escaped_byte x ++ rest)) (sym is)
                (start, (u, (zero, (zero, (small 50 (omega arith) (omega arith), (small 54 (omega arith) (omega arith), more))))))
            | inr amp ↦ subst (λ l. AllByRecursion IsPlain (l ++ rest)) (sym (other_byte b lt amp)) (plain b lt amp, more)
          ]
    ]

pub escaped_plain : (trace : List ℕ) → AllByRecursion IsPlain (escaped trace)
escaped_plain [] = tt
escaped_plain (b ∷ trace) = plain_before (escaped trace) (escaped_plain trace) b
