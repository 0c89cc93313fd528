-- Among n numbers in a row there is one with each remainder.
use Rattle.uni_model.proofs.Vocabulary.{add-mod_right, arith, cases_lt, inl, inr, mod-eq_of_lt, suc, zero, ℕ, ◌%◌, ◌+◌, ◌-◌, ◌<◌, ◌∙◌, ◌≡◌, ◌≤◌}

pub with_remainder : (n r : ℕ) → r < n → (b : ℕ) → (s : ℕ) × (b ≤ s) × (s < b + n) × (s % n ≡ r)
with_remainder n r below zero = (r, omega arith, omega arith, mod-eq_of_lt below)
with_remainder n r below (suc b) =
    let before = with_remainder n r below b in
    let from : b ≤ before.0 = before.1 in
    let to : before.0 < b + n = before.2 in
    elim (cases_lt b before.0) [
      | inl past ↦ (before.0, omega arith, omega arith, before.3)
      | inr first ↦ (before.0 + n, omega arith, omega arith, add-mod_right before.0 n ∙ before.3)
    ]

-- Where first is found, and so is each number with the remainder r that isn't below first and is below last, one of them is
-- at most n below last.
pub found_near : (n r : ℕ) → r < n → (first last : ℕ) (Found : ℕ → Type 0) → Found first → ((s : ℕ) → s % n ≡ r → first ≤ s → s < last → Found s)
    → (s : ℕ) × Found s × (last ≤ s + n)
found_near n r below first last Found at_first each = elim (cases_lt last (first + n)) [
  | inl near ↦ (first, at_first, omega arith)
  | inr far ↦
      let k = with_remainder n r below (last - n) in
      let from : last - n ≤ k.0 = k.1 in
      let to : k.0 < (last - n) + n = k.2 in
      (k.0, each k.0 k.3 (omega arith) (omega arith), omega arith)
]
