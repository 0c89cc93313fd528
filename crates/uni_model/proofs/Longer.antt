-- The chain as it was, or with one more cell at its end.
use Rattle.uni_model.proofs.Vocabulary.{Anchor, Name, ap, arith, cases_lt, inl, inr, refl, subst, sym, ℕ, ◌+◌, ◌<◌, ◌∙◌, ◌≡◌, ◌≤◌, ◌⊎◌}
use Rattle.uni_model.proofs.Numbered.{numbered_last, numbered_last-cases}

-- the numbers are as before, or one more: that of a cell of which this holds
abbrev pub IsLonger : (num : Name → ℕ) (last : ℕ) (num' : Name → ℕ) (last' : ℕ) → (Name → Type 0) → Type 0
IsLonger num last num' last' Holds =
    ((num' ≡ num) × (last' ≡ last))
    ⊎ ((x : Name) × Holds x × (num x ≡ 0) × (num' ≡ numbered_last num last x) × (last' ≡ last + 1))

module _ (num : Name → ℕ) (last : ℕ) (num' : Name → ℕ) (last' : ℕ) (Holds : Name → Type 0) (longer : IsLonger num last num' last' Holds) where
  -- a linked cell keeps its number
  pub numbers-cases : (y : Name) → (num' y ≡ num y) ⊎ ((num y ≡ 0) × (num' y ≡ last + 1) × Holds y)
  numbers-cases y = elim longer [
    | inl same ↦ inl (ap (λ f. f y) same.0)
    | inr more ↦ elim (numbered_last-cases num last more.0 y) [
      | inl new ↦ inr (ap num new.0 ∙ more.2, ap (λ f. f y) more.3 ∙ new.1, subst Holds (sym new.0) more.1)
      | inr old ↦ inl (ap (λ f. f y) more.3 ∙ old.1)
    ]
  ]

  pub anchor_stays : 1 ≤ num Anchor → num' Anchor ≡ num Anchor
  anchor_stays first = elim (numbers-cases Anchor) [ inl same ↦ same | inr new ↦ absurd (let none : num Anchor ≡ 0 = new.0 in omega arith) ]

  pub not_linked_before : (y : Name) → num' y ≡ 0 → num y ≡ 0
  not_linked_before y none = elim (numbers-cases y) [ inl same ↦ sym same ∙ none | inr new ↦ new.0 ]

  -- a number below the last one was so before, or is that of the cell which was the last one
  pub below-cases : (s : ℕ) → s < last' → (s < last) ⊎ ((s ≡ last) × (x : Name) × Holds x × (num' x ≡ last + 1))
  below-cases s below = elim longer [
    | inl same ↦ let e = same.1 in inl (omega arith)
    | inr more ↦
        let e = more.4 in
        elim (cases_lt s last) [
          | inl before ↦ inl before
          | inr not_before ↦ inr (
            omega arith,
            more.0,
            more.1,
            elim (numbered_last-cases num last more.0 more.0) [ inl new ↦ ap (λ f. f more.0) more.3 ∙ new.1 | inr old ↦ absurd (old.0 refl) ],
          )
        ]
  ]
