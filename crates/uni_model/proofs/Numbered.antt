-- The numbers of the chain's cells, through each kind of write.
use Rattle.uni_model.proofs.Vocabulary.{AfterOf, Anchor, Has, IsNumbered, IsPast, Link, Memory, Name, None, Number, SeqOf, Some, after_of, ap, arith, cases_lt, if◌then◌else◌, inl, inr, memory_with, name_eq, refl, seq_of, subst, sym, ℕ, ◌+◌, ◌<◌, ◌∙◌, ◌≡◌, ◌≢◌, ◌≤◌, ◌⊎◌}
use Rattle.uni_model.proofs.Written.{name_cases, seq_of-memory_with, after_of-memory_with}

-- the numbers after a cell y is linked at the end
abbrev pub numbered_last : (Name → ℕ) → ℕ → Name → Name → ℕ
numbered_last num last y x = if name_eq x y then last + 1 else num x

pub numbered_last-cases : (num : Name → ℕ) (last : ℕ) (y x : Name) → ((x ≡ y) × (numbered_last num last y x ≡ last + 1)) ⊎ ((x ≢ y) × (numbered_last num last y x ≡ num x))
numbered_last-cases num last y x = elim (name_cases x y) [ inl h ↦ inl (h.0, rw h.1 refl) | inr h ↦ inr (h.0, rw h.1 refl) ]

module _ {S I R : Type 0} (m : Memory S I R) (num : Name → ℕ) (last : ℕ) (old : IsNumbered m num last) where
  -- a cell with no number yet isn't in the chain, or past every threaded cell
  pub IsPast-threaded : (x c : Name) → seq_of m x ≡ 0 → 1 ≤ seq_of m c → IsPast num x (seq_of m c)
  IsPast-threaded x c none threaded =
      let c_num : seq_of m c ≡ num c = old.seq c threaded in
      elim (cases_lt 0 (num x)) [
        | inr outside ↦ inl (omega arith)
        | inl linked ↦
            elim (cases_lt (num c) (num x)) [
              | inl later ↦ inr (omega arith)
              | inr not_later ↦ absurd (elim (cases_lt (num x) last) [
                | inl inside ↦ let number : seq_of m x ≡ num x = old.threaded x linked inside in omega arith
                | inr end ↦
                    let bound_c : num c ≤ last = old.greatest c in
                    let same : x ≡ c = old.one_each x c linked (omega arith) in
                    let number : seq_of m x ≡ seq_of m c = ap (seq_of m) same in omega arith
              ])
            ]
      ]

  -- a cell that is linked with the number that it is given
  pub IsNumbered-seq : (d : Name) (s : ℕ) → num d ≡ s → IsNumbered (memory_with m (SeqOf d) (Number s)) num last
  IsNumbered-seq d s number = record {
    anchor = elim (seq_of-memory_with m d Anchor s) [ inl h ↦ ap num h.0 ∙ number ∙ sym h.1 | inr h ↦ old.anchor ∙ sym h.1 ];
    first = old.first;
    least = old.least;
    greatest = old.greatest;
    one_each = old.one_each;
    link = old.link;
    goes_on = old.goes_on;
    seq = λ x threaded. elim (seq_of-memory_with m d x s) [
      | inl h ↦ h.1 ∙ sym number ∙ ap num (sym h.0)
      | inr h ↦ h.1 ∙ old.seq x (subst (λ t. 1 ≤ t) h.1 threaded)
    ];
    threaded = λ x linked inside. elim (seq_of-memory_with m d x s) [
      | inl h ↦ h.1 ∙ sym number ∙ ap num (sym h.0)
      | inr h ↦ h.1 ∙ old.threaded x linked inside
    ];
  }

  module _ (c y : Name) (threaded : 1 ≤ seq_of m c) (at_end : after_of m c ≡ None) (outside : num y ≡ 0) (nothing : after_of m y ≡ None) where
    pub end_number : num c ≡ last
    end_number =
        let number : seq_of m c ≡ num c = old.seq c threaded in
        let bound : num c ≤ last = old.greatest c in
        elim (cases_lt (num c) last) [
          | inl inside ↦ absurd (let more = old.goes_on c (omega arith) inside in let e = more.1 in cc)
          | inr end ↦ omega arith
        ]

    pub positive_end : 1 ≤ last
    positive_end = let number : seq_of m c ≡ num c = old.seq c threaded in let e = end_number in omega arith

    apart : (x : Name) → 1 ≤ num x → x ≢ y
    apart x linked same = let e : num x ≡ num y = ap num same in omega arith

    kept : (x : Name) → 1 ≤ num x → numbered_last num last y x ≡ num x
    kept x linked = elim (numbered_last-cases num last y x) [ inl h ↦ absurd (apart x linked h.0) | inr h ↦ h.1 ]

    new_one_each : (x z : Name) → 1 ≤ numbered_last num last y x → numbered_last num last y x ≡ numbered_last num last y z → x ≡ z
    new_one_each x z linked same =
        let bound_x : num x ≤ last = old.greatest x in
        let bound_z : num z ≤ last = old.greatest z in
        elim (numbered_last-cases num last y x) [
          | inl hx ↦ elim (numbered_last-cases num last y z) [ inl hz ↦ hx.0 ∙ sym hz.0 | inr hz ↦ absurd (let e = hz.1 in let f = hx.1 in omega arith) ]
          | inr hx ↦ elim (numbered_last-cases num last y z) [
            | inl hz ↦ absurd (let e = hz.1 in let f = hx.1 in omega arith)
            | inr hz ↦ old.one_each x z (subst (λ t. 1 ≤ t) hx.1 linked) (sym hx.1 ∙ same ∙ hz.1)
          ]
        ]

    new_link : (x z : Name) → after_of (memory_with m (AfterOf c) (Link (Some y))) x ≡ Some z → (1 ≤ numbered_last num last y x) × (numbered_last num last y z ≡ numbered_last num last y x + 1)
    new_link x z e =
        elim (after_of-memory_with m c x (Some y)) [
          | inl h ↦
              let is_y : z ≡ y = (let f = h.1 in cc) in
              let is_c : num x ≡ last = ap num h.0 ∙ end_number in
              let positive : 1 ≤ last = positive_end in
              let number_x : numbered_last num last y x ≡ num x = kept x (omega arith) in
              let number_y : numbered_last num last y z ≡ last + 1 = elim (numbered_last-cases num last y z) [ inl hz ↦ hz.1 | inr hz ↦ absurd (hz.0 is_y) ] in
              (omega arith, omega arith)
          | inr h ↦
              let link = old.link x z (sym h.1 ∙ e) in
              let linked : 1 ≤ num x = link.0 in
              let next : num z ≡ num x + 1 = link.1 in
              let number_x : numbered_last num last y x ≡ num x = kept x linked in
              let number_z : numbered_last num last y z ≡ num z = kept z (omega arith) in
              (omega arith, omega arith)
        ]

    new_goes_on : (x : Name) → 1 ≤ numbered_last num last y x → numbered_last num last y x < last + 1 → Has (after_of (memory_with m (AfterOf c) (Link (Some y))) x)
    new_goes_on x linked inside =
        elim (after_of-memory_with m c x (Some y)) [
          | inl h ↦ (y, h.1)
          | inr h ↦
              elim (numbered_last-cases num last y x) [
                | inl hx ↦ absurd (let e = hx.1 in omega arith)
                | inr hx ↦
                    let number : numbered_last num last y x ≡ num x = hx.1 in
                    let end : num c ≡ last = end_number in
                    let positive : 1 ≤ num x = omega arith in
                    let more : Has (after_of m x) = elim (cases_lt (num x) last) [
                      | inl before ↦ old.goes_on x positive before
                      | inr past ↦ absurd (h.0 (old.one_each x c positive (omega arith)))
                    ] in
                    (more.0, h.1 ∙ more.1)
              ]
        ]

    new_threaded : (x : Name) → 1 ≤ numbered_last num last y x → numbered_last num last y x < last + 1 → seq_of m x ≡ numbered_last num last y x
    new_threaded x linked inside =
        elim (numbered_last-cases num last y x) [
          | inl hx ↦ absurd (let e = hx.1 in omega arith)
          | inr hx ↦
              let number : numbered_last num last y x ≡ num x = hx.1 in
              let positive : 1 ≤ num x = omega arith in
              elim (cases_lt (num x) last) [
                | inl before ↦ old.threaded x positive before ∙ sym number
                | inr past ↦
                    let end : num c ≡ last = end_number in
                    let bound : num x ≤ last = old.greatest x in
                    let same : x ≡ c = old.one_each x c positive (omega arith) in
                    ap (seq_of m) same ∙ old.seq c threaded ∙ ap num (sym same) ∙ sym number
              ]
        ]

    -- a cell is linked at the end
    pub IsNumbered-link : IsNumbered (memory_with m (AfterOf c) (Link (Some y))) (numbered_last num last y) (last + 1)
    IsNumbered-link =
        let number_anchor : numbered_last num last y Anchor ≡ num Anchor = kept Anchor old.first in
        record {
          anchor = number_anchor ∙ old.anchor;
          first = subst (λ t. 1 ≤ t) (sym number_anchor) old.first;
          least = λ x linked. elim (numbered_last-cases num last y x) [
            | inl h ↦ let e = h.1 in let bound : num Anchor ≤ last = old.greatest Anchor in omega arith
            | inr h ↦ let e = h.1 in let least : num Anchor ≤ num x = old.least x (subst (λ t. 1 ≤ t) h.1 linked) in omega arith
          ];
          greatest = λ x. elim (numbered_last-cases num last y x) [
            | inl h ↦ let e = h.1 in omega arith
            | inr h ↦ let e = h.1 in let bound : num x ≤ last = old.greatest x in omega arith
          ];
          one_each = new_one_each;
          link = new_link;
          goes_on = new_goes_on;
          seq = λ x number. let e : seq_of m x ≡ num x = old.seq x number in e ∙ sym (kept x (subst (λ t. 1 ≤ t) e number));
          threaded = new_threaded;
        }
