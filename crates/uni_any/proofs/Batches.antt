-- Calls that are applied one after another.
use Rattle.uni_any.proofs.Vocabulary.{AcceptsAll, Atomic, Linearize, append-nil, append_assoc, Contains, Contains-append_cases, Image, Invoked, IsRising, List, Row, Sequential, Some, [], ap, applied_in, arith, blank, cond, false, fold, get_or-set_other, get_or-set_same, image_from, inl, inr, inv_of, length, length-set, map, number_cases, refl, response_at, row_in, slice_get, state_after, subst, suc, sym, taken_in, zero, ℕ, ◌++◌, ◌+◌, ◌<◌, ◌==◌, ◌∙◌, ◌∷◌, ◌≡◌, ◌≢◌, ◌≤◌, ◌⊎◌}

pub contains_cons : {A : Type 0} (x : A) (xs : List A) (y : A) → Contains (x ∷ xs) y → (x ≡ y) ⊎ Contains xs y
contains_cons x xs y (zero, below, e) = inl e
contains_cons x xs y (suc k, below, e) = inr (k, (let b = below in omega arith), e)

pub contains_later : {A : Type 0} (x : A) (xs : List A) (y : A) → Contains xs y → Contains (x ∷ xs) y
contains_later x xs y (k, below, e) = (suc k, (let b = below in omega arith), e)

pub contains_first : {A : Type 0} (x : A) (xs : List A) → Contains (x ∷ xs) x
contains_first x xs = (0, omega arith, refl)

pub not_empty : {A : Type 0} (y : A) → Contains [] y → ⊥
not_empty y (k, below, e) = let b = below in omega arith

pub rising_snoc : {I : Type 0} (from : ℕ) (cs : List (Invoked I)) (c : Invoked I) → IsRising from cs → ((d : Invoked I) → Contains cs d → d.process < c.process) → from ≤ c.process → IsRising from (cs ++ c ∷ [])
rising_snoc from [] c rising below least = (least, tt)
rising_snoc from (d ∷ cs) c rising below least =
    (rising.0, rising_snoc (d.process + 1) cs c rising.1 (λ e has. below e (contains_later d cs e has)) (let b = below d (contains_first d cs) in omega arith))

-- calls of processes from one on
pub rising_from : {I : Type 0} (from : ℕ) (cs : List (Invoked I)) (c : Invoked I) → IsRising from cs → Contains cs c → from ≤ c.process
rising_from from [] c rising has = absurd (not_empty c has)
rising_from from (d ∷ cs) c rising has = elim (contains_cons d cs c has) [
  | inl same ↦ subst (λ (e : Invoked _). from ≤ e.process) same rising.0
  | inr later ↦ (let r = rising_from (d.process + 1) cs c rising.1 later in let a = rising.0 in omega arith)
]

-- the row of a process after a call of it or of another one
pub row_here : {S I R : Type 0} (object : Sequential S I R) (image : Image S R) (q : ℕ) (inv : I) → q < length image.rows
    → row_in (taken_in object image q inv) q ≡ record { applied = applied_in image q + 1; reply = Some (object.answer image.state inv) }
row_here object image q inv inside = get_or-set_same image.rows q _ blank inside

pub row_else : {S I R : Type 0} (object : Sequential S I R) (image : Image S R) (q r : ℕ) (inv : I) → q ≢ r → row_in (taken_in object image r inv) q ≡ row_in image q
row_else object image q r inv apart = get_or-set_other image.rows r q _ blank apart

module _ {S I R : Type 0} (object : Sequential S I R) where
  pub image_from-append : (image : Image S R) (cs ds : List (Invoked I)) → image_from object image (cs ++ ds) ≡ image_from object (image_from object image cs) ds
  image_from-append image [] ds = refl
  image_from-append image (c ∷ cs) ds = image_from-append (taken_in object image c.process c.inv) cs ds

  pub long_from : (image : Image S R) (cs : List (Invoked I)) → length (image_from object image cs).rows ≡ length image.rows
  long_from image [] = refl
  long_from image (c ∷ cs) = long_from (taken_in object image c.process c.inv) cs ∙ length-set image.rows c.process _

  -- the state is that after these calls
  pub state_from : (image : Image S R) (cs : List (Invoked I)) → (image_from object image cs).state ≡ state_after object image.state (map inv_of cs)
  state_from image [] = refl
  state_from image (c ∷ cs) = state_from (taken_in object image c.process c.inv) cs

  -- a row counts the calls of its process
  row_counts : (image : Image S R) (c : Invoked I) (q : ℕ) → q < length image.rows → applied_in (taken_in object image c.process c.inv) q ≡ applied_in image q + cond (c.process == q) 1 0
  row_counts image c q inside = elim (number_cases c.process q) [
    | inl same ↦
        subst (λ p. applied_in (taken_in object image p c.inv) q ≡ applied_in image q + cond (c.process == q) 1 0) (sym same.0)
        (ap (λ (z : Row R). z.applied) (row_here object image q c.inv inside) ∙ ap (λ b. applied_in image q + cond b 1 0) (sym same.1))
    | inr other ↦
        let none : applied_in image q ≡ applied_in image q + cond false 1 0 = omega arith in
        ap (λ (z : Row R). z.applied) (row_else object image q c.process c.inv (λ e. other.0 (sym e))) ∙ none ∙ ap (λ b. applied_in image q + cond b 1 0) (sym other.1)
  ]

  pub counted_from : (image : Image S R) (cs : List (Invoked I)) (q : ℕ) → q < length image.rows → applied_in (image_from object image cs) q ≡ fold (λ a (c : Invoked I). a + cond (c.process == q) 1 0) (applied_in image q) cs
  counted_from image [] q inside = refl
  counted_from image (c ∷ cs) q inside =
      let l = length-set image.rows c.process (record { applied = applied_in image c.process + 1; reply = Some (object.answer image.state c.inv) }) in
      counted_from (taken_in object image c.process c.inv) cs q (omega (arith, l, inside))
      ∙ ap (λ k. fold (λ a (d : Invoked I). a + cond (d.process == q) 1 0) k cs) (row_counts image c q inside)

  -- a process has a call among them, or its row stays
  pub row_from : (image : Image S R) (cs : List (Invoked I)) (q : ℕ) → ((c : Invoked I) × Contains cs c × (c.process ≡ q)) ⊎ (row_in (image_from object image cs) q ≡ row_in image q)
  row_from image [] q = inr refl
  row_from image (c ∷ cs) q = elim (number_cases c.process q) [
    | inl same ↦ inl (c, contains_first c cs, same.0)
    | inr other ↦ elim (row_from (taken_in object image c.process c.inv) cs q) [
      | inl h ↦ inl (h.0, contains_later c cs h.0 h.1, h.2)
      | inr h ↦ inr (h ∙ row_else object image q c.process c.inv (λ e. other.0 (sym e)))
    ]
  ]

  -- a process below all of them has the row that it had
  row_before : (image : Image S R) (from : ℕ) (cs : List (Invoked I)) (q : ℕ) → IsRising from cs → q < from → row_in (image_from object image cs) q ≡ row_in image q
  row_before image from [] q rising before = refl
  row_before image from (c ∷ cs) q rising before =
      row_before (taken_in object image c.process c.inv) (c.process + 1) cs q rising.1 (let r = rising.0 in omega arith)
      ∙ row_else object image q c.process c.inv (λ e. let r = rising.0 in omega arith)

  -- each of them takes effect at its place, with the reply that its row has then
  pub taken_from : (image : Image S R) (from : ℕ) (cs : List (Invoked I)) (c : Invoked I) (x : R) → IsRising from cs → Contains cs c → ((d : Invoked I) → Contains cs d → d.process < length image.rows)
      → (row_in (image_from object image cs) c.process).reply ≡ Some x → (k : ℕ) × (slice_get cs k ≡ Some c) × (response_at object image.state (map inv_of cs) k ≡ Some x)
  taken_from image from [] c x rising has inside reply = absurd (not_empty c has)
  taken_from image from (d ∷ cs) c x rising has inside reply = elim (contains_cons d cs c has) [
    | inl same ↦
        let row : row_in (image_from object (taken_in object image d.process d.inv) cs) d.process ≡ record { applied = applied_in image d.process + 1; reply = Some (object.answer image.state d.inv) }
        = row_before (taken_in object image d.process d.inv) (d.process + 1) cs d.process rising.1 (omega arith) ∙ row_here object image d.process d.inv (inside d (contains_first d cs)) in
        (0, ap Some same, sym (ap (λ (z : Row R). z.reply) row) ∙ ap (λ (z : Invoked I). (row_in (image_from object (taken_in object image d.process d.inv) cs) z.process).reply) same ∙ reply)
    | inr later ↦
        let t = taken_from (taken_in object image d.process d.inv) (d.process + 1) cs c x rising.1 later
        (λ e has'. let i = inside e (contains_later d cs e has') in let l = length-set image.rows d.process (record { applied = applied_in image d.process + 1; reply = Some (object.answer image.state d.inv) }) in omega arith) reply in
        (suc t.0, t.1, t.2)
  ]

  -- a process that has a call among them has one call more in
  pub applied_from : (image : Image S R) (from : ℕ) (cs : List (Invoked I)) (c : Invoked I) → IsRising from cs → Contains cs c → ((d : Invoked I) → Contains cs d → d.process < length image.rows)
      → applied_in (image_from object image cs) c.process ≡ applied_in image c.process + 1
  applied_from image from [] c rising has inside = absurd (not_empty c has)
  applied_from image from (d ∷ cs) c rising has inside = elim (contains_cons d cs c has) [
    | inl same ↦
        let row : row_in (image_from object (taken_in object image d.process d.inv) cs) d.process ≡ record { applied = applied_in image d.process + 1; reply = Some (object.answer image.state d.inv) }
        = row_before (taken_in object image d.process d.inv) (d.process + 1) cs d.process rising.1 (omega arith) ∙ row_here object image d.process d.inv (inside d (contains_first d cs)) in
        subst (λ (z : Invoked I). applied_in (image_from object (taken_in object image d.process d.inv) cs) z.process ≡ applied_in image z.process + 1) same (ap (λ (z : Row R). z.applied) row)
    | inr later ↦
        let t = applied_from (taken_in object image d.process d.inv) (d.process + 1) cs c rising.1 later
        (λ e has'. let i = inside e (contains_later d cs e has') in let l = length-set image.rows d.process (record { applied = applied_in image d.process + 1; reply = Some (object.answer image.state d.inv) }) in omega arith) in
        let above = rising_from (d.process + 1) cs c rising.1 later in
        t ∙ ap (λ (z : Row R). z.applied + 1) (row_else object image c.process d.process d.inv (λ e. omega arith))
  ]

  -- the atomic object accepts that they take effect
  pub linearized : (a : Atomic S I) (from : ℕ) (cs : List (Invoked I)) → IsRising from cs → ((c : Invoked I) → Contains cs c → a.open_call c.process ≡ Some c)
      → ((d : Invoked I) → Contains a.agreed d → (c : Invoked I) → Contains cs c → d.process ≡ c.process → d.nth < c.nth)
      → AcceptsAll {R = R} object a (map (λ c. Linearize c) cs) (record a { agreed = a.agreed ++ cs })
  linearized a from [] rising opened old = ap (λ l. record a { agreed = l }) (append-nil a.agreed)
  linearized a from (c ∷ cs) rising opened old = (
    record a { agreed = a.agreed ++ c ∷ [] },
    (
      opened c (contains_first c cs),
      (λ has. let b : c.nth < c.nth = old c has c (contains_first c cs) refl in omega arith),
      refl,
    ),
    subst (λ l. AcceptsAll {R = R} object (record a { agreed = a.agreed ++ c ∷ [] }) (map (λ c. Linearize c) cs) (record a { agreed = l })) (append_assoc a.agreed (c ∷ []) cs)
        (linearized (record a { agreed = a.agreed ++ c ∷ [] }) (c.process + 1) cs rising.1 (λ d has. opened d (contains_later c cs d has))
        (λ d has e has' same. elim (Contains-append_cases a.agreed (c ∷ []) d has) [
          | inl was ↦ old d was e (contains_later c cs e has') same
          | inr new ↦ elim (contains_cons c [] d new) [
            | inl this ↦ absurd (let x = rising_from (c.process + 1) cs e rising.1 has' in let y : c.process ≡ d.process = ap (λ (z : Invoked I). z.process) this in omega arith)
            | inr none ↦ absurd (not_empty d none)
          ]
        ])),
  )
