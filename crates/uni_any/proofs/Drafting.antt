-- The calls that come next, of those that a process has seen.
use Rattle.uni_any.proofs.Vocabulary.{Board, Contains, HasBatch, HasDrafted, HasLooked, IsBase, IsReader, IsRising, IsSound, IsStageAt, IsWhole, Idle, Image, Invoked, List, Local, None, Option, Posting, Reading, Ready, Row, Sequential, Some, Stage, Told, Writing, [], announced_by, ap, applied_in, arith, base_of, begun, called_by, calls_due, drafted, due, first_told, image_from, in_of, inl, inr, length, length-set, made_by, nat_eq, number_cases, pending_of, refl, row_in, seen_of, slice_index_or, subst, suc, sym, taken_in, true, word_of, zero, ℕ, ◌+◌, ◌<◌, ◌∙◌, ◌∷◌, ◌≡◌, ◌≤◌, ◌⊎◌}
use Rattle.uni_any.proofs.Batches.{applied_from, contains_cons, contains_first, contains_later, not_empty, row_else, row_from, row_here}

-- of one process
due_cases : {I S R : Type 0} (image : Image S R) (q : ℕ) (t : Told I S R) → ((i : I) × (due image q t ≡ Some i) × (t.call ≡ applied_in image q + 1) × (t.inv ≡ Some i)) ⊎ ((due image q t ≡ None) × ((i : I) → t.call ≡ applied_in image q + 1 → t.inv ≡ Some i → ⊥))
due_cases {I} image q t = elim (number_cases t.call (applied_in image q + 1)) [
  | inl same ↦ by t.inv refl same.0 same.1
  | inr other ↦ inr (rw other.1 refl, (λ i e has. other.0 e))
] where
  by : (inv : Option I) → t.inv ≡ inv → t.call ≡ applied_in image q + 1 → nat_eq t.call (applied_in image q + 1) ≡ true → ((i : I) × (due image q t ≡ Some i) × (t.call ≡ applied_in image q + 1) × (t.inv ≡ Some i)) ⊎ ((due image q t ≡ None) × ((i : I) → t.call ≡ applied_in image q + 1 → t.inv ≡ Some i → ⊥))
  by None is e test = inr (rw test is, (λ i e' has. (let z : None ≡ Some i = sym is ∙ has in cc)))
  by (Some i) is e test = inl (i, rw test is, e, is)

module _ {I S R : Type 0} (image : Image S R) (d : Told I S R) where
  abbrev One : (q : ℕ) → Option I → List (Invoked I) → List (Invoked I)
  One q None more = more
  One q (Some inv) more = record { process = q; nth = applied_in image q; inv = inv } ∷ more

  due_rises : (q : ℕ) (ts : List (Told I S R)) → IsRising q (calls_due image q ts)
  due_rises q [] = tt
  due_rises q (t ∷ ts) = elim (due_cases image q t) [
    | inl one ↦ rw one.1 (omega arith, due_rises (q + 1) ts)
    | inr none ↦ rw none.0 (later_rises (calls_due image (q + 1) ts) (due_rises (q + 1) ts))
  ] where
    later_rises : (cs : List (Invoked I)) → IsRising (q + 1) cs → IsRising q cs
    later_rises [] h = tt
    later_rises (c ∷ cs) h = ((let a = h.0 in omega arith), h.1)

  abbrev Seen : (q : ℕ) → List (Told I S R) → Invoked I → Type 0
  Seen q ts c = (j : ℕ) × (c.process ≡ q + j) × (j < length ts) × ((slice_index_or ts j d).call ≡ applied_in image c.process + 1) × ((slice_index_or ts j d).inv ≡ Some c.inv) × (c.nth ≡ applied_in image c.process)

  seen_of_one : (q : ℕ) (t : Told I S R) (ts : List (Told I S R)) (c : Invoked I) → (Contains (calls_due image (q + 1) ts) c → Seen (q + 1) ts c)
      → ((i : I) × (due image q t ≡ Some i) × (t.call ≡ applied_in image q + 1) × (t.inv ≡ Some i)) ⊎ ((due image q t ≡ None) × ((i : I) → t.call ≡ applied_in image q + 1 → t.inv ≡ Some i → ⊥))
      → Contains (One q (due image q t) (calls_due image (q + 1) ts)) c → Seen q (t ∷ ts) c
  seen_of_one q t ts c rest (inl one) has = elim (contains_cons (record { process = q; nth = applied_in image q; inv = one.0 }) (calls_due image (q + 1) ts) c (subst (λ o. Contains (One q o (calls_due image (q + 1) ts)) c) one.1 has)) [
    | inl this ↦
        let at : q ≡ c.process = ap (λ (z : Invoked I). z.process) this in (
          0,
          (let a = at in omega arith),
          omega arith,
          one.2 ∙ ap (λ k. applied_in image k + 1) at,
          one.3 ∙ ap (λ (z : Invoked I). Some z.inv) this,
          sym (ap (λ (z : Invoked I). z.nth) this) ∙ ap (applied_in image) at,
        )
    | inr there ↦ (let h = rest there in (suc h.0, (let a = h.1 in omega arith), (let b = h.2 in omega arith), h.3, h.4, h.5))
  ]
  seen_of_one q t ts c rest (inr none) has =
      let h = rest (subst (λ o. Contains (One q o (calls_due image (q + 1) ts)) c) none.0 has) in
      (suc h.0, (let a = h.1 in omega arith), (let b = h.2 in omega arith), h.3, h.4, h.5)

  -- each of them was seen
  pub due_seen : (q : ℕ) (ts : List (Told I S R)) (c : Invoked I) → Contains (calls_due image q ts) c → Seen q ts c
  due_seen q [] c has = absurd (not_empty c has)
  due_seen q (t ∷ ts) c has = seen_of_one q t ts c (λ there. due_seen (q + 1) ts c there) (due_cases image q t) has

  -- and each that was seen is one of them
  pub due_there : (q : ℕ) (ts : List (Told I S R)) (j : ℕ) (i : I) → j < length ts → (slice_index_or ts j d).call ≡ applied_in image (q + j) + 1 → (slice_index_or ts j d).inv ≡ Some i
      → Contains (calls_due image q ts) (record { process = q + j; nth = applied_in image (q + j); inv = i })
  due_there q [] j i below call inv = absurd (omega arith)
  due_there q (t ∷ ts) zero i below call inv = elim (due_cases image q t) [
    | inl one ↦
        let here : q + 0 ≡ q = omega arith in
        let same : Some one.0 ≡ Some i = sym one.3 ∙ inv in
        let same_inv : one.0 ≡ i = cc in
        rw one.1 (subst (λ k. Contains (record { process = q; nth = applied_in image q; inv = one.0 } ∷ calls_due image (q + 1) ts) (record { process = k; nth = applied_in image k; inv = i })) (sym here)
        (subst (λ z. Contains (record { process = q; nth = applied_in image q; inv = one.0 } ∷ calls_due image (q + 1) ts) (record { process = q; nth = applied_in image q; inv = z })) same_inv (contains_first _ _)))
    | inr none ↦ absurd (let here : q + 0 ≡ q = omega arith in none.1 i (call ∙ ap (λ k. applied_in image k + 1) here) inv)
  ]
  due_there q (t ∷ ts) (suc j) i below call inv =
      let step : (q + 1) + j ≡ q + suc j = omega arith in
      let there = due_there (q + 1) ts j i (omega arith) (call ∙ ap (λ k. applied_in image k + 1) (sym step)) inv in
      let there' = subst (λ k. Contains (calls_due image (q + 1) ts) (record { process = k; nth = applied_in image k; inv = i })) step there in
      elim (due_cases image q t) [
        | inl one ↦ rw one.1 (contains_later _ _ _ there')
        | inr none ↦ rw none.0 there'
      ]

-- an image stays whole
module _ {S I R : Type 0} (object : Sequential S I R) (n : ℕ) where
  taken_whole : (image : Image S R) (q : ℕ) (inv : I) → q < n → IsWhole n image → IsWhole n (taken_in object image q inv)
  taken_whole image q inv q_in was = record {
    long = length-set image.rows q _ ∙ was.long;
    replies = λ z z_in some. elim (number_cases z q) [
      | inl same ↦
          let row = row_here object image q inv (let l = was.long in omega (arith, q_in)) in
          subst (λ k. (x : R) × ((row_in (taken_in object image q inv) k).reply ≡ Some x)) (sym same.0) (object.answer image.state inv, ap (λ (y : Row R). y.reply) row)
      | inr other ↦
          let row = row_else object image z q inv other.0 in
          let old = was.replies z z_in (let e = ap (λ (y : Row R). y.applied) row in omega (arith, some)) in
          (old.0, ap (λ (y : Row R). y.reply) row ∙ old.1)
    ];
  }

  pub whole_from : (image : Image S R) (cs : List (Invoked I)) → ((c : Invoked I) → Contains cs c → c.process < n) → IsWhole n image → IsWhole n (image_from object image cs)
  whole_from image [] inside was = was
  whole_from image (c ∷ cs) inside was = whole_from (taken_in object image c.process c.inv) cs (λ d has. inside d (contains_later c cs d has)) (taken_whole image c.process c.inv (inside c (contains_first c cs)) was)

  module _ (g : Board I S R) (local : ℕ → Local I S R) (sound : IsSound object n g local) (p : ℕ) (l : Local I S R) (reader : IsReader object n g local l) (looked : HasLooked object n g local p l n) (local_is : local p ≡ l) where
    base : IsBase object n g local l (base_of object n l)
    base = looked.base reader.process

    inside : (image : Image S R) (c : Invoked I) → Contains (calls_due image 0 l.seen) c → c.process < n
    inside image c has = (let h = due_seen image (first_told object n) 0 l.seen c has in let a = h.1 in let b = h.2 in let d = reader.long in omega arith)

    -- what it drafts is whole
    pub draft_whole : IsWhole n (drafted object (base_of object n l).image l.seen)
    draft_whole = whole_from (base_of object n l).image (calls_due (base_of object n l).image 0 l.seen) (inside (base_of object n l).image) (sound.board.whole (base_of object n l) base.come)

    made_least : (q : ℕ) → q < n → made_by (local q) ≤ in_of g q
    made_least q q_in = by (local q).stage (sound.each q q_in).stage where
      by : (stage : Stage I S R) → IsStageAt object n g local q (local q) stage → made_by (local q) ≤ in_of g q
      by Idle h = (let a = h.0 in omega arith)
      by (Posting inv count) h = h.0.least
      by (Ready inv tries) h = h.0.0.least
      by (Reading inv tries count) h = h.0.0.least
      by (Writing inv tries image count) h = h.0.0.least

    begun_cases : (made : ℕ) (pending : Option I) → made + 1 ≤ begun made pending → (i : I) × (pending ≡ Some i)
    begun_cases made None more = absurd (omega (arith, more))
    begun_cases made (Some i) more = (i, refl)

    begun_most : (made : ℕ) (pending : Option I) → begun made pending ≤ made + 1
    begun_most made None = omega arith
    begun_most made (Some i) = omega arith

    -- where S is as it was
    module _ (fresh : l.word ≡ word_of g.number g.process) where
      base_is : (base_of object n l).image ≡ g.image
      base_is = (base.fresh fresh).1

      abbrev calls : List (Invoked I)
      calls = calls_due g.image 0 l.seen

      long : length g.image.rows ≡ n
      long = ap (λ (z : Image S R). length z.rows) (sym base_is) ∙ (sound.board.whole (base_of object n l) base.come).long

      image_is : drafted object (base_of object n l).image l.seen ≡ image_from object g.image calls
      image_is = ap (λ z. drafted object z l.seen) base_is

      -- a call that was seen and isn't in is pending
      asked_of : (q : ℕ) → q < n → (seen_of object n l q).call ≡ in_of g q + 1 → (made_by (local q) ≡ in_of g q) × (called_by (local q) ≡ in_of g q + 1) × ((i : I) × (pending_of (local q).stage ≡ Some i) × ((seen_of object n l q).inv ≡ Some i))
      asked_of q q_in call =
          let a = reader.called q q_in in
          let b = made_least q q_in in
          let d = begun_most (made_by (local q)) (pending_of (local q).stage) in
          let made : made_by (local q) ≡ in_of g q = omega (arith, a, b, d, call) in
          let pend = begun_cases (made_by (local q)) (pending_of (local q).stage) (omega (arith, a, call, made)) in
          (made, omega (arith, a, d, call, made), (pend.0, pend.1, reader.inv q q_in (omega (arith, call, made)) ∙ pend.1))

      seen_call : (c : Invoked I) → Contains calls c → (c.process < n) × ((seen_of object n l c.process).call ≡ in_of g c.process + 1) × ((seen_of object n l c.process).inv ≡ Some c.inv) × (c.nth ≡ in_of g c.process)
      seen_call c has =
          let h = due_seen g.image (first_told object n) 0 l.seen c has in
          let at : h.0 ≡ c.process = (let a = h.1 in omega arith) in
          (inside g.image c has, ap (λ k. (seen_of object n l k).call) (sym at) ∙ h.3, ap (λ k. (seen_of object n l k).inv) (sym at) ∙ h.4, h.5)

      rising : IsRising 0 calls
      rising = due_rises g.image (first_told object n) 0 l.seen

      batch : HasBatch object n g local (drafted object (base_of object n l).image l.seen)
      batch = record {
        calls = calls;
        image_is = image_is;
        rising = rising;
        below = λ c has. inside g.image c has;
        asked = λ c has.
            let h = seen_call c has in
            let a = asked_of c.process h.0 h.1 in
            let same : Some a.2.0 ≡ Some c.inv = sym a.2.2 ∙ h.2 in
            (h.3, h.3 ∙ sym a.0, a.2.1 ∙ same);
      }

      told : (q : ℕ) → q < n → (applied_in (image_from object g.image calls) q ≡ in_of g q) ⊎ ((applied_in (image_from object g.image calls) q ≡ in_of g q + 1) × (called_by (local q) ≡ in_of g q + 1))
      told q q_in = elim (row_from object g.image calls q) [
        | inl c ↦
            let h = seen_call c.0 c.1 in
            let more = applied_from object g.image 0 calls c.0 rising c.1 (λ d has. let a = inside g.image d has in let b = long in omega arith) in
            let called = (asked_of c.0.process h.0 h.1).1 in
            inr (ap (applied_in (image_from object g.image calls)) (sym c.2) ∙ more ∙ ap (λ k. in_of g k + 1) c.2, ap (λ k. called_by (local k)) (sym c.2) ∙ called ∙ ap (λ k. in_of g k + 1) c.2)
        | inr row ↦ inl (ap (λ (y : Row R). y.applied) row)
      ]

      caught : (q : ℕ) → q < n → (q ≡ p) ⊎ (g.since q < g.number) → announced_by n (local q) ≤ applied_in (image_from object g.image calls) q
      caught q q_in which =
          let a = looked.caught fresh q q_in which in
          let b = reader.called q q_in in
          let d = made_least q q_in in
          let e = begun_most (made_by (local q)) (pending_of (local q).stage) in
          elim (number_cases (seen_of object n l q).call (in_of g q + 1)) [
            | inl due_is ↦
                let asked = asked_of q q_in due_is.0 in
                let here : 0 + q ≡ q = omega arith in
                let there = due_there g.image (first_told object n) 0 l.seen q asked.2.0 (let m = reader.long in omega (arith, q_in)) (due_is.0 ∙ ap (λ k. in_of g k + 1) (sym here)) asked.2.2 in
                let more = applied_from object g.image 0 calls (record { process = 0 + q; nth = in_of g (0 + q); inv = asked.2.0 }) rising there (λ z has. let m = inside g.image z has in let k = long in omega arith) in
                let more' : applied_in (image_from object g.image calls) q ≡ in_of g q + 1 = ap (applied_in (image_from object g.image calls)) (sym here) ∙ more ∙ ap (λ k. in_of g k + 1) here in
                omega (arith, a, more', due_is.0)
            | inr other ↦
                let few : (seen_of object n l q).call ≤ in_of g q = omega (arith, b, d, e, other.0) in
                elim (told q q_in) [ inl same ↦ omega (arith, a, few, same) | inr more ↦ (let m = more.0 in omega (arith, a, few)) ]
          ]

      pub draft_is : HasDrafted object n g local p (drafted object (base_of object n l).image l.seen)
      draft_is = record {
        told = λ q q_in. subst (λ (z : Image S R). (applied_in z q ≡ in_of g q) ⊎ ((applied_in z q ≡ in_of g q + 1) × (called_by (local q) ≡ in_of g q + 1))) (sym image_is) (told q q_in);
        caught = λ q q_in which. subst (λ (z : Image S R). announced_by n (local q) ≤ applied_in z q) (sym image_is) (caught q q_in which);
        lacks = ap (λ (z : Image S R). applied_in z p) (sym base_is) ∙ looked.lacks refl ∙ ap (λ (z : Local I S R). made_by z) (sym local_is);
        batch = batch;
      }
