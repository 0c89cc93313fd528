-- The calls that take effect by an exchange.
use Rattle.uni_any.proofs.Vocabulary.{Board, Contains, Contents, HasBatch, HasCome, Image, Invoked, IsRising, IsShown, IsSound, List, [], number_cases, subst, suc, zero, ◌++◌, ◌∷◌, ◌≢◌, ◌≤◌, ◌⊎◌, Letter, Local, Sequential, Version, View, ap, applied_in, arith, in_of, inl, inr, length, moment_of, refl, sym, ℕ, ◌+◌, ◌<◌, ◌∙◌, ◌≡◌}
use Rattle.uni_any.proofs.Batches.{applied_from, contains_cons, contains_first, contains_later, not_empty, rising_from, row_from}
use Rattle.uni_any.specs.Execution.{call_of, calls_between, pending_call, present_in}
use Rattle.uni_any.proofs.Starting.{loaded_process, present_image}

-- the calls by which an image has more than another one
module _ {I S R : Type 0} (pending : ℕ → List (Invoked I)) (before after' : Image S R) where
  pub calls_are : (count q : ℕ) (calls : List (Invoked I)) → IsRising q calls
      → ((c : Invoked I) → Contains calls c → (c.process < q + count) × (pending c.process ≡ c ∷ []) × (applied_in after' c.process ≢ applied_in before c.process))
      → ((z : ℕ) → q ≤ z → z < q + count → ((c : Invoked I) × Contains calls c × (c.process ≡ z)) ⊎ (applied_in after' z ≡ applied_in before z))
      → calls_between pending before after' q count ≡ calls
  calls_are zero q [] rising each all = refl
  calls_are zero q (c ∷ cs) rising each all = absurd (let a = (each c (contains_first c cs)).0 in let b = rising.0 in omega arith)
  calls_are (suc k) q calls rising each all = elim (number_cases (applied_in after' q) (applied_in before q)) [
    | inl same ↦ rw same.1 (calls_are k (q + 1) calls (none_first calls rising each same.0) (λ c has. (let e = each c has in let b = e.0 in ((omega arith), e.1, e.2)))
        (λ z from below. all z (omega arith) (omega arith)))
    | inr more ↦ rw more.1 (one_first (λ ds. calls_are k (q + 1) ds) calls rising each all more.0)
  ] where
    none_first : (cs : List (Invoked I)) → IsRising q cs
        → ((c : Invoked I) → Contains cs c → (c.process < q + suc k) × (pending c.process ≡ c ∷ []) × (applied_in after' c.process ≢ applied_in before c.process))
        → applied_in after' q ≡ applied_in before q → IsRising (q + 1) cs
    none_first [] up each same = tt
    none_first (d ∷ ds) up each same =
        let apart : d.process ≢ q = (λ e. (each d (contains_first d ds)).2 (ap (applied_in after') e ∙ same ∙ sym (ap (applied_in before) e))) in
        ((let u = up.0 in omega (arith, apart)), up.1)

    one_first : ((ds : List (Invoked I)) → IsRising (q + 1) ds
        → ((c : Invoked I) → Contains ds c → (c.process < q + 1 + k) × (pending c.process ≡ c ∷ []) × (applied_in after' c.process ≢ applied_in before c.process))
        → ((z : ℕ) → q + 1 ≤ z → z < q + 1 + k → ((c : Invoked I) × Contains ds c × (c.process ≡ z)) ⊎ (applied_in after' z ≡ applied_in before z))
        → calls_between pending before after' (q + 1) k ≡ ds) → (cs : List (Invoked I)) → IsRising q cs
        → ((c : Invoked I) → Contains cs c → (c.process < q + suc k) × (pending c.process ≡ c ∷ []) × (applied_in after' c.process ≢ applied_in before c.process))
        → ((z : ℕ) → q ≤ z → z < q + suc k → ((c : Invoked I) × Contains cs c × (c.process ≡ z)) ⊎ (applied_in after' z ≡ applied_in before z))
        → applied_in after' q ≢ applied_in before q → pending q ++ calls_between pending before after' (q + 1) k ≡ cs
    one_first later_are [] up each all apart = elim (all q (omega arith) (omega arith)) [
      | inl there ↦ absurd (not_empty there.0 there.1)
      | inr same ↦ absurd (apart same)
    ]
    one_first later_are (d ∷ ds) up each all apart =
        let here : d.process ≡ q = elim (all q (omega arith) (omega arith)) [
          | inl there ↦ elim (contains_cons d ds there.0 there.1) [
            | inl same ↦ ap (λ (z : Invoked I). z.process) same ∙ there.2
            | inr later ↦ absurd (let r = rising_from (d.process + 1) ds there.0 up.1 later in let e = there.2 in let u = up.0 in omega arith)
          ]
          | inr same ↦ absurd (apart same)
        ] in
        let first : pending q ≡ d ∷ [] = subst (λ z. pending z ≡ d ∷ []) here (each d (contains_first d ds)).1 in
        let others : calls_between pending before after' (q + 1) k ≡ ds = later_are ds (subst (λ z. IsRising (z + 1) ds) here up.1)
        (λ c has. let e = each c (contains_later d ds c has) in let b = e.0 in ((omega arith), e.1, e.2))
        (λ z from below. elim (all z (omega arith) (omega arith)) [
          | inl there ↦ elim (contains_cons d ds there.0 there.1) [
            | inl same ↦ absurd (let e : d.process ≡ there.0.process = ap (λ (y : Invoked I). y.process) same in let f = there.2 in omega arith)
            | inr later ↦ inl (there.0, later, there.2)
          ]
          | inr same ↦ inr same
        ]) in
        λ i. first i ++ others i

-- the calls that an exchange brings in are those by which its block has more than the present version
module _ {S I R : Type 0} (object : Sequential S I R) (n : ℕ) (g : Board I S R) (local : ℕ → Local I S R) (sound : IsSound object n g local) (image : Image S R) (batch : HasBatch object n g local image) where
  pub effects_are : (before : Image S R) → before ≡ g.image → calls_between (λ q. pending_call q (local q)) before image 0 n ≡ batch.calls
  effects_are before same =
      let long : length g.image.rows ≡ n = ap (λ (z : Image S R). length z.rows) (sym (present_is.2)) ∙ (sound.board.whole present_is.0 present_is.1).long in
      calls_are (λ q. pending_call q (local q)) before image n 0 batch.calls batch.rising
      (λ c has.
      let c_in : c.process < n = batch.below c has in
      let a = batch.asked c has in
      let more : applied_in image c.process ≡ in_of g c.process + 1 = ap (λ (z : Image S R). applied_in z c.process) batch.image_is
      ∙ applied_from object g.image 0 batch.calls c batch.rising has (λ d has'. let z = batch.below d has' in omega (arith, z, long)) in
      let was : applied_in before c.process ≡ in_of g c.process = ap (λ (z : Image S R). applied_in z c.process) same in (
        (omega arith),
        (λ k. call_of c.process (sym a.1 k) (a.2 k)),
        (λ e. omega (arith, more, was, e)),
      ))
      (λ z from below. elim (row_from object g.image batch.calls z) [
        | inl there ↦ inl there
        | inr row ↦ inr (ap (λ (i : Image S R). applied_in i z) batch.image_is ∙ ap (λ r. r.applied) row ∙ sym (ap (λ (i : Image S R). applied_in i z) same))
      ]) where
        present_is : (x : Version S R) × HasCome object n g x × (x.image ≡ g.image)
        present_is = (let w = (sound.each g.process sound.board.process).writer in ((local g.process).last, w.last, present_image object n g local sound.history sound.order (local g.process).last w.last (let a = w.present refl in omega arith)))

-- the version that S names is the present one
pub present_is : {O I S R : Type 0} (meaning : O → Sequential S I R) (o : O) (n : ℕ) (g : Board I S R) (local : ℕ → Local I S R) (seat_of : ℕ → ℕ) (c : Contents (Letter I S R) (View O I S R)) → IsShown n meaning o g local seat_of c → (present_in (moment_of c local)).image ≡ g.image
present_is meaning o n g local seat_of c is =
    let x = (is.sound.each g.process is.sound.board.process).writer in
    ap (λ q. (local q).last.image) (loaded_process meaning o n g local seat_of c is)
    ∙ present_image (meaning o) n g local is.sound.history is.sound.order (local g.process).last x.last (let a = x.present refl in omega arith)
