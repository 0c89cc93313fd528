-- What is settled in the chain's cells, and the way back, through each kind of write.
use Rattle.uni_model.proofs.Vocabulary.{AfterOf, Anchor, BeforeOf, Grows, Has, HasValues, IsNumbered, LeadsBack, Link, Memory, Name, NewOf, None, Number, Of, Option, SeqOf, Sequential, Settled, Some, after_of, ap, arith, before_of, inl, inr, inv_of, memory_with, new_of, refl, response_in, seq_of, subst, sym, ℕ, ◌+◌, ◌∙◌, ◌≡◌, ◌≢◌, ◌≤◌}
use Rattle.uni_model.proofs.Written.{seq_of-memory_with, after_of-memory_with, new_of-memory_with, before_of-memory_with}
use Rattle.uni_model.proofs.Numbered.{numbered_last, numbered_last-cases}

module _ {S I R : Type 0} (m : Memory S I R) (num : Name → ℕ) (last : ℕ) (old : IsNumbered m num last) where
  -- two cells that lead to one are one
  pub same_before : (x c d : Name) → after_of m x ≡ Some d → after_of m c ≡ Some d → x ≡ c
  same_before x c d ex ec =
      let lx = old.link x d ex in
      let lc = old.link c d ec in
      let a : num d ≡ num x + 1 = lx.1 in
      let b : num d ≡ num c + 1 = lc.1 in
      old.one_each x c lx.0 (omega arith)

  -- a cell that another leads to isn't the anchor
  pub not_anchor : (c d : Name) → after_of m c ≡ Some d → d ≢ Anchor
  not_anchor c d e same =
      let link = old.link c d e in
      let a : num d ≡ num c + 1 = link.1 in
      let b : num d ≡ num Anchor = ap num same in
      let least : num Anchor ≤ num c = old.least c link.0 in
      omega arith

-- a number is written to the cell that c leads to
module _ {S I R : Type 0} (m : Memory S I R) (d : Name) (s : ℕ) where
  pub Grows-seq : (1 ≤ seq_of m d → seq_of m d ≡ s) → Grows m (memory_with m (SeqOf d) (Number s))
  Grows-seq same = record {
    seq = λ x threaded. elim (seq_of-memory_with m d x s) [
      | inl h ↦ h.1 ∙ sym (ap (seq_of m) h.0 ∙ same (subst (λ y. 1 ≤ seq_of m y) h.0 threaded))
      | inr h ↦ h.1
    ];
    after = λ x y e. e;
    new = λ x v e. e;
    before = λ x y e. e;
    inv = λ x i e. e;
  }

  pub HasValues-seq : (object : Sequential S I R) (num : Name → ℕ) → HasValues object m num → Has (new_of m d)
      → HasValues object (memory_with m (SeqOf d) (Number s)) num
  HasValues-seq object num old settled = record {
    anchor = old.anchor;
    none = old.none;
    threaded = λ x threaded. elim (seq_of-memory_with m d x s) [
      | inl h ↦ (settled.0, ap (new_of m) h.0 ∙ settled.1)
      | inr h ↦ old.threaded x (subst (λ t. 1 ≤ t) h.1 threaded)
    ];
    after = λ x y v e settled_y. let was = old.after x y v e settled_y in
        record { before = was.before; inv = was.inv; new_of_x = was.new_of_x; inv_of_y = was.inv_of_y; value = was.value };
  }

  pub LeadsBack-seq : LeadsBack m → Has (before_of m d) → LeadsBack (memory_with m (SeqOf d) (Number s))
  LeadsBack-seq old back = record {
    link = old.link;
    threaded = λ p k threaded. elim (seq_of-memory_with m d (Of p k) s) [
      | inl h ↦ (back.0, ap (before_of m) h.0 ∙ back.1)
      | inr h ↦ old.threaded p k (subst (λ t. 1 ≤ t) h.1 threaded)
    ];
  }

-- a cell is linked at the end
module _ {S I R : Type 0} (m : Memory S I R) (c y : Name) (at_end : after_of m c ≡ None) where
  pub Grows-link : Grows m (memory_with m (AfterOf c) (Link (Some y)))
  Grows-link = record {
    seq = λ x threaded. refl;
    after = λ x z e. elim (after_of-memory_with m c x (Some y)) [
      | inl h ↦ absurd (let f = ap (after_of m) h.0 in cc)
      | inr h ↦ h.1 ∙ e
    ];
    new = λ x v e. e;
    before = λ x z e. e;
    inv = λ x i e. e;
  }

  pub HasValues-link : (object : Sequential S I R) (num : Name → ℕ) (last : ℕ) → num y ≡ 0 → HasValues object m num
      → HasValues object (memory_with m (AfterOf c) (Link (Some y))) (numbered_last num last y)
  HasValues-link object num last outside old = record {
    anchor = old.anchor;
    none = λ x none. elim (numbered_last-cases num last y x) [
      | inl h ↦ absurd (let e = h.1 in omega arith)
      | inr h ↦ old.none x (sym h.1 ∙ none)
    ];
    threaded = old.threaded;
    after = λ x z v e settled. elim (after_of-memory_with m c x (Some y)) [
      | inl h ↦ absurd (
          let is_y : z ≡ y = (let f = h.1 in cc) in
          let unset : new_of m z ≡ None = ap (new_of m) is_y ∙ old.none y outside in cc)
      | inr h ↦ let was = old.after x z v (sym h.1 ∙ e) settled in
          record { before = was.before; inv = was.inv; new_of_x = was.new_of_x; inv_of_y = was.inv_of_y; value = was.value }
    ];
  }

  pub LeadsBack-link : LeadsBack m → LeadsBack (memory_with m (AfterOf c) (Link (Some y)))
  LeadsBack-link old = record { link = λ x z e. Grows-link.after x z (old.link x z e); threaded = old.threaded }

-- a value is settled in the cell d that c leads to
module _ {S I R : Type 0} (m : Memory S I R) (d : Name) (v : S × Option R) (unsettled : new_of m d ≡ None) where
  pub settled_elsewhere : (x : Name) (u : S × Option R) → new_of m x ≡ Some u → new_of (memory_with m (NewOf d) (Settled (Some v))) x ≡ Some u
  settled_elsewhere x u e = elim (new_of-memory_with m d x (Some v)) [
    | inl h ↦ absurd (let f = ap (new_of m) h.0 in cc)
    | inr h ↦ h.1 ∙ e
  ]

  pub Grows-new : Grows m (memory_with m (NewOf d) (Settled (Some v)))
  Grows-new = record { seq = λ x threaded. refl; after = λ x y e. e; new = settled_elsewhere; before = λ x y e. e; inv = λ x i e. e }

  pub HasValues-new : (object : Sequential S I R) (num : Name → ℕ) (last : ℕ) → IsNumbered m num last → HasValues object m num
      → (c : Name) → after_of m c ≡ Some d → (u : S × Option R) (i : I) → new_of m c ≡ Some u → inv_of m d ≡ Some i
      → v ≡ (object.next u.0 i, Some (object.answer u.0 i)) → HasValues object (memory_with m (NewOf d) (Settled (Some v))) num
  HasValues-new object num last numbered old c link u i settled_c inv value = record {
    anchor = (old.anchor.0, settled_elsewhere Anchor _ old.anchor.1);
    none = λ x none. elim (new_of-memory_with m d x (Some v)) [
      | inl h ↦ absurd (let number = (numbered.link c d link).1 in let same = ap num h.0 in omega arith)
      | inr h ↦ h.1 ∙ old.none x none
    ];
    threaded = λ x threaded. let was = old.threaded x threaded in (was.0, settled_elsewhere x was.0 was.1);
    after = λ x y w e settled. elim (new_of-memory_with m d y (Some v)) [
      | inl h ↦
          let is_c : x ≡ c = same_before m num last numbered x c d (e ∙ ap Some h.0) link in
          let is_v : w ≡ v = (let f = h.1 in cc) in
          record {
            before = u;
            inv = i;
            new_of_x = settled_elsewhere x u (ap (new_of m) is_c ∙ settled_c);
            inv_of_y = ap (inv_of m) h.0 ∙ inv;
            value = is_v ∙ value;
          }
      | inr h ↦ let was = old.after x y w e (sym h.1 ∙ settled) in
          record { before = was.before; inv = was.inv; new_of_x = settled_elsewhere x was.before was.new_of_x; inv_of_y = was.inv_of_y; value = was.value }
    ];
  }

-- the way back is written from the cell d that c leads to
module _ {S I R : Type 0} (m : Memory S I R) (num : Name → ℕ) (last : ℕ) (numbered : IsNumbered m num last) (old : LeadsBack m) (c d : Name) (link : after_of m c ≡ Some d) where
  pub Grows-before : Grows m (memory_with m (BeforeOf d) (Link (Some c)))
  Grows-before = record {
    seq = λ x threaded. refl;
    after = λ x y e. e;
    new = λ x v e. e;
    before = λ x y e. elim (before_of-memory_with m d x (Some c)) [
      | inl h ↦ h.1 ∙ ap Some (sym (same_before m num last numbered y c d (old.link y x e ∙ ap Some h.0) link))
      | inr h ↦ h.1 ∙ e
    ];
    inv = λ x i e. e;
  }

  pub LeadsBack-before : LeadsBack (memory_with m (BeforeOf d) (Link (Some c)))
  LeadsBack-before = record {
    link = λ x y e. elim (before_of-memory_with m d y (Some c)) [
      | inl h ↦ (let is_c : x ≡ c = (let f = h.1 in cc) in ap (after_of m) is_c ∙ link ∙ ap Some (sym h.0))
      | inr h ↦ old.link x y (sym h.1 ∙ e)
    ];
    threaded = λ p k threaded. elim (before_of-memory_with m d (Of p k) (Some c)) [
      | inl h ↦ (c, h.1)
      | inr h ↦ let was = old.threaded p k threaded in (was.0, h.1 ∙ was.1)
    ];
  }

-- a threaded cell of a call has its response settled
pub response-settled : {S I R : Type 0} (object : Sequential S I R) (m : Memory S I R) (num : Name → ℕ) → HasValues object m num → LeadsBack m
    → (p k : ℕ) → 1 ≤ seq_of m (Of p k) → Has (response_in m (Of p k))
response-settled {S = S} {R = R} object m num values back p k threaded =
    let before = back.threaded p k threaded in
    let new = values.threaded (Of p k) threaded in
    let after = values.after before.0 (Of p k) new.0 (back.link before.0 (Of p k) before.1) new.1 in
    (object.answer after.before.0 after.inv, rw new.1 (ap (λ (t : S × Option R). t.1) after.value))
