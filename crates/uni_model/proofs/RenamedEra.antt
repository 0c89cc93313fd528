-- The end of an era gives a new renaming: a trim of one world calls all threaded cells of the other one the anchor; where both
-- have an era's end they become the same.
use Rattle.uni_model.proofs.Vocabulary.{Anchor, Has, Invariant, IsQuiescent, IsSound, Memory, Name, None, Of, Option, Sequential, Some, WorldOf, after_of, anchor_memory, ap, arith, cases_lt, era_calls, head_of, if◌then◌else◌, inl, inr, inv_of, last_cell, new_of, refl, seq_of, subst, sym, world_after_era, ℕ, ◌==◌, ◌∙◌, ◌≡◌, ◌≤◌}
use Rattle.uni_model.proofs.Written.{number_cases}
use Rattle.uni_model.proofs.Kept.{threaded_when_quiescent, idle_when_quiescent, last_cell_threaded}
use Rattle.uni_model.proofs.Simulation.{enough}
use Rattle.uni_model.proofs.OneLists.{number-last_of}
use Rattle.uni_model.proofs.Reached.{ReachesOwn, SomeHead-quiescent}
use Rattle.uni_model.proofs.Renamed.{at_least, at_least-cases, at_least-past, IsNew, state_in, IsRenamed}
use Rattle.uni_model.proofs.RenamedWorld.{world_renamed, KeepsNames}
use Rattle.uni_model.proofs.RenamedChain.{last_cell-renamed}

-- a threaded cell is called the anchor
abbrev pub threaded_to_anchor : {S I R : Type 0} → Memory S I R → Name → Name
threaded_to_anchor m x = if seq_of m x == 0 then x else Anchor

module _ {S I R : Type 0} (m : Memory S I R) where
  unthreaded_name : (x : Name) → seq_of m x ≡ 0 → threaded_to_anchor m x ≡ x
  unthreaded_name x none = rw none refl

  threaded_name : (x : Name) → 1 ≤ seq_of m x → threaded_to_anchor m x ≡ Anchor
  threaded_name x some = elim (number_cases (seq_of m x) 0) [ inl none ↦ absurd (let e = none.0 in omega arith) | inr other ↦ rw other.1 refl ]

module _ {S I R : Type 0} (start : S) (number : ℕ) (positive : 1 ≤ number) where
  -- the anchor alone keeps its name
  IsRenamed-anchor_memory : (n : ℕ) → IsRenamed {S = S} {I = I} {R = R} (anchor_memory start number) (anchor_memory start number) n (λ x. x) number
  IsRenamed-anchor_memory n = record {
    first = positive;
    anchor = omega arith;
    at_base = (Anchor, refl);
    one = λ x y is_x is_y. at_number x (omega arith) ∙ sym (at_number y (omega arith));
    old = λ x some most. at_number x some;
    new_name = λ x h. refl;
    announced = λ p below. refl;
    head = λ p below. refl;
    seq = own_number;
    after = λ x h. refl;
    state = λ x h. refl;
    new = λ x h. refl;
    inv = λ x h. refl;
  } where
    at_number : (x : Name) → 1 ≤ seq_of {S = S} {I = I} {R = R} (anchor_memory start number) x → x ≡ Anchor
    at_number Anchor h = refl
    at_number (Of p k) h = absurd (omega arith)

    own_number : (x : Name) → seq_of {S = S} {I = I} {R = R} (anchor_memory start number) x ≡ at_least number (seq_of {S = S} {I = I} {R = R} (anchor_memory start number) x)
    own_number Anchor = sym (at_least-past number number (omega arith) positive)
    own_number (Of p k) = refl

  pub KeepsNames-anchor_memory : (u : WorldOf S I R) → u.memory ≡ anchor_memory start number → ((p : ℕ) → u.call p ≡ None) → KeepsNames u (anchor_memory start number) (λ x. x) number
  KeepsNames-anchor_memory u is idle = record {
    memory = subst (λ m. IsRenamed (anchor_memory start number) m u.n (λ x. x) number) (sym is) (IsRenamed-anchor_memory u.n);
    heads = λ p below. (p, omega arith, below, rw is (omega arith));
    mine = λ p c pending. absurd (let none = idle p in cc);
    finds = λ p c pending. absurd (let none = idle p in cc);
  }

  pub ReachesOwn-anchor_memory : (u : WorldOf S I R) → u.memory ≡ anchor_memory start number → ReachesOwn u
  ReachesOwn-anchor_memory u is p k threaded = absurd (let none : seq_of u.memory (Of p k) ≡ 0 = ap (λ (m : Memory S I R). seq_of m (Of p k)) is in omega arith)

module _ {S I R : Type 0} (object : Sequential S I R) (u : WorldOf S I R) (num : Name → ℕ) (last : ℕ) (sound : IsSound object u num last) (quiet : IsQuiescent u) where
  threaded : (x : Name) → 1 ≤ num x → 1 ≤ seq_of u.memory x
  threaded = threaded_when_quiescent object u num last sound quiet

  unlinked : (x : Name) → seq_of u.memory x ≡ 0 → num x ≡ 0
  unlinked x none = elim (cases_lt 0 (num x)) [ inl linked ↦ absurd (let some = threaded x linked in omega arith) | inr zero_x ↦ omega arith ]

  -- a cell is threaded
  made_threaded : (p k : ℕ) → Has (inv_of u.memory (Of p k)) → 1 ≤ seq_of u.memory (Of p k)
  made_threaded p k made = elim (sound.calls.threaded p k made) [
    | inl some ↦ some
    | inr pending ↦ absurd (let none = quiet p (sound.calls.process p pending.0 pending.1) in let some = pending.1 in cc)
  ]

  number_of_last : num (last_cell u) ≡ last
  number_of_last = number-last_of object u num last sound (era_calls u) Anchor sound.numbered.first (enough object u num last sound)

  seq_of-last : seq_of u.memory (last_cell u) ≡ last
  seq_of-last = sound.numbered.seq (last_cell u) (last_cell_threaded object u num last sound quiet) ∙ number_of_last

  pub settled_last : Has (new_of u.memory (last_cell u))
  settled_last = sound.values.threaded (last_cell u) (last_cell_threaded object u num last sound quiet)

  -- no number is past the last one
  most : (x : Name) → seq_of u.memory x ≤ last
  most x = elim (cases_lt 0 (seq_of u.memory x)) [
    | inl some ↦ let own = sound.numbered.seq x some in let top = sound.numbered.greatest x in omega arith
    | inr none ↦ omega arith
  ]

  new_unthreaded : (x : Name) → IsNew u.memory last x → seq_of u.memory x ≡ 0
  new_unthreaded x new = elim new [ inl none ↦ none | inr past ↦ absurd (let le = most x in omega arith) ]

  module _ (start : S) (value : state_in (new_of u.memory (last_cell u)) ≡ Some start) where
    abbrev trimmed_memory : Memory S I R
    trimmed_memory = anchor_memory start last

    -- an unthreaded cell isn't the anchor, and has nothing
    unthreaded_cell : (P : Name → Type 0) → ((p k : ℕ) → seq_of u.memory (Of p k) ≡ 0 → P (Of p k)) → (x : Name) → seq_of u.memory x ≡ 0 → P x
    unthreaded_cell P each Anchor none = absurd (let first = sound.numbered.first in let own = sound.numbered.anchor in omega arith)
    unthreaded_cell P each (Of p k) none = each p k none

    after_unthreaded : (x : Name) → seq_of u.memory x ≡ 0 → after_of u.memory x ≡ None
    after_unthreaded x none = by_after (after_of u.memory x) refl where
      by_after : (o : Option Name) → after_of u.memory x ≡ o → o ≡ None
      by_after None e = refl
      by_after (Some y) e = absurd (let linked = (sound.numbered.link x y e).0 in let zero_x = unlinked x none in omega arith)

    inv_unthreaded : (p k : ℕ) → seq_of u.memory (Of p k) ≡ 0 → inv_of u.memory (Of p k) ≡ None
    inv_unthreaded p k none = by_inv (inv_of u.memory (Of p k)) refl where
      by_inv : (o : Option I) → inv_of u.memory (Of p k) ≡ o → o ≡ None
      by_inv None e = refl
      by_inv (Some i) e = absurd (let some = made_threaded p k (i, e) in omega arith)

    -- a cell that has the last number is the last one
    is_last : (x : Name) → last ≤ seq_of u.memory x → x ≡ last_cell u
    is_last x least =
        let first = sound.numbered.first in
        let top = sound.numbered.greatest Anchor in
        let own = sound.numbered.seq x (omega arith) in
        let le = most x in
        let of_last = number_of_last in
        sound.numbered.one_each x (last_cell u) (omega arith) (omega arith)

    nothing_after_last : (x : Name) → last ≤ seq_of u.memory x → after_of u.memory x ≡ None
    nothing_after_last x least = by_after (after_of u.memory x) refl where
      by_after : (o : Option Name) → after_of u.memory x ≡ o → o ≡ None
      by_after None e = refl
      by_after (Some y) e = absurd (
          let next = (sound.numbered.link x y e).1 in
          let top = sound.numbered.greatest y in
          let of_last = number_of_last in
          let same : num x ≡ num (last_cell u) = ap num (is_last x least) in
          omega arith)

    IsRenamed-trimmed : IsRenamed trimmed_memory u.memory u.n (threaded_to_anchor u.memory) last
    IsRenamed-trimmed =
        let first = sound.numbered.first in
        let own_anchor = sound.numbered.anchor in
        let some : 1 ≤ last = (let top = sound.numbered.greatest Anchor in omega arith) in
        record {
          first = omega arith;
          anchor = most Anchor;
          at_base = (last_cell u, seq_of-last);
          one = λ x y is_x is_y. is_last x (omega arith) ∙ sym (is_last y (omega arith));
          old = λ x positive le. threaded_name u.memory x positive;
          new_name = λ x new. unthreaded_name u.memory x (new_unthreaded x new);
          announced = λ p below. elim (sound.calls.announced p below) [
            | inl anchor ↦ sym (ap (threaded_to_anchor u.memory) anchor ∙ threaded_name u.memory Anchor (omega arith))
            | inr cell ↦ sym (ap (threaded_to_anchor u.memory) cell.1 ∙ threaded_name u.memory (Of p cell.0) (made_threaded p cell.0 cell.2))
          ];
          head = λ p below. sym (threaded_name u.memory (head_of u.memory p) (sound.calls.head p below));
          seq = λ x. elim (number_cases (seq_of u.memory x) 0) [
            | inl none ↦ ap (seq_of trimmed_memory) (unthreaded_name u.memory x none.0) ∙ unthreaded_cell (λ y. seq_of trimmed_memory y ≡ 0) (λ p k h. refl) x none.0 ∙ sym (ap (at_least last) none.0)
            | inr positive ↦ ap (seq_of trimmed_memory) (threaded_name u.memory x (let apart = positive.0 in omega arith)) ∙ elim (at_least-cases last (seq_of u.memory x)) [
              | inl none ↦ absurd (positive.0 none.0)
              | inr rest ↦ elim rest [ inl low ↦ sym low.2 | inr high ↦ (let e = high.2 in let g = high.1 in let le = most x in omega arith) ]
            ]
          ];
          after = λ x recent. elim recent [
            | inl none ↦ ap (after_of trimmed_memory) (unthreaded_name u.memory x none) ∙ sym (after_unthreaded x none)
            | inr least ↦ ap (after_of trimmed_memory) (threaded_name u.memory x (omega arith)) ∙ sym (nothing_after_last x least)
          ];
          state = λ x recent. elim recent [
            | inl none ↦ ap (λ y. state_in (new_of trimmed_memory y)) (unthreaded_name u.memory x none) ∙ unthreaded_cell (λ y. state_in (new_of trimmed_memory y) ≡ None) (λ p k h. refl) x none
                ∙ sym (ap state_in (sound.values.none x (unlinked x none)))
            | inr least ↦ ap (λ y. state_in (new_of trimmed_memory y)) (threaded_name u.memory x (omega arith)) ∙ sym value ∙ ap (λ y. state_in (new_of u.memory y)) (sym (is_last x least))
          ];
          new = λ x new. let none = new_unthreaded x new in unthreaded_cell (λ y. new_of trimmed_memory y ≡ None) (λ p k h. refl) x none ∙ sym (sound.values.none x (unlinked x none));
          inv = λ x new. unthreaded_cell (λ y. inv_of trimmed_memory y ≡ inv_of u.memory y) (λ p k none. sym (inv_unthreaded p k none)) x (new_unthreaded x new);
        }

    pub KeepsNames-trimmed : ReachesOwn u → KeepsNames u trimmed_memory (threaded_to_anchor u.memory) last
    KeepsNames-trimmed reaches = record {
      memory = IsRenamed-trimmed;
      heads = λ p below. SomeHead-quiescent object u num last sound reaches quiet p below;
      mine = λ p c pending. absurd (let none = idle_when_quiescent object u num last sound quiet p in cc);
      finds = λ p c pending. absurd (let none = idle_when_quiescent object u num last sound quiet p in cc);
    }

  -- the end of an era of the world whose cells are renamed
  module _ (m : Memory S I R) (first : ℕ → ℕ) (rename : Name → Name) (base : ℕ) (keeps : KeepsNames u m rename base) (inv : Invariant object (world_renamed u m first rename base)) where
    abbrev w : WorldOf S I R
    w = world_renamed u m first rename base

    value_of_last : state_in (new_of m (last_cell w)) ≡ Some settled_last.0.0
    value_of_last =
        let cell = last_cell-renamed object u num last sound m first rename base keeps.memory inv in
        ap (λ x. state_in (new_of m x)) cell.0 ∙ keeps.memory.state (last_cell u) cell.1 ∙ ap state_in settled_last.1

    number_of_last_renamed : seq_of m (last_cell w) ≡ last
    number_of_last_renamed =
        let cell = last_cell-renamed object u num last sound m first rename base keeps.memory inv in
        let is : seq_of u.memory keeps.memory.at_base.0 ≡ base = keeps.memory.at_base.1 in
        let le = most keeps.memory.at_base.0 in
        let some = keeps.memory.first in
        let least = keeps.memory.anchor in
        ap (seq_of m) cell.0 ∙ keeps.memory.seq (last_cell u) ∙ ap (at_least base) seq_of-last ∙ at_least-past base last (omega arith) (omega arith)

    -- both worlds are left the same anchor
    pub world_after_era-renamed : (n : ℕ) → world_after_era w n ≡ record w { n = n; first = u.begun; memory = anchor_memory settled_last.0.0 last }
    world_after_era-renamed n = by_new (new_of m (last_cell w)) refl value_of_last where
      by_new : (o : Option (S × Option R)) → new_of m (last_cell w) ≡ o → state_in o ≡ Some settled_last.0.0
          → world_after_era w n ≡ record w { n = n; first = u.begun; memory = anchor_memory settled_last.0.0 last }
      by_new None is e = cc
      by_new (Some v) is e =
          let same : v.0 ≡ settled_last.0.0 = cc in
          rw is (ap (λ s. let x : WorldOf S I R = record w { n = n; first = u.begun; memory = anchor_memory s (seq_of m (last_cell w)) } in x) same
          ∙ ap (λ t. let x : WorldOf S I R = record w { n = n; first = u.begun; memory = anchor_memory settled_last.0.0 t } in x) number_of_last_renamed)

  pub world_after_era-own : (n : ℕ) → world_after_era u n ≡ record u { n = n; first = u.begun; memory = anchor_memory settled_last.0.0 last }
  world_after_era-own n =
      rw settled_last.1 (ap (λ t. let x : WorldOf S I R = record u { n = n; first = u.begun; memory = anchor_memory settled_last.0.0 t } in x) seq_of-last)
