-- A field that is written in the arena is a place that is written.
use Rattle.uni_core.proofs.Vocabulary.{AfterOf, Announced, BeforeOf, Bool, CellName, CellRecord, ChangesOnly, Content, HeadOf, InvOf, Invocation, IsSome, Link, List, Name, NewOf, None, Number, Of, Option, Place, SeqOf, Settled, Some, ap, cell_named, cond, entry_name, false, fresh, index_of, inl, inr, length, memory_at, memory_with, name_cases, name_eq, name_from, name_from-index_of, nat_eq, number_cases, option_map, option_map_or, refl, settled, slice_get, slice_get-set_other, slice_get-set_same, slice_set, sym, true, with_after, with_before, with_new, with_seq, ℕ, ◌+◌, ◌<◌, ◌∙◌, ◌≡◌, ◌≤◌}
use Rattle.uni_core.proofs.Named.{cell_named-name_from, changed_named}

-- one field of one cell changes, by f; the cell is there
module _ {S I R : Type 0} (n : ℕ) (first : ℕ → ℕ) (positive : 1 ≤ n) (cell cell' : ℕ → Option (CellRecord S I R)) (announce heads : List ℕ)
    (id : ℕ) (there : IsSome (cell id)) (f : CellRecord S I R → CellRecord S I R) (changes : ChangesOnly cell cell' id (option_map f (cell id))) where
  -- a field that f keeps
  kept : {A : Type 0} (g : CellRecord S I R → A) (none : A) → ((c : CellRecord S I R) → g (f c) ≡ g c) → (x : Name)
      → option_map_or g (cell_named n first cell' x) none ≡ option_map_or g (cell_named n first cell x) none
  kept g none keeps x = elim (changed_named n first positive cell cell' id (option_map f (cell id)) changes x) [
    | inl h ↦ rw (h.1, ap (cell_named n first cell) h.0 ∙ cell_named-name_from n first positive cell id) (by_cell (cell id))
    | inr h ↦ rw h.1 refl
  ] where
    by_cell : (o : Option (CellRecord S I R)) → option_map_or g (option_map f o) none ≡ option_map_or g o none
    by_cell None = refl
    by_cell (Some c) = keeps c

  -- the field that f changes: v in the cell
  changed : {A : Type 0} (g : CellRecord S I R → A) (none v : A) → option_map_or g (option_map f (cell id)) none ≡ v → (x : Name)
      → option_map_or g (cell_named n first cell' x) none ≡ cond (name_eq x (name_from n first id)) v (option_map_or g (cell_named n first cell x) none)
  changed g none v is_v x = elim (changed_named n first positive cell cell' id (option_map f (cell id)) changes x) [
    | inl h ↦ elim (name_cases x (name_from n first id)) [
      | inl e ↦ rw (h.1, e.1) is_v
      | inr e ↦ absurd (e.0 h.0)
    ]
    | inr h ↦ elim (name_cases x (name_from n first id)) [
      | inl e ↦ absurd (h.0 e.0)
      | inr e ↦ rw (h.1, e.1) refl
    ]
  ]

  -- inside a content
  content_changed : {A C : Type 0} (k : A → C) (b : Bool) (u v w : A) → u ≡ cond b v w → k u ≡ cond b (k v) (k w)
  content_changed k true u v w e = ap k e
  content_changed k false u v w e = ap k e

-- Each writer of the arena.
module _ {S I R : Type 0} (n : ℕ) (first : ℕ → ℕ) (positive : 1 ≤ n) (cell cell' : ℕ → Option (CellRecord S I R)) (announce heads : List ℕ) (id : ℕ) (there : IsSome (cell id)) where
  pub memory_at-with_seq : (s : ℕ) → ChangesOnly cell cell' id (option_map (with_seq s) (cell id))
      → memory_at n first cell' announce heads ≡ memory_with (memory_at n first cell announce heads) (SeqOf (name_from n first id)) (Number s)
  memory_at-with_seq s changes = λ i x. at_place x i where
    by_cell : (o : Option (CellRecord S I R)) → IsSome o → option_map_or (λ (c : CellRecord S I R). c.seq) (option_map (with_seq s) o) 0 ≡ s
    by_cell None some = absurd (let f : false ≡ true = some in cc)
    by_cell (Some c) some = refl

    at_place : (x : Place) → memory_at n first cell' announce heads x ≡ memory_with (memory_at n first cell announce heads) (SeqOf (name_from n first id)) (Number s) x
    at_place (Announced p) = refl
    at_place (HeadOf p) = refl
    at_place (InvOf x) = ap Invocation (kept n first positive cell cell' announce heads id there (with_seq s) changes (λ c. c.inv) None (λ c. refl) x)
    at_place (SeqOf x) = content_changed n first positive cell cell' announce heads id there (with_seq s) changes Number (name_eq x (name_from n first id)) _ s _
        (changed n first positive cell cell' announce heads id there (with_seq s) changes (λ c. c.seq) 0 s (by_cell (cell id) there) x)
    at_place (AfterOf x) = ap Link (kept n first positive cell cell' announce heads id there (with_seq s) changes (λ c. option_map (name_from n first) c.after) None (λ c. refl) x)
    at_place (NewOf x) = ap Settled (kept n first positive cell cell' announce heads id there (with_seq s) changes (λ c. c.new) None (λ c. refl) x)
    at_place (BeforeOf x) = ap Link (kept n first positive cell cell' announce heads id there (with_seq s) changes (λ c. option_map (name_from n first) c.before) None (λ c. refl) x)

  pub memory_at-with_before : (b : ℕ) → ChangesOnly cell cell' id (option_map (with_before b) (cell id))
      → memory_at n first cell' announce heads ≡ memory_with (memory_at n first cell announce heads) (BeforeOf (name_from n first id)) (Link (Some (name_from n first b)))
  memory_at-with_before b changes = λ i x. at_place x i where
    by_cell : (o : Option (CellRecord S I R)) → IsSome o → option_map_or (λ (c : CellRecord S I R). option_map (name_from n first) c.before) (option_map (with_before b) o) None ≡ Some (name_from n first b)
    by_cell None some = absurd (let f : false ≡ true = some in cc)
    by_cell (Some c) some = refl

    at_place : (x : Place) → memory_at n first cell' announce heads x ≡ memory_with (memory_at n first cell announce heads) (BeforeOf (name_from n first id)) (Link (Some (name_from n first b))) x
    at_place (Announced p) = refl
    at_place (HeadOf p) = refl
    at_place (InvOf x) = ap Invocation (kept n first positive cell cell' announce heads id there (with_before b) changes (λ c. c.inv) None (λ c. refl) x)
    at_place (SeqOf x) = ap Number (kept n first positive cell cell' announce heads id there (with_before b) changes (λ c. c.seq) 0 (λ c. refl) x)
    at_place (AfterOf x) = ap Link (kept n first positive cell cell' announce heads id there (with_before b) changes (λ c. option_map (name_from n first) c.after) None (λ c. refl) x)
    at_place (NewOf x) = ap Settled (kept n first positive cell cell' announce heads id there (with_before b) changes (λ c. c.new) None (λ c. refl) x)
    at_place (BeforeOf x) = content_changed n first positive cell cell' announce heads id there (with_before b) changes Link (name_eq x (name_from n first id)) _ (Some (name_from n first b)) _
        (changed n first positive cell cell' announce heads id there (with_before b) changes (λ c. option_map (name_from n first) c.before) None (Some (name_from n first b)) (by_cell (cell id) there) x)

  pub memory_at-with_after : (next : ℕ) → ChangesOnly cell cell' id (option_map (with_after next) (cell id)) → (d : ℕ) → option_map (λ (c : CellRecord S I R). settled c.after next) (cell id) ≡ Some d
      → memory_at n first cell' announce heads ≡ memory_with (memory_at n first cell announce heads) (AfterOf (name_from n first id)) (Link (Some (name_from n first d)))
  memory_at-with_after next changes d answer = λ i x. at_place x i where
    by_cell : (o : Option (CellRecord S I R)) → IsSome o → option_map (λ (c : CellRecord S I R). settled c.after next) o ≡ Some d
        → option_map_or (λ (c : CellRecord S I R). option_map (name_from n first) c.after) (option_map (with_after next) o) None ≡ Some (name_from n first d)
    by_cell None some e = absurd (let f : false ≡ true = some in cc)
    by_cell (Some c) some e = let same : settled c.after next ≡ d = cc in ap (λ k. Some (name_from n first k)) same

    at_place : (x : Place) → memory_at n first cell' announce heads x ≡ memory_with (memory_at n first cell announce heads) (AfterOf (name_from n first id)) (Link (Some (name_from n first d))) x
    at_place (Announced p) = refl
    at_place (HeadOf p) = refl
    at_place (InvOf x) = ap Invocation (kept n first positive cell cell' announce heads id there (with_after next) changes (λ c. c.inv) None (λ c. refl) x)
    at_place (SeqOf x) = ap Number (kept n first positive cell cell' announce heads id there (with_after next) changes (λ c. c.seq) 0 (λ c. refl) x)
    at_place (AfterOf x) = content_changed n first positive cell cell' announce heads id there (with_after next) changes Link (name_eq x (name_from n first id)) _ (Some (name_from n first d)) _
        (changed n first positive cell cell' announce heads id there (with_after next) changes (λ c. option_map (name_from n first) c.after) None (Some (name_from n first d)) (by_cell (cell id) there answer) x)
    at_place (NewOf x) = ap Settled (kept n first positive cell cell' announce heads id there (with_after next) changes (λ c. c.new) None (λ c. refl) x)
    at_place (BeforeOf x) = ap Link (kept n first positive cell cell' announce heads id there (with_after next) changes (λ c. option_map (name_from n first) c.before) None (λ c. refl) x)

  pub memory_at-with_new : (new : S × Option R) → ChangesOnly cell cell' id (option_map (with_new new) (cell id))
      → memory_at n first cell' announce heads ≡ memory_with (memory_at n first cell announce heads) (NewOf (name_from n first id)) (Settled (Some (settled (option_map_or (λ (c : CellRecord S I R). c.new) (cell id) None) new)))
  memory_at-with_new new changes = λ i x. at_place x i where
    by_cell : (o : Option (CellRecord S I R)) → IsSome o → option_map_or (λ (c : CellRecord S I R). c.new) (option_map (with_new new) o) None ≡ Some (settled (option_map_or (λ (c : CellRecord S I R). c.new) o None) new)
    by_cell None some = absurd (let f : false ≡ true = some in cc)
    by_cell (Some c) some = refl

    at_place : (x : Place) → memory_at n first cell' announce heads x ≡ memory_with (memory_at n first cell announce heads) (NewOf (name_from n first id)) (Settled (Some (settled (option_map_or (λ (c : CellRecord S I R). c.new) (cell id) None) new))) x
    at_place (Announced p) = refl
    at_place (HeadOf p) = refl
    at_place (InvOf x) = ap Invocation (kept n first positive cell cell' announce heads id there (with_new new) changes (λ c. c.inv) None (λ c. refl) x)
    at_place (SeqOf x) = ap Number (kept n first positive cell cell' announce heads id there (with_new new) changes (λ c. c.seq) 0 (λ c. refl) x)
    at_place (AfterOf x) = ap Link (kept n first positive cell cell' announce heads id there (with_new new) changes (λ c. option_map (name_from n first) c.after) None (λ c. refl) x)
    at_place (NewOf x) = content_changed n first positive cell cell' announce heads id there (with_new new) changes Settled (name_eq x (name_from n first id)) _ (Some (settled (option_map_or (λ (c : CellRecord S I R). c.new) (cell id) None) new)) _
        (changed n first positive cell cell' announce heads id there (with_new new) changes (λ c. c.new) None (Some (settled (option_map_or (λ (c : CellRecord S I R). c.new) (cell id) None) new)) (by_cell (cell id) there) x)
    at_place (BeforeOf x) = ap Link (kept n first positive cell cell' announce heads id there (with_new new) changes (λ c. option_map (name_from n first) c.before) None (λ c. refl) x)

-- A cell is made where there was none.
module _ {S I R : Type 0} (n : ℕ) (first : ℕ → ℕ) (positive : 1 ≤ n) (cell cell' : ℕ → Option (CellRecord S I R)) (announce heads : List ℕ) (p k : ℕ) (below : p < n) (absent : cell (index_of n p k) ≡ None)
    (i : I) (changes : ChangesOnly cell cell' (index_of n p k) (Some (fresh i))) where
  -- a field that a fresh cell has as a cell that isn't there
  unmade : {A : Type 0} (g : CellRecord S I R → A) (none : A) → g (fresh i) ≡ none → (x : Name)
      → option_map_or g (cell_named n first cell' x) none ≡ option_map_or g (cell_named n first cell x) none
  unmade g none same x = elim (changed_named n first positive cell cell' (index_of n p k) (Some (fresh i)) changes x) [
    | inl h ↦ rw (h.1, ap (cell_named n first cell) h.0 ∙ cell_named-name_from n first positive cell (index_of n p k) ∙ absent) same
    | inr h ↦ rw h.1 refl
  ]

  made_inv : (x : Name) → option_map_or (λ (c : CellRecord S I R). c.inv) (cell_named n first cell' x) None ≡ cond (name_eq x (Of p (first p + k))) (Some i) (option_map_or (λ (c : CellRecord S I R). c.inv) (cell_named n first cell x) None)
  made_inv x =
      let name : name_from n first (index_of n p k) ≡ Of p (first p + k) = name_from-index_of n first p k below in
      elim (changed_named n first positive cell cell' (index_of n p k) (Some (fresh i)) changes x) [
        | inl h ↦ elim (name_cases x (Of p (first p + k))) [ inl e ↦ rw (h.1, e.1) refl | inr e ↦ absurd (e.0 (h.0 ∙ name)) ]
        | inr h ↦ elim (name_cases x (Of p (first p + k))) [ inl e ↦ absurd (h.0 (e.0 ∙ sym name)) | inr e ↦ rw (h.1, e.1) refl ]
      ]

  inside : (b : Bool) (u v w : Option I) → u ≡ cond b v w → ◌≡◌ {A = Content S I R} (Invocation u) (cond b (Invocation v) (Invocation w))
  inside true u v w e = ap Invocation e
  inside false u v w e = ap Invocation e

  pub memory_at-made : memory_at n first cell' announce heads ≡ memory_with (memory_at n first cell announce heads) (InvOf (Of p (first p + k))) (Invocation (Some i))
  memory_at-made = λ j x. at_place x j where
    at_place : (x : Place) → memory_at n first cell' announce heads x ≡ memory_with (memory_at n first cell announce heads) (InvOf (Of p (first p + k))) (Invocation (Some i)) x
    at_place (Announced q) = refl
    at_place (HeadOf q) = refl
    at_place (InvOf x) = inside (name_eq x (Of p (first p + k))) _ (Some i) _ (made_inv x)
    at_place (SeqOf x) = ap Number (unmade (λ c. c.seq) 0 refl x)
    at_place (AfterOf x) = ap Link (unmade (λ c. option_map (name_from n first) c.after) None refl x)
    at_place (NewOf x) = ap Settled (unmade (λ c. c.new) None refl x)
    at_place (BeforeOf x) = ap Link (unmade (λ c. option_map (name_from n first) c.before) None refl x)

-- An entry is written.
module _ {S I R : Type 0} (n : ℕ) (first : ℕ → ℕ) (cell : ℕ → Option (CellRecord S I R)) (p id : ℕ) where
  entry_written : (entries : List ℕ) → p < length entries → (q : ℕ) → entry_name n first (slice_set entries p id) q ≡ cond (nat_eq q p) (name_from n first id) (entry_name n first entries q)
  entry_written entries inside q = elim (number_cases q p) [
    | inl h ↦ rw (h.1, ap (slice_get (slice_set entries p id)) h.0 ∙ slice_get-set_same entries p id inside) refl
    | inr h ↦ rw (h.1, slice_get-set_other entries p q id h.0) refl
  ]

  named : (b : Bool) (u v w : Name) → u ≡ cond b v w → ◌≡◌ {A = Content S I R} (CellName u) (cond b (CellName v) (CellName w))
  named true u v w e = ap CellName e
  named false u v w e = ap CellName e

  pub memory_at-announce : (announce heads : List ℕ) → p < length announce
      → memory_at n first cell (slice_set announce p id) heads ≡ memory_with (memory_at n first cell announce heads) (Announced p) (CellName (name_from n first id))
  memory_at-announce announce heads inside = λ j x. at_place x j where
    at_place : (x : Place) → memory_at n first cell (slice_set announce p id) heads x ≡ memory_with (memory_at n first cell announce heads) (Announced p) (CellName (name_from n first id)) x
    at_place (Announced q) = named (nat_eq q p) _ _ _ (entry_written announce inside q)
    at_place (HeadOf q) = refl
    at_place (InvOf x) = refl
    at_place (SeqOf x) = refl
    at_place (AfterOf x) = refl
    at_place (NewOf x) = refl
    at_place (BeforeOf x) = refl

  pub memory_at-head : (announce heads : List ℕ) → p < length heads
      → memory_at n first cell announce (slice_set heads p id) ≡ memory_with (memory_at n first cell announce heads) (HeadOf p) (CellName (name_from n first id))
  memory_at-head announce heads inside = λ j x. at_place x j where
    at_place : (x : Place) → memory_at n first cell announce (slice_set heads p id) x ≡ memory_with (memory_at n first cell announce heads) (HeadOf p) (CellName (name_from n first id)) x
    at_place (Announced q) = refl
    at_place (HeadOf q) = named (nat_eq q p) _ _ _ (entry_written heads inside q)
    at_place (InvOf x) = refl
    at_place (SeqOf x) = refl
    at_place (AfterOf x) = refl
    at_place (NewOf x) = refl
    at_place (BeforeOf x) = refl
