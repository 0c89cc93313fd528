-- The shared places after each call of the arena and of the entries.
use Rattle.uni_core.proofs.Vocabulary.{AfterOf, Anchor, Announced, Arena, BeforeOf, CellName, CellRecord, ChangesOnly, Content, HasOnlyAnchor, HeadOf, IfSome, InvOf, Invocation, IsRenewed, IsSome, Link, List, Name, NewOf, None, Number, Of, Option, Place, SeqOf, Settled, SharedEntries, Some, after_of, anchor_for, anchor_memory, anchor_with, ap, arith, cell_named, cell_of, false, first_of, fresh, index_of, inl, inr, length, lt_cases, made_of, memory_at, memory_of, memory_with, name_from, named, new_of, number_cases, option_map, option_map_or, option_or, processes_of, refl, replicate, settled, slice_get, slice_set, subst, suc, sym, true, unwrap_or, with_after, with_before, with_new, with_seq, zero, ℕ, ◌+◌, ◌-◌, ◌<◌, ◌∙◌, ◌≡◌, ◌≤◌}
use Rattle.uni_core.proofs.Named.{cell_named-name_from}
use Rattle.uni_core.proofs.Written.{memory_at-with_seq, memory_at-with_before, memory_at-with_after, memory_at-with_new, memory_at-made, memory_at-announce, memory_at-head}

module _ {S I R : Type 0} (a now : SharedEntries S I R) (view : a ≡ now) where
  module _ (cells' : Arena S I R) (positive : 1 ≤ processes_of a.cells) (same : processes_of cells' ≡ processes_of a.cells) where
    -- the number of processes as it was
    counted : (announce heads : List ℕ) → memory_of (record { cells = cells'; announce = announce; heads = heads; first = a.first }) ≡ memory_at (processes_of a.cells) (first_of a) (cell_of cells') announce heads
    counted announce heads = ap (λ k. memory_at k (first_of a) (cell_of cells') announce heads) same

    module _ (id : ℕ) (there : IsSome (cell_of now.cells id)) where
      here : IsSome (cell_of a.cells id)
      here = subst (λ v. IsSome (cell_of v.cells id)) (sym view) there

      pub seq_written : (s : ℕ) → ChangesOnly (cell_of a.cells) (cell_of cells') id (option_map (with_seq s) (cell_of a.cells id))
          → memory_of (record { cells = cells'; announce = a.announce; heads = a.heads; first = a.first }) ≡ memory_with (memory_of now) (SeqOf (named now id)) (Number s)
      seq_written s changes = subst (λ v. memory_of (record { cells = cells'; announce = a.announce; heads = a.heads; first = a.first }) ≡ memory_with (memory_of v) (SeqOf (named v id)) (Number s)) view
          (counted a.announce a.heads ∙ memory_at-with_seq (processes_of a.cells) (first_of a) positive (cell_of a.cells) (cell_of cells') a.announce a.heads id here s changes)

      pub before_written : (b : ℕ) → ChangesOnly (cell_of a.cells) (cell_of cells') id (option_map (with_before b) (cell_of a.cells id))
          → memory_of (record { cells = cells'; announce = a.announce; heads = a.heads; first = a.first }) ≡ memory_with (memory_of now) (BeforeOf (named now id)) (Link (Some (named now b)))
      before_written b changes = subst (λ v. memory_of (record { cells = cells'; announce = a.announce; heads = a.heads; first = a.first }) ≡ memory_with (memory_of v) (BeforeOf (named v id)) (Link (Some (named v b)))) view
          (counted a.announce a.heads ∙ memory_at-with_before (processes_of a.cells) (first_of a) positive (cell_of a.cells) (cell_of cells') a.announce a.heads id here b changes)

      -- what is settled after a proposal, by name
      decided_name : (name : ℕ → Name) (next d : ℕ) (o : Option (CellRecord S I R)) → IsSome o → option_map (λ (c : CellRecord S I R). settled c.after next) o ≡ Some d
          → (unwrap_or (option_map_or (λ (c : CellRecord S I R). option_map name c.after) o None) (name next) ≡ name d)
          × (option_or (option_map_or (λ (c : CellRecord S I R). option_map name c.after) o None) (Some (name next)) ≡ Some (name d))
      decided_name name next d None some e = absurd (let f : false ≡ true = some in cc)
      decided_name name next d (Some c) some e = by_after c.after (let same : settled c.after next ≡ d = cc in same) where
        by_after : (o : Option ℕ) → settled o next ≡ d → (unwrap_or (option_map name o) (name next) ≡ name d) × (option_or (option_map name o) (Some (name next)) ≡ Some (name d))
        by_after None f = (ap name f, ap (λ k. Some (name k)) f)
        by_after (Some x) f = (ap name f, ap (λ k. Some (name k)) f)

      pub after_answered : (next d : ℕ) → option_map (λ (c : CellRecord S I R). settled c.after next) (cell_of a.cells id) ≡ Some d
          → named now d ≡ unwrap_or (after_of (memory_of now) (named now id)) (named now next)
      after_answered next d answer = subst (λ v. named v d ≡ unwrap_or (after_of (memory_of v) (named v id)) (named v next)) view
          (rw (cell_named-name_from (processes_of a.cells) (first_of a) positive (cell_of a.cells) id) (sym (decided_name (named a) next d (cell_of a.cells id) here answer).0))

      pub after_written : (next d : ℕ) → option_map (λ (c : CellRecord S I R). settled c.after next) (cell_of a.cells id) ≡ Some d
          → ChangesOnly (cell_of a.cells) (cell_of cells') id (option_map (with_after next) (cell_of a.cells id))
          → memory_of (record { cells = cells'; announce = a.announce; heads = a.heads; first = a.first }) ≡ memory_with (memory_of now) (AfterOf (named now id))
          (Link (option_or (after_of (memory_of now) (named now id)) (Some (named now next))))
      after_written next d answer changes = subst (λ v. memory_of (record { cells = cells'; announce = a.announce; heads = a.heads; first = a.first }) ≡ memory_with (memory_of v) (AfterOf (named v id))
          (Link (option_or (after_of (memory_of v) (named v id)) (Some (named v next))))) view
          (rw (cell_named-name_from (processes_of a.cells) (first_of a) positive (cell_of a.cells) id, (decided_name (named a) next d (cell_of a.cells id) here answer).1)
          (counted a.announce a.heads ∙ memory_at-with_after (processes_of a.cells) (first_of a) positive (cell_of a.cells) (cell_of cells') a.announce a.heads id here next changes d answer))

      decided_settled : {A : Type 0} (o : Option A) (x : A) → option_or o (Some x) ≡ Some (settled o x)
      decided_settled None x = refl
      decided_settled (Some y) x = refl

      pub new_written : (new : S × Option R) → ChangesOnly (cell_of a.cells) (cell_of cells') id (option_map (with_new new) (cell_of a.cells id))
          → memory_of (record { cells = cells'; announce = a.announce; heads = a.heads; first = a.first }) ≡ memory_with (memory_of now) (NewOf (named now id))
          (Settled (option_or (new_of (memory_of now) (named now id)) (Some new)))
      new_written new changes = subst (λ v. memory_of (record { cells = cells'; announce = a.announce; heads = a.heads; first = a.first }) ≡ memory_with (memory_of v) (NewOf (named v id))
          (Settled (option_or (new_of (memory_of v) (named v id)) (Some new)))) view
          (rw (cell_named-name_from (processes_of a.cells) (first_of a) positive (cell_of a.cells) id, decided_settled)
          (counted a.announce a.heads ∙ memory_at-with_new (processes_of a.cells) (first_of a) positive (cell_of a.cells) (cell_of cells') a.announce a.heads id here new changes))

    pub made_written : (p : ℕ) → p < processes_of now.cells → (IsSome (cell_of a.cells (index_of (processes_of a.cells) p (made_of a.cells p))) → made_of a.cells p < made_of a.cells p) → (i : I) (id : ℕ) → id ≡ index_of (processes_of a.cells) p (made_of a.cells p)
        → ChangesOnly (cell_of a.cells) (cell_of cells') id (Some (fresh i))
        → memory_of (record { cells = cells'; announce = a.announce; heads = a.heads; first = a.first }) ≡ memory_with (memory_of now) (InvOf (Of p (first_of now p + made_of now.cells p))) (Invocation (Some i))
    made_written p below there i id its changes = subst (λ v. memory_of (record { cells = cells'; announce = a.announce; heads = a.heads; first = a.first }) ≡ memory_with (memory_of v) (InvOf (Of p (first_of v p + made_of v.cells p))) (Invocation (Some i))) view
        (counted a.announce a.heads
        ∙ memory_at-made (processes_of a.cells) (first_of a) positive (cell_of a.cells) (cell_of cells') a.announce a.heads p (made_of a.cells p) (subst (λ v. p < processes_of v.cells) (sym view) below)
        (absent (cell_of a.cells (index_of (processes_of a.cells) p (made_of a.cells p))) refl) i (subst (λ j. ChangesOnly (cell_of a.cells) (cell_of cells') j (Some (fresh i))) its changes)) where
          absent : (o : Option (CellRecord S I R)) → cell_of a.cells (index_of (processes_of a.cells) p (made_of a.cells p)) ≡ o → cell_of a.cells (index_of (processes_of a.cells) p (made_of a.cells p)) ≡ None
          absent None e = e
          absent (Some c) e = absurd (let less = there (rw e refl) in omega arith)

  pub announce_written : (p id : ℕ) → p < processes_of now.cells → length a.announce ≡ processes_of a.cells
      → memory_of (record { cells = a.cells; announce = slice_set a.announce p id; heads = a.heads; first = a.first }) ≡ memory_with (memory_of now) (Announced p) (CellName (named now id))
  announce_written p id below long = subst (λ v. memory_of (record { cells = a.cells; announce = slice_set a.announce p id; heads = a.heads; first = a.first }) ≡ memory_with (memory_of v) (Announced p) (CellName (named v id))) view
      (memory_at-announce (processes_of a.cells) (first_of a) (cell_of a.cells) p id a.announce a.heads (subst (λ k. p < k) (sym long) (subst (λ v. p < processes_of v.cells) (sym view) below)))

  pub head_written : (p id : ℕ) → p < processes_of now.cells → length a.heads ≡ processes_of a.cells
      → memory_of (record { cells = a.cells; announce = a.announce; heads = slice_set a.heads p id; first = a.first }) ≡ memory_with (memory_of now) (HeadOf p) (CellName (named now id))
  head_written p id below long = subst (λ v. memory_of (record { cells = a.cells; announce = a.announce; heads = slice_set a.heads p id; first = a.first }) ≡ memory_with (memory_of v) (HeadOf p) (CellName (named v id))) view
      (memory_at-head (processes_of a.cells) (first_of a) (cell_of a.cells) p id a.announce a.heads (subst (λ k. p < k) (sym long) (subst (λ v. p < processes_of v.cells) (sym view) below)))

-- the anchor alone, which every entry names
module _ {S I R : Type 0} (n : ℕ) (first : ℕ → ℕ) (cell : ℕ → Option (CellRecord S I R)) (state : S) (seq : ℕ) (alone : HasOnlyAnchor cell (Some (anchor_with state seq))) where
  no_cell : (p k : ℕ) → cell_named n first cell (Of p k) ≡ None
  no_cell p k = elim (lt_cases p n) [
    | inl below ↦ elim (lt_cases (first p) (k + 1)) [
      | inl since ↦ rw (below.1, since.1) (alone (index_of n p (k - first p)) ∙ (elim (number_cases (index_of n p (k - first p)) 0) [
        | inl same ↦ absurd (let e = same.0 in omega arith)
        | inr other ↦ rw other.1 refl
      ]))
      | inr before ↦ rw (below.1, before.1) refl
    ]
    | inr past ↦ rw past.1 refl
  ]

  entry : (m p : ℕ) → option_map_or (name_from n first) (slice_get (replicate m 0) p) Anchor ≡ Anchor
  entry zero p = refl
  entry (suc m) zero = refl
  entry (suc m) (suc p) = entry m p

  pub memory_at-opened_world : (m k : ℕ) → memory_at n first cell (replicate m 0) (replicate k 0) ≡ anchor_memory state seq
  memory_at-opened_world m k = λ i x. at_place x i where
    at_place : (x : Place) → memory_at n first cell (replicate m 0) (replicate k 0) x ≡ anchor_memory {S = S} {I = I} {R = R} state seq x
    at_place (Announced p) = ap (λ (y : Name). let c : Content S I R = CellName y in c) (entry m p)
    at_place (HeadOf p) = ap (λ (y : Name). let c : Content S I R = CellName y in c) (entry k p)
    at_place (InvOf Anchor) = rw (alone 0) refl
    at_place (InvOf (Of p j)) = rw (no_cell p j) refl
    at_place (SeqOf Anchor) = rw (alone 0) refl
    at_place (SeqOf (Of p j)) = rw (no_cell p j) refl
    at_place (AfterOf Anchor) = rw (alone 0) refl
    at_place (AfterOf (Of p j)) = rw (no_cell p j) refl
    at_place (NewOf Anchor) = rw (alone 0) refl
    at_place (NewOf (Of p j)) = rw (no_cell p j) refl
    at_place (BeforeOf Anchor) = rw (alone 0) refl
    at_place (BeforeOf (Of p j)) = rw (no_cell p j) refl

-- the anchor that stands for a cell
pub memory_at-renewed : {S I R : Type 0} (n : ℕ) (first : ℕ → ℕ) (cell : ℕ → Option (CellRecord S I R)) (m k : ℕ) (last : Option (CellRecord S I R)) → HasOnlyAnchor cell (option_map anchor_for last)
    → IsRenewed last (memory_at n first cell (replicate m 0) (replicate k 0))
memory_at-renewed n first cell m k None alone = tt
memory_at-renewed {S} {I} {R} n first cell m k (Some c) alone = by_new c.new refl where
  by_new : (o : Option (S × Option R)) → c.new ≡ o → IfSome o (λ new. memory_at n first cell (replicate m 0) (replicate k 0) ≡ anchor_memory new.0 c.seq)
  by_new None e = tt
  by_new (Some new) e = memory_at-opened_world n first cell new.0 c.seq
      (subst (λ o. HasOnlyAnchor cell (Some (let a : CellRecord S I R = record { inv = None; seq = c.seq; before = None; after = None; new = option_map (λ v. (v.0, None)) o } in a))) e alone) m k
