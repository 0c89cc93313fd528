-- Where a call is pending, its next step can be taken, and its last step finds a response.
use Rattle.uni_core.proofs.Vocabulary.{Anchor, Announce, AtHead, Bool, CanStep, CellRecord, Content, DecideAfter, DecideNew, Finish, Has, IsCellOf, IsSome, IsThere, IsWorld, Name, None, Of, Option, is_some, stage_left, if◌then◌else◌, ReadAnnounce, ReadHelpSeq, ScanHead, ScanSeq, Sequential, SharedEntries, Some, Stage, Stands, Test, WorldParts, WriteBefore, WriteHead, WriteScan, WriteSeq, after_of, ap, arith, calls_in_era, cell_of, cond, effect_at, enough, era_calls, false, first_of, inl, inr, inv_of, memory_of, named, nat_eq, nat_lt, number_in, option_map, option_map_or, place_of, processes_of, refl, response_in, seq_of, stage_after, stage_of, subst, sum_below-bound, sym, true, turn_of, turns_to, world_of, ℕ, ◌%◌, ◌*◌, ◌+◌, ◌<◌, ◌^◌, ◌∙◌, ◌≡◌, ◌≤◌, ◌⊎◌}
use Rattle.uni_model.specs.Stages.{Stage as at}
use Rattle.uni_model.proofs.Steps.{linked_call, head_number}
use Rattle.uni_model.proofs.Values.{response-settled}
use Rattle.uni_core.proofs.Named.{cell_named-name_from}

Has-IsSome : {A : Type 0} (o : Option A) → Has o → IsSome o
Has-IsSome None h = absurd (let e = h.1 in cc)
Has-IsSome (Some x) h = refl

-- the last number is at most the anchor's and one for each cell that there can be, which is small
pub last_small : {O S I R : Type 0} (object : Sequential S I R) (v : WorldParts O S I R) (is : IsWorld object v) → is.sound.1 < 2 ^ 48
last_small object v is =
    let all : is.sound.1 ≤ is.sound.0 Anchor + era_calls (world_of v) = enough object (world_of v) is.sound.0 is.sound.1 is.sound.2 in
    let each : era_calls (world_of v) ≤ processes_of v.shared.cells * v.row = sum_below-bound (processes_of v.shared.cells) v.row (calls_in_era (world_of v)) is.room in
    let anchor : is.sound.0 Anchor ≡ seq_of (memory_of v.shared) Anchor = is.sound.2.numbered.anchor in
    let fits : seq_of (memory_of v.shared) Anchor + processes_of v.shared.cells * v.row < 2 ^ 48 = is.numbers in
    omega arith

module _ {S I R : Type 0} (a : SharedEntries S I R) (positive : 1 ≤ processes_of a.cells) where
  pub there_seq : (id : ℕ) → 1 ≤ seq_of (memory_of a) (named a id) → IsThere a id
  there_seq id h = by_cell (cell_of a.cells id) (subst (λ o. 1 ≤ option_map_or (λ (c : CellRecord S I R). c.seq) o 0) (cell_named-name_from (processes_of a.cells) (first_of a) positive (cell_of a.cells) id) h) where
    by_cell : (o : Option (CellRecord S I R)) → 1 ≤ option_map_or (λ (c : CellRecord S I R). c.seq) o 0 → IsSome o
    by_cell None g = absurd (omega arith)
    by_cell (Some c) g = refl

  pub there_inv : (id : ℕ) → Has (inv_of (memory_of a) (named a id)) → IsThere a id
  there_inv id h = by_cell (cell_of a.cells id) (subst (λ o. Has (option_map_or (λ (c : CellRecord S I R). c.inv) o None)) (cell_named-name_from (processes_of a.cells) (first_of a) positive (cell_of a.cells) id) h) where
    by_cell : (o : Option (CellRecord S I R)) → Has (option_map_or (λ (c : CellRecord S I R). c.inv) o None) → IsSome o
    by_cell None g = absurd (let e : None ≡ Some g.0 = g.1 in cc)
    by_cell (Some c) g = refl

module _ {O S I R : Type 0} (object : Sequential S I R) (v : WorldParts O S I R) (is : IsWorld object v) (p : ℕ) (below : p < processes_of v.shared.cells) where
  positive : 1 ≤ processes_of v.shared.cells
  positive = omega (arith, below)

  -- where p stands in a call that is pending
  module _ (mine : ℕ) (stage : Stage) (pending : (world_of v).call p ≡ Some (record { mine = named v.shared mine; stage = stage_of (named v.shared) stage })) where
    stands : Stands (memory_of v.shared) is.sound.0 (processes_of v.shared.cells) p (named v.shared mine) (stage_of (named v.shared) stage)
    stands = is.sound.2.stands p (record { mine = named v.shared mine; stage = stage_of (named v.shared) stage }) pending

    mine_there : IsThere v.shared mine
    mine_there =
        let its = is.sound.2.calls.mine p (record { mine = named v.shared mine; stage = stage_of (named v.shared) stage }) pending in
        there_inv v.shared positive mine (its.3.0, ap (inv_of (memory_of v.shared)) its.1 ∙ its.3.1)

    head_there : (c s : ℕ) → AtHead (memory_of v.shared) p (named v.shared c) s → IsThere v.shared c
    head_there c s h = there_seq v.shared positive c
        (head_number object (world_of v) is.sound.0 is.sound.1 is.sound.2 p (named v.shared mine) (stage_of (named v.shared) stage) pending (named v.shared c) s h).0

    -- a number of p's head leaves room for the next
    head_small : (c s : ℕ) → AtHead (memory_of v.shared) p (named v.shared c) s → s < 2 ^ 48
    head_small c s h =
        let number : s ≡ is.sound.0 (named v.shared c)
        = (head_number object (world_of v) is.sound.0 is.sound.1 is.sound.2 p (named v.shared mine) (stage_of (named v.shared) stage) pending (named v.shared c) s h).1 in
        let top : is.sound.0 (named v.shared c) ≤ is.sound.1 = is.sound.2.numbered.greatest (named v.shared c) in
        let small = last_small object v is in
        omega arith

    linked : (c s d : ℕ) → AtHead (memory_of v.shared) p (named v.shared c) s
        → after_of (memory_of v.shared) (named v.shared c) ≡ Some (named v.shared d) → Has (inv_of (memory_of v.shared) (named v.shared d))
    linked c s d h link = linked_call object (world_of v) is.sound.0 is.sound.1 is.sound.2 p (named v.shared mine) (stage_of (named v.shared) stage) pending
        (named v.shared c) s (named v.shared d) h link

  help_there : (help q : ℕ) → (named v.shared help ≡ Anchor) ⊎ IsCellOf (memory_of v.shared) q (named v.shared help) → IsThere v.shared help
  help_there help q h = elim h [
    | inl anchor ↦ there_seq v.shared positive help (subst (λ x. 1 ≤ seq_of (memory_of v.shared) x) (sym anchor) (subst (λ k. 1 ≤ k) is.sound.2.numbered.anchor is.sound.2.numbered.first))
    | inr cell ↦ there_inv v.shared positive help (cell.2.0, ap (inv_of (memory_of v.shared)) cell.1 ∙ cell.2.1)
  ]

  -- the last step finds a response
  response-finish : (mine s t : ℕ) → (world_of v).call p ≡ Some (record { mine = named v.shared mine; stage = at.Finish s t }) → IsSome (response_in (memory_of v.shared) (named v.shared mine))
  response-finish mine s t e =
      let h = is.sound.2.stands p (record { mine = named v.shared mine; stage = at.Finish s t }) e in
      let its = is.sound.2.calls.mine p (record { mine = named v.shared mine; stage = at.Finish s t }) e in
      let threaded : 1 ≤ seq_of (memory_of v.shared) (Of p its.0) = subst (λ x. 1 ≤ seq_of (memory_of v.shared) x) its.1 (subst (λ k. 1 ≤ k) (sym h.2) h.1) in
      let settled = response-settled object (memory_of v.shared) is.sound.0 is.sound.2.values is.sound.2.back p its.0 threaded in
      Has-IsSome _ (settled.0, ap (response_in (memory_of v.shared)) its.1 ∙ settled.1)

  -- the step of each stage can be taken
  pub CanStep-pending : (mine : ℕ) (stage : Stage) → (world_of v).call p ≡ Some (record { mine = named v.shared mine; stage = stage_of (named v.shared) stage }) → CanStep v.shared mine stage
  CanStep-pending mine Announce e = tt
  CanStep-pending mine (ScanHead q best s) e = (stands mine (ScanHead q best s) e).0
  CanStep-pending mine (ScanSeq q best s head) e = let h = stands mine (ScanSeq q best s head) e in (h.0, there_seq v.shared positive head h.2)
  CanStep-pending mine (WriteScan best s) e = tt
  CanStep-pending mine (Test c s) e = mine_there mine (Test c s) e
  CanStep-pending mine (ReadAnnounce c s) e = tt
  CanStep-pending mine (ReadHelpSeq c s help) e = help_there help (s % processes_of v.shared.cells) (stands mine (ReadHelpSeq c s help) e).2
  CanStep-pending mine (DecideAfter c s prefer) e = head_there mine (DecideAfter c s prefer) e c s (stands mine (DecideAfter c s prefer) e).0
  CanStep-pending mine (DecideNew c s d) e =
      let h = stands mine (DecideNew c s d) e in
      let inv = linked mine (DecideNew c s d) e c s d h.0 h.1 in
      let threaded = (head_number object (world_of v) is.sound.0 is.sound.1 is.sound.2 p (named v.shared mine) (stage_of (named v.shared) (DecideNew c s d)) e (named v.shared c) s h.0).0 in
      (head_there mine (DecideNew c s d) e c s h.0, there_inv v.shared positive d inv, Has-IsSome _ (is.sound.2.values.threaded (named v.shared c) threaded), Has-IsSome _ inv)
  CanStep-pending mine (WriteBefore c s d) e = let h = stands mine (WriteBefore c s d) e in there_inv v.shared positive d (linked mine (WriteBefore c s d) e c s d h.0 h.1)
  CanStep-pending mine (WriteSeq c s d) e = let h = stands mine (WriteSeq c s d) e in (there_inv v.shared positive d (linked mine (WriteSeq c s d) e c s d h.0 h.1), head_small mine (WriteSeq c s d) e c s h.0)
  CanStep-pending mine (WriteHead c s d) e = head_small mine (WriteHead c s d) e c s (stands mine (WriteHead c s d) e).0
  CanStep-pending mine (Finish s t) e = (mine_there mine (Finish s t) e, response-finish mine s t e)

-- how many turns begin with a stage of the definitions
abbrev pub turns_at : Option at → ℕ
turns_at (Some (at.ReadAnnounce c c_seq)) = 1
turns_at _ = 0

turns_to-stage_of : {R : Type 0} (name : ℕ → Name) (left : Stage) (response : Option R)
    → (if is_some response then 0 else turns_to left) ≡ turns_at (option_map (stage_of name) (stage_left left response))
turns_to-stage_of name left (Some response) = refl
turns_to-stage_of name Announce None = refl
turns_to-stage_of name (ScanHead q best s) None = refl
turns_to-stage_of name (ScanSeq q best s head) None = refl
turns_to-stage_of name (WriteScan best s) None = refl
turns_to-stage_of name (Test c s) None = refl
turns_to-stage_of name (ReadAnnounce c s) None = refl
turns_to-stage_of name (ReadHelpSeq c s help) None = refl
turns_to-stage_of name (DecideAfter c s prefer) None = refl
turns_to-stage_of name (DecideNew c s d) None = refl
turns_to-stage_of name (WriteBefore c s d) None = refl
turns_to-stage_of name (WriteSeq c s d) None = refl
turns_to-stage_of name (WriteHead c s d) None = refl
turns_to-stage_of name (Finish s t) None = refl

-- how many turns a step adds, told by where the process stands then
turn_of-stage_after : {S I R : Type 0} (n : ℕ) (mine : Name) (stage : at) (v : Content S I R)
    → turn_of stage v ≡ turns_at (stage_after n mine stage v)
turn_of-stage_after n mine at.Announce v = refl
turn_of-stage_after n mine (at.ScanHead q best s) v = refl
turn_of-stage_after n mine (at.ScanSeq q best s head) v = by_test (nat_lt s (number_in v)) (nat_lt (q + 1) n) where
  by_test : (better more : Bool) → 0 ≡ turns_at (Some (cond better (cond more (at.ScanHead (q + 1) head (number_in v)) (at.WriteScan head (number_in v)))
      (cond more (at.ScanHead (q + 1) best s) (at.WriteScan best s))))
  by_test true true = refl
  by_test true false = refl
  by_test false true = refl
  by_test false false = refl
turn_of-stage_after n mine (at.WriteScan best s) v = refl
turn_of-stage_after n mine (at.Test c s) v = by_test (nat_eq (number_in v) 0) where
  by_test : (b : Bool) → cond b 1 0 ≡ turns_at (Some (cond b (at.ReadAnnounce c s) (at.Finish s (number_in v))))
  by_test true = refl
  by_test false = refl
turn_of-stage_after n mine (at.ReadAnnounce c s) v = refl
turn_of-stage_after n mine (at.ReadHelpSeq c s help) v = refl
turn_of-stage_after n mine (at.DecideAfter c s prefer) v = refl
turn_of-stage_after n mine (at.DecideNew c s d) v = refl
turn_of-stage_after n mine (at.WriteBefore c s d) v = refl
turn_of-stage_after n mine (at.WriteSeq c s d) v = refl
turn_of-stage_after n mine (at.WriteHead c s d) v = refl
turn_of-stage_after n mine (at.Finish s t) v = refl

pub turns_to-effect : {S I R : Type 0} (object : Sequential S I R) (a : SharedEntries S I R) (p : ℕ) (mine : Name) (stage : at) (left : Stage) (response : Option R)
    → option_map (stage_of (named a)) (stage_left left response) ≡ (effect_at object a p mine stage).stage
    → (if is_some response then 0 else turns_to left) ≡ turn_of stage (memory_of a (place_of (processes_of a.cells) p mine stage))
turns_to-effect object a p mine stage left response e =
    turns_to-stage_of (named a) left response ∙ ap turns_at e ∙ sym (turn_of-stage_after (processes_of a.cells) mine stage _)
