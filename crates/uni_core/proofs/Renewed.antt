-- The world that is shown after the end of an era.
use Rattle.uni_core.proofs.Vocabulary.{Anchor, CellRecord, CountsNone, CountsSteps, CountsSteps-world_after, Has, HelpingInvariant, HelpingInvariant-world_after, IfSome, IsQuiescent, IsRenewed, IsSome, IsSomeAnd, IsWorld, List, Local, Memory, Name, None, Option, Pending, Reshape, Sequential, SharedEntries, Some, WorldParts, [], anchor_memory, ap, arith, call_at, calls_in_era, cell_of, enough, era_calls, first_of, idle_when_quiescent, last_cell, last_cell_threaded, length, made_of, memory_of, named, new_local, new_of, number-last_of, option_map, option_map_or, pending_of, processes_of, refl, seq_of, slice_get, slice_index_or, subst, suc, sym, world_after_era, world_of, zero, ℕ, ◌*◌, ◌+◌, ◌<◌, ◌^◌, ◌∙◌, ◌∷◌, ◌≡◌, ◌≤◌}
use Rattle.uni_model.proofs.AllLinked.{calls_numbered}
use Rattle.uni_core.proofs.NoCalls.{CountsNone-world_after_era}
use Rattle.uni_core.proofs.Named.{cell_named-name_from}

-- what a process keeps for itself is read at its place, or is what a new process has
module _ {A : Type 0} (g : Local → A) where
  reads : (locals : List Local) (p : ℕ) → option_map_or g (slice_get locals p) (g new_local) ≡ g (slice_index_or locals p new_local)
  reads [] p = refl
  reads (l ∷ ls) zero = refl
  reads (l ∷ ls) (suc p) = reads ls p

-- no call is pending, however its cell would be named
module _ (name name' : ℕ → Name) (locals locals' : List Local) (p : ℕ) (same : slice_index_or locals' p new_local ≡ slice_index_or locals p new_local) where
  no_call : (o : Option Local) → call_at name o ≡ None → option_map_or (λ (l : Local). l.call) o None ≡ None
  no_call None e = refl
  no_call (Some l) e = by_call l.call e where
    by_call : (c : Option Pending) → option_map (pending_of name) c ≡ None → c ≡ None
    by_call None f = refl
    by_call (Some c) f = cc

  no_call_at : (o : Option Local) → option_map_or (λ (l : Local). l.call) o None ≡ None → call_at name' o ≡ None
  no_call_at None e = refl
  no_call_at (Some l) e = ap (option_map (pending_of name')) e

  still_idle : call_at name (slice_get locals p) ≡ None → call_at name' (slice_get locals' p) ≡ None
  still_idle idle = no_call_at (slice_get locals' p)
      (reads (λ l. l.call) locals' p ∙ ap (λ (l : Local). l.call) same ∙ sym (reads (λ l. l.call) locals p) ∙ no_call (slice_get locals p) idle)

module _ {O S I R : Type 0} (object : Sequential S I R) (v now : WorldParts O S I R) (view : v ≡ now) (is : IsWorld object v) (quiescent : IsQuiescent (world_of now)) (positive : 1 ≤ processes_of now.shared.cells)
    (id : ℕ) (last_is : named now.shared id ≡ last_cell (world_of now)) where
  quiet : IsQuiescent (world_of v)
  quiet = subst (λ (x : WorldParts O S I R). IsQuiescent (world_of x)) (sym view) quiescent

  some_process : 1 ≤ processes_of v.shared.cells
  some_process = subst (λ (x : WorldParts O S I R). 1 ≤ processes_of x.shared.cells) (sym view) positive

  -- as many processes as there were
  pub same_processes : (k : ℕ) → k ≡ processes_of v.shared.cells → k ≡ processes_of now.shared.cells
  same_processes k e = subst (λ (x : WorldParts O S I R). k ≡ processes_of x.shared.cells) view e

  pub enough_locals : processes_of now.shared.cells ≤ length v.locals
  enough_locals = subst (λ k. k ≤ length v.locals) (same_processes (processes_of v.shared.cells) refl) is.locals

  last_named : named v.shared id ≡ last_cell (world_of v)
  last_named = subst (λ (x : WorldParts O S I R). named x.shared id ≡ last_cell (world_of x)) (sym view) last_is

  threaded : 1 ≤ seq_of (memory_of v.shared) (last_cell (world_of v))
  threaded = last_cell_threaded object (world_of v) is.sound.0 is.sound.1 is.sound.2 quiet

  settled : Has (new_of (memory_of v.shared) (last_cell (world_of v)))
  settled = is.sound.2.values.threaded (last_cell (world_of v)) threaded

  -- the last cell at its index
  seq_is : seq_of (memory_of v.shared) (last_cell (world_of v)) ≡ option_map_or (λ (c : CellRecord S I R). c.seq) (cell_of v.shared.cells id) 0
  seq_is = ap (seq_of (memory_of v.shared)) (sym last_named)
      ∙ ap (λ o. option_map_or (λ (c : CellRecord S I R). c.seq) o 0) (cell_named-name_from (processes_of v.shared.cells) (first_of v.shared) some_process (cell_of v.shared.cells) id)

  new_is : new_of (memory_of v.shared) (last_cell (world_of v)) ≡ option_map_or (λ (c : CellRecord S I R). c.new) (cell_of v.shared.cells id) None
  new_is = ap (new_of (memory_of v.shared)) (sym last_named)
      ∙ ap (λ o. option_map_or (λ (c : CellRecord S I R). c.new) o None) (cell_named-name_from (processes_of v.shared.cells) (first_of v.shared) some_process (cell_of v.shared.cells) id)

  pub last_there : IsSomeAnd (cell_of v.shared.cells id) (λ c. (0 < c.seq) × IsSome c.new)
  last_there = by_cell (cell_of v.shared.cells id) (subst (λ k. 1 ≤ k) seq_is threaded) (subst (λ o. Has o) new_is settled) where
    by_cell : (o : Option (CellRecord S I R)) → 1 ≤ option_map_or (λ (c : CellRecord S I R). c.seq) o 0 → Has (option_map_or (λ (c : CellRecord S I R). c.new) o None)
        → IsSomeAnd o (λ c. (0 < c.seq) × IsSome c.new)
    by_cell None t h = absurd (omega arith)
    by_cell (Some c) t h = (t, rw h.1 refl)

  -- a process has begun no more calls than the last number says
  begun_early : (p : ℕ) → (world_of v).begun p ≤ seq_of (memory_of v.shared) (last_cell (world_of v))
  begun_early p =
      let risen : is.sound.0 Anchor + calls_in_era (world_of v) p ≤ is.sound.1 = calls_numbered object (world_of v) is.sound.0 is.sound.1 is.sound.2 quiet p in
      let first : (world_of v).first p ≤ (world_of v).begun p = is.sound.2.calls.first p in
      let early : (world_of v).first p ≤ seq_of (memory_of v.shared) Anchor = is.early p in
      let anchor : is.sound.0 Anchor ≡ seq_of (memory_of v.shared) Anchor = is.sound.2.numbered.anchor in
      let end : is.sound.0 (last_cell (world_of v)) ≡ is.sound.1
      = number-last_of object (world_of v) is.sound.0 is.sound.1 is.sound.2 (era_calls (world_of v)) Anchor is.sound.2.numbered.first (enough object (world_of v) is.sound.0 is.sound.1 is.sound.2) in
      let number : seq_of (memory_of v.shared) (last_cell (world_of v)) ≡ is.sound.0 (last_cell (world_of v)) = is.sound.2.numbered.seq (last_cell (world_of v)) threaded in
      omega arith

  module _ (a' : SharedEntries S I R) (m : ℕ) (locals' : List Local) (renewed : IsRenewed (cell_of v.shared.cells id) (memory_of a')) (firsts : (p : ℕ) → first_of a' p ≡ (slice_index_or locals' p new_local).begun)
      (same : (p : ℕ) → slice_index_or locals' p new_local ≡ slice_index_or v.locals p new_local) (count : processes_of a'.cells ≡ m) where
    abbrev pub renewed_whole : WorldParts O S I R
    renewed_whole = record { object = v.object; row = v.row; shared = a'; locals = locals' }

    memory_is : memory_of a' ≡ anchor_memory settled.0.0 (seq_of (memory_of v.shared) (last_cell (world_of v)))
    memory_is = by_cell (cell_of v.shared.cells id) renewed (sym new_is ∙ settled.1) ∙ ap (anchor_memory settled.0.0) (sym seq_is) where
      by_new : (o : Option (S × Option R)) (number : ℕ) → IfSome o (λ new. memory_of a' ≡ anchor_memory new.0 number) → o ≡ Some settled.0 → memory_of a' ≡ anchor_memory settled.0.0 number
      by_new None number r e = absurd (let f : None ≡ Some settled.0 = e in cc)
      by_new (Some new) number r e = let same_new : new ≡ settled.0 = cc in subst (λ (x : S × Option R). memory_of a' ≡ anchor_memory x.0 number) same_new r

      by_cell : (o : Option (CellRecord S I R)) → IsRenewed o (memory_of a') → option_map_or (λ (c : CellRecord S I R). c.new) o None ≡ Some settled.0
          → memory_of a' ≡ anchor_memory settled.0.0 (option_map_or (λ (c : CellRecord S I R). c.seq) o 0)
      by_cell None r e = absurd (let f : None ≡ Some settled.0 = e in cc)
      by_cell (Some c) r e = by_new c.new c.seq r e

    field_is : {A : Type 0} (g : Local → A) (p : ℕ) → option_map_or g (slice_get locals' p) (g new_local) ≡ option_map_or g (slice_get v.locals p) (g new_local)
    field_is g p = reads g locals' p ∙ ap g (same p) ∙ sym (reads g v.locals p)

    first_is : (p : ℕ) → first_of a' p ≡ (world_of v).begun p
    first_is p = firsts p ∙ ap (λ (l : Local). l.begun) (same p) ∙ sym (reads (λ l. l.begun) v.locals p)

    call_is : (p : ℕ) → (world_of renewed_whole).call p ≡ (world_of v).call p
    call_is p =
        let idle = idle_when_quiescent object (world_of v) is.sound.0 is.sound.1 is.sound.2 quiet p in
        still_idle (named v.shared) (named a') v.locals locals' p (same p) idle ∙ sym idle

    pub world_of-renewed_v : world_of renewed_whole ≡ world_after_era (world_of v) m
    world_of-renewed_v = (λ i. record {
      n = count i;
      memory = memory_is i;
      call = λ p. call_is p i;
      begun = λ p. field_is (λ l. l.begun) p i;
      first = λ p. first_is p i;
      among = λ p. field_is (λ l. l.among) p i;
      steps = λ p. field_is (λ l. l.steps) p i;
      turns = λ p. field_is (λ l. l.turns) p i;
    }) ∙ ap (λ o. option_map_or (λ (new : S × Option R). record (world_of v) { n = m; first = (world_of v).begun; memory = anchor_memory new.0 (seq_of (memory_of v.shared) (last_cell (world_of v))) }) o (world_of v)) (sym settled.1)

    pub IsWorld-renewed : (1 ≤ m) × (m ≤ 64) → m ≤ length locals' → length a'.first ≡ length locals' → a'.cells.row ≡ v.shared.cells.row → ((p : ℕ) → made_of a'.cells p ≡ 0)
        → seq_of (world_of now).memory (last_cell (world_of now)) + m * now.row < 2 ^ 48 → IsWorld object renewed_whole
    IsWorld-renewed few locals long row none fits = record {
      locals = subst (λ k. k ≤ length locals') (sym count) locals;
      firsts = long;
      few = subst (λ k. k ≤ 64) (sym count) few.1;
      row = is.row ∙ sym row;
      made = λ p. let begun = field_is (λ l. l.begun) p in let first = first_is p in let empty = none p in omega arith;
      room = λ p. let begun : (world_of renewed_whole).begun p ≡ (world_of v).begun p = field_is (λ l. l.begun) p in let first : first_of a' p ≡ (world_of v).begun p = first_is p in omega arith;
      early = λ p. let first : first_of a' p ≡ (world_of v).begun p = first_is p in let low = begun_early p in
          let anchor : seq_of (memory_of a') Anchor ≡ seq_of (memory_of v.shared) (last_cell (world_of v)) = ap (λ (x : Memory S I R). seq_of x Anchor) memory_is in omega arith;
      numbers = subst (λ (x : Memory S I R). seq_of x Anchor + processes_of a'.cells * v.row < 2 ^ 48) (sym memory_is)
          (subst (λ k. seq_of (memory_of v.shared) (last_cell (world_of v)) + k * v.row < 2 ^ 48) (sym count)
          (subst (λ (x : WorldParts O S I R). seq_of (world_of x).memory (last_cell (world_of x)) + m * x.row < 2 ^ 48) (sym view) fits));
      sound = subst (λ w. HelpingInvariant object w) (sym world_of-renewed_v) (HelpingInvariant-world_after object (world_of v) (Reshape m) (quiet, few.0) is.counts is.sound);
      counts = subst CountsSteps (sym world_of-renewed_v) (CountsSteps-world_after object (world_of v) (Reshape m) (quiet, few.0) (is.sound.0, is.sound.1, is.sound.2) is.counts);
      none = subst CountsNone (sym world_of-renewed_v) (CountsNone-world_after_era (world_of v) is.none m);
    }

    pub world_of-renewed : world_of renewed_whole ≡ world_after_era (world_of now) m
    world_of-renewed = world_of-renewed_v ∙ ap (λ (x : WorldParts O S I R). world_after_era (world_of x) m) view
