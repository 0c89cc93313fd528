-- The world that is shown, after a process's own data changed.
use Rattle.uni_core.proofs.Vocabulary.{Anchor, Call, ChangesOnly, CountsNone, CountsSteps, CountsSteps-world_after, Grows, HelpingInvariant, HelpingInvariant-world_after, InvOf, Invariant, Invariant-world_after_step, Invocation, IsAccepted, IsWorld, List, Local, Memory, None, Of, Option, Pending, Sequential, SharedEntries, Some, Stage, Step, Takes, WorldParts, WorldOf, ap, arith, call_at, first_of, inl, inr, length, made_of, memory_of, memory_with, name_from, named, number_cases, option_map, option_map_or, pending_of, place_of, processes_of, refl, seq_of, set_at, slice_get, slice_get-set_other, slice_get-set_same, slice_index_or, slice_set, stage_of, subst, sym, turn_of, world_after, world_after_call, world_after_step, world_at, world_of, ℕ, ◌*◌, ◌+◌, ◌-◌, ◌<◌, ◌^◌, ◌∙◌, ◌≡◌, ◌≤◌}
use Rattle.std.proofs.Math.ListN.{length-set}
use Rattle.uni_model.specs.Stages.{Stage as at, Pending as PendingAt}
use Rattle.uni_model.specs.Effects.{call_after}
use Rattle.uni_core.specs.declared.stage.Stage.TheVariants as stages
use Rattle.uni_core.proofs.NoCalls.{CountsNone-world_after_call, CountsNone-world_after_step}

-- what is read of a process's own data, after that of one process changed
pub read-slice_set : {A : Type 0} (g : Option Local → A) (locals : List Local) (p : ℕ) (l : Local) → p < length locals
    → (λ q. g (slice_get (slice_set locals p l) q)) ≡ set_at (λ q. g (slice_get locals q)) p (g (Some l))
read-slice_set {A} g locals p l inside = λ i q. at_process q i where
  at_process : (q : ℕ) → g (slice_get (slice_set locals p l) q) ≡ set_at (λ r. g (slice_get locals r)) p (g (Some l)) q
  at_process q = elim (number_cases q p) [
    | inl h ↦ rw (h.1, ap (slice_get (slice_set locals p l)) h.0 ∙ slice_get-set_same locals p l inside) refl
    | inr h ↦ rw (h.1, slice_get-set_other locals p q l h.0) refl
  ]

-- the world that is shown then
pub world_at-slice_set : {S I R : Type 0} (n : ℕ) (first : ℕ → ℕ) (m : Memory S I R) (locals : List Local) (p : ℕ) (l : Local) → p < length locals
    → world_at n first m (slice_set locals p l) ≡ record {
      n = n;
      memory = m;
      call = set_at (λ q. call_at (name_from n first) (slice_get locals q)) p (call_at (name_from n first) (Some l));
      begun = set_at (λ q. option_map_or (λ (l : Local). l.begun) (slice_get locals q) 0) p l.begun;
      first = first;
      among = set_at (λ q. option_map_or (λ (l : Local). l.among) (slice_get locals q) 0) p l.among;
      steps = set_at (λ q. option_map_or (λ (l : Local). l.steps) (slice_get locals q) 0) p l.steps;
      turns = set_at (λ q. option_map_or (λ (l : Local). l.turns) (slice_get locals q) 0) p l.turns;
    }
world_at-slice_set n first m locals p l inside = λ i. record {
  n = n;
  memory = m;
  call = read-slice_set (call_at (name_from n first)) locals p l inside i;
  begun = read-slice_set (λ o. option_map_or (λ (l : Local). l.begun) o 0) locals p l inside i;
  first = first;
  among = read-slice_set (λ o. option_map_or (λ (l : Local). l.among) o 0) locals p l inside i;
  steps = read-slice_set (λ o. option_map_or (λ (l : Local). l.steps) o 0) locals p l inside i;
  turns = read-slice_set (λ o. option_map_or (λ (l : Local). l.turns) o 0) locals p l inside i;
}

pub length-slice_set : {A : Type 0} (xs : List A) (p : ℕ) (x : A) → length (slice_set xs p x) ≡ length xs
length-slice_set xs p x = simp length-set

-- the value that is there, written again
pub set_at-same : {A : Type 0} (f : ℕ → A) (p : ℕ) (v : A) → f p ≡ v → set_at f p v ≡ f
set_at-same f p v e = λ i q. at_number q i where
  at_number : (q : ℕ) → set_at f p v q ≡ f q
  at_number q = elim (number_cases q p) [ inl h ↦ rw h.1 (sym (ap f h.0 ∙ e)) | inr h ↦ rw h.1 refl ]

module _ {O S I R : Type 0} (object : Sequential S I R) (v : WorldParts O S I R) (is : IsWorld object v) (p : ℕ) (l : Local) (here : slice_get v.locals p ≡ Some l) (below : p < processes_of v.shared.cells) where
  long : p < length v.locals
  long = let all : processes_of v.shared.cells ≤ length v.locals = is.locals in let inside : p < processes_of v.shared.cells = below in omega arith

  module _ (a' : SharedEntries S I R) (i : I) (mine : ℕ) (name : named v.shared mine ≡ Of p l.begun) (count : processes_of a'.cells ≡ processes_of v.shared.cells)
      (firsts : a'.first ≡ v.shared.first) (among : ℕ) (among_is : among ≡ processes_of v.shared.cells)
      (wrote : memory_of a' ≡ memory_with (memory_of v.shared) (InvOf (Of p l.begun)) (Invocation (Some i))) (idle : l.call ≡ None) where
    abbrev pub begun_local : Local
    begun_local = record { call = Some (record { mine = mine; stage = stages.Announce }); begun = l.begun + 1; among = among; steps = 0; turns = 0 }

    abbrev pub begun_whole : WorldParts O S I R
    begun_whole = record { object = v.object; row = v.row; shared = a'; locals = slice_set v.locals p begun_local }

    begun_is : (world_of v).begun p ≡ l.begun
    begun_is = rw here refl

    pub world_of-begun : world_of begun_whole ≡ world_after_call (world_of v) p i
    world_of-begun =
        ap (λ k. world_at k (first_of a') (memory_of a') (slice_set v.locals p begun_local)) count
        ∙ ap (λ fs. world_at (processes_of v.shared.cells) (λ q. slice_index_or fs q 0) (memory_of a') (slice_set v.locals p begun_local)) firsts
        ∙ ap (λ m. world_at (processes_of v.shared.cells) (first_of v.shared) m (slice_set v.locals p begun_local)) wrote
        ∙ world_at-slice_set (processes_of v.shared.cells) (first_of v.shared) (memory_with (memory_of v.shared) (InvOf (Of p l.begun)) (Invocation (Some i))) v.locals p begun_local long
        ∙ ap (λ x. let w : WorldOf S I R = record {
          n = processes_of v.shared.cells;
          memory = memory_with (memory_of v.shared) (InvOf (Of p l.begun)) (Invocation (Some i));
          call = set_at (world_of v).call p (Some (record { mine = x; stage = at.Announce }));
          begun = set_at (world_of v).begun p (l.begun + 1);
          first = first_of v.shared;
          among = set_at (world_of v).among p among;
          steps = set_at (world_of v).steps p 0;
          turns = set_at (world_of v).turns p 0;
        } in w) name
        ∙ ap (λ b. let w : WorldOf S I R = record {
          n = processes_of v.shared.cells;
          memory = memory_with (memory_of v.shared) (InvOf (Of p b)) (Invocation (Some i));
          call = set_at (world_of v).call p (Some (record { mine = Of p b; stage = at.Announce }));
          begun = set_at (world_of v).begun p (b + 1);
          first = first_of v.shared;
          among = set_at (world_of v).among p among;
          steps = set_at (world_of v).steps p 0;
          turns = set_at (world_of v).turns p 0;
        } in w) (sym begun_is)
        ∙ ap (λ k. let w : WorldOf S I R = record (world_after_call (world_of v) p i) { among = set_at (world_of v).among p k } in w) among_is

    idle_is : (world_of v).call p ≡ None
    idle_is = rw here (rw idle refl)

    begun_later : (q : ℕ) → (world_of begun_whole).begun q ≡ set_at (world_of v).begun p ((world_of v).begun p + 1) q
    begun_later q = ap (λ (w : WorldOf S I R). w.begun q) world_of-begun

    pub IsWorld-begun : a'.cells.row ≡ v.shared.cells.row → ChangesOnly (made_of v.shared.cells) (made_of a'.cells) p (made_of v.shared.cells p + 1) → made_of v.shared.cells p < v.shared.cells.row
        → IsWorld object begun_whole
    IsWorld-begun row made free = record {
      locals = let all : processes_of v.shared.cells ≤ length v.locals = is.locals in let same = length-slice_set v.locals p begun_local in let n : processes_of a'.cells ≡ processes_of v.shared.cells = count in omega arith;
      firsts = ap length firsts ∙ is.firsts ∙ sym (length-slice_set v.locals p begun_local);
      few = subst (λ k. k ≤ 64) (sym count) is.few;
      row = is.row ∙ sym row;
      made = λ q. begun_later q ∙ made_later q;
      room = λ q. subst (λ k. k - first_of a' q ≤ v.row) (sym (begun_later q)) (
          let all = made_later q in
          let rows : v.row ≡ v.shared.cells.row = is.row in
          elim (number_cases q p) [
            | inl h ↦ let now : made_of a'.cells q ≡ made_of v.shared.cells p + 1 = made q ∙ rw h.1 refl in let f = free in omega arith
            | inr h ↦
                let now : made_of a'.cells q ≡ made_of v.shared.cells q = made q ∙ rw h.1 refl in
                let was : (world_of v).begun q ≡ first_of v.shared q + made_of v.shared.cells q = is.made q in
                let few : (world_of v).begun q - first_of v.shared q ≤ v.row = is.room q in
                omega arith
          ]);
      early = λ q. let since = first_same q in let was : first_of v.shared q ≤ seq_of (memory_of v.shared) Anchor = is.early q in let anchor : seq_of (memory_of a') Anchor ≡ seq_of (memory_of v.shared) Anchor = ap (λ (m : Memory S I R). seq_of m Anchor) wrote in omega arith;
      numbers = subst (λ k. seq_of (memory_of a') Anchor + k * v.row < 2 ^ 48) (sym count) (subst (λ (m : Memory S I R). seq_of m Anchor + processes_of v.shared.cells * v.row < 2 ^ 48) (sym wrote) is.numbers);
      sound = subst (λ w. HelpingInvariant object w) (sym world_of-begun) (HelpingInvariant-world_after object (world_of v) (Call p i) (below, idle_is) is.counts is.sound);
      counts = subst CountsSteps (sym world_of-begun) (CountsSteps-world_after object (world_of v) (Call p i) (below, idle_is) (is.sound.0, is.sound.1, is.sound.2) is.counts);
      none = subst CountsNone (sym world_of-begun) (CountsNone-world_after_call (world_of v) is.none p i);
    } where
      first_same : (q : ℕ) → first_of a' q ≡ first_of v.shared q
      first_same q = ap (λ fs. slice_index_or fs q 0) firsts

      made_later : (q : ℕ) → set_at (world_of v).begun p ((world_of v).begun p + 1) q ≡ first_of a' q + made_of a'.cells q
      made_later q =
          let first = first_same q in
          let was : (world_of v).begun q ≡ first_of v.shared q + made_of v.shared.cells q = is.made q in
          elim (number_cases q p) [
            | inl h ↦ rw h.1 (
                let now : made_of a'.cells q ≡ made_of v.shared.cells p + 1 = made q ∙ rw h.1 refl in
                let same : made_of v.shared.cells q ≡ made_of v.shared.cells p = ap (made_of v.shared.cells) h.0 in
                let begun : (world_of v).begun q ≡ (world_of v).begun p = ap (world_of v).begun h.0 in
                omega arith)
            | inr h ↦ rw h.1 (let now : made_of a'.cells q ≡ made_of v.shared.cells q = made q ∙ rw h.1 refl in omega arith)
          ]

  module _ (a' : SharedEntries S I R) (call : Pending) (pending : l.call ≡ Some call) (to : Option Stage) (response : Option R)
      (takes : Takes object p (named v.shared call.mine) (stage_of (named v.shared) call.stage) v.shared a' (option_map (stage_of (named v.shared)) to) response)
      (steps turns : ℕ) (steps_is : steps ≡ l.steps + 1)
      (turns_is : turns ≡ l.turns + turn_of (stage_of (named v.shared) call.stage) (memory_of v.shared (place_of (processes_of v.shared.cells) p (named v.shared call.mine) (stage_of (named v.shared) call.stage)))) where
    abbrev pub stepped_local : Local
    stepped_local = record { call = option_map (λ s. record { mine = call.mine; stage = s }) to; begun = l.begun; among = l.among; steps = steps; turns = turns }

    abbrev pub stepped_whole : WorldParts O S I R
    stepped_whole = record { object = v.object; row = v.row; shared = a'; locals = slice_set v.locals p stepped_local }

    pub pending_is : (world_of v).call p ≡ Some (pending_of (named v.shared) call)
    pending_is = rw here (rw pending refl)

    call_later : (o : Option Stage) → call_at (named v.shared) (Some (record { call = option_map (λ s. record { mine = call.mine; stage = s }) o; begun = l.begun; among = l.among; steps = steps; turns = turns }))
        ≡ call_after (named v.shared call.mine) (option_map (stage_of (named v.shared)) o)
    call_later None = refl
    call_later (Some s) = refl

    -- the step of a process whose call is this
    abbrev pub step_of : Option PendingAt → WorldOf S I R
    step_of o = world_after_step object (world_of v) p o

    stepped_call : set_at (world_of v).call p (call_at (named v.shared) (Some stepped_local)) ≡ (step_of (Some (pending_of (named v.shared) call))).call
    stepped_call = ap (λ o. set_at (world_of v).call p o) (call_later to ∙ ap (call_after (named v.shared call.mine)) takes.stage)

    stepped_begun : set_at (world_of v).begun p l.begun ≡ (world_of v).begun
    stepped_begun = set_at-same (world_of v).begun p l.begun (rw here refl)

    stepped_among : set_at (world_of v).among p l.among ≡ (world_of v).among
    stepped_among = set_at-same (world_of v).among p l.among (rw here refl)

    stepped_steps : set_at (world_of v).steps p steps ≡ (step_of (Some (pending_of (named v.shared) call))).steps
    stepped_steps = ap (λ k. set_at (world_of v).steps p k) (steps_is ∙ later_steps) where
      later_steps : l.steps + 1 ≡ (world_of v).steps p + 1
      later_steps = rw here refl

    stepped_turns : set_at (world_of v).turns p turns ≡ (step_of (Some (pending_of (named v.shared) call))).turns
    stepped_turns = ap (λ k. set_at (world_of v).turns p k) (turns_is ∙ ap (λ k. k + turned) now_turns) where
      turned : ℕ
      turned = turn_of (stage_of (named v.shared) call.stage) (memory_of v.shared (place_of (processes_of v.shared.cells) p (named v.shared call.mine) (stage_of (named v.shared) call.stage)))

      now_turns : l.turns ≡ (world_of v).turns p
      now_turns = rw here refl

    -- the world after the step
    pub world_of-world_after_step : world_of stepped_whole ≡ world_after object (world_of v) (Step p)
    world_of-world_after_step =
        ap (λ k. world_at k (first_of a') (memory_of a') (slice_set v.locals p stepped_local)) takes.shape.processes
        ∙ ap (λ fs. world_at (processes_of v.shared.cells) (λ q. slice_index_or fs q 0) (memory_of a') (slice_set v.locals p stepped_local)) takes.shape.first
        ∙ ap (λ m. world_at (processes_of v.shared.cells) (first_of v.shared) m (slice_set v.locals p stepped_local)) takes.memory
        ∙ world_at-slice_set (processes_of v.shared.cells) (first_of v.shared) _ v.locals p stepped_local long
        ∙ (λ i. record {
          n = processes_of v.shared.cells;
          memory = (step_of (Some (pending_of (named v.shared) call))).memory;
          call = stepped_call i;
          begun = stepped_begun i;
          first = first_of v.shared;
          among = stepped_among i;
          steps = stepped_steps i;
          turns = stepped_turns i;
        })
        ∙ ap step_of (sym pending_is)

    begun_kept : (o : Option PendingAt) (q : ℕ) → (step_of o).begun q ≡ (world_of v).begun q
    begun_kept None q = refl
    begun_kept (Some c) q = refl

    begun_stays : (q : ℕ) → (world_of stepped_whole).begun q ≡ (world_of v).begun q
    begun_stays q = ap (λ (w : WorldOf S I R). w.begun q) world_of-world_after_step ∙ begun_kept ((world_of v).call p) q

    kept : Invariant object (world_after_step object (world_of v) p (Some (pending_of (named v.shared) call)))
        × Grows (memory_of v.shared) (world_after_step object (world_of v) p (Some (pending_of (named v.shared) call))).memory
    kept = Invariant-world_after_step object (world_of v) p (pending_of (named v.shared) call) pending_is (is.sound.0, is.sound.1, is.sound.2)

    accepted : IsAccepted (world_of v) (Step p)
    accepted = rw pending_is refl

    anchor_stays : seq_of (memory_of a') Anchor ≡ seq_of (memory_of v.shared) Anchor
    anchor_stays =
        let positive : 1 ≤ seq_of (memory_of v.shared) Anchor = subst (λ k. 1 ≤ k) is.sound.2.numbered.anchor is.sound.2.numbered.first in
        ap (λ (m : Memory S I R). seq_of m Anchor) takes.memory ∙ kept.1.seq Anchor positive

    pub IsWorld-world_after_step : IsWorld object stepped_whole
    IsWorld-world_after_step = record {
      locals = let all : processes_of v.shared.cells ≤ length v.locals = is.locals in let same = length-slice_set v.locals p stepped_local in let n : processes_of a'.cells ≡ processes_of v.shared.cells = takes.shape.processes in omega arith;
      firsts = ap length takes.shape.first ∙ is.firsts ∙ sym (length-slice_set v.locals p stepped_local);
      few = subst (λ k. k ≤ 64) (sym takes.shape.processes) is.few;
      row = is.row ∙ sym takes.shape.row;
      made = λ q. begun_stays q ∙ is.made q ∙ ap (λ fs. slice_index_or fs q 0 + made_of v.shared.cells q) (sym takes.shape.first) ∙ ap (λ k. first_of a' q + k) (sym (takes.shape.made q));
      room = λ q. subst (λ k. k - first_of a' q ≤ v.row) (sym (begun_stays q)) (subst (λ fs. (world_of v).begun q - slice_index_or fs q 0 ≤ v.row) (sym takes.shape.first) (is.room q));
      early = λ q. let since : first_of a' q ≡ first_of v.shared q = ap (λ fs. slice_index_or fs q 0) takes.shape.first in let was : first_of v.shared q ≤ seq_of (memory_of v.shared) Anchor = is.early q in let anchor = anchor_stays in omega arith;
      numbers = subst (λ k. seq_of (memory_of a') Anchor + k * v.row < 2 ^ 48) (sym takes.shape.processes)
          (subst (λ k. k + processes_of v.shared.cells * v.row < 2 ^ 48) (sym anchor_stays) is.numbers);
      sound = subst (λ w. HelpingInvariant object w) (sym world_of-world_after_step) (HelpingInvariant-world_after object (world_of v) (Step p) accepted is.counts is.sound);
      counts = subst CountsSteps (sym world_of-world_after_step) (CountsSteps-world_after object (world_of v) (Step p) accepted (is.sound.0, is.sound.1, is.sound.2) is.counts);
      none = let some : (world_of v).begun p ≡ (is.sound.2.calls.mine p (pending_of (named v.shared) call) pending_is).0 + 1 = (is.sound.2.calls.mine p (pending_of (named v.shared) call) pending_is).2 in
          subst CountsNone (sym (world_of-world_after_step ∙ ap step_of pending_is)) (CountsNone-world_after_step (world_of v) is.none object p (pending_of (named v.shared) call) (omega arith));
    }
