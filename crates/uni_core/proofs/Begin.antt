-- What a call that is begun leaves.
use Rattle.uni_core.proofs.Vocabulary.{Bool, Call, CallId, ChangesOnly, InvOf, Invocation, IsSome, IsWorld, Local, None, Of, Option, Pending, Sequential, SharedEntries, Some, IsSimulated, WorldParts, ap, arith, call_accepted, call_at, calls_in_era, current_of, false, first_of, get_or, index_of, is_some, length, made_of, memory_of, memory_with, name_from-index_of, named, not, option_map, pending_of, processes_of, refl, slice_get, slice_get_read, subst, sym, true, world_after_call, world_of, ℕ, ◌+◌, ◌-◌, ◌<◌, ◌∙◌, ◌≡◌, ◌≢◌, ◌≤◌}
use Rattle.uni_model.specs.Stages.{Pending as PendingAt}
use Rattle.uni_core.proofs.Shown.{begun_whole, world_of-begun, IsWorld-begun}

-- a process that there is, by the count of processes as it was read
pub inside_count : (n k p : ℕ) → k ≡ n → p < k → p < n
inside_count n k p count below = subst (λ j. p < j) count below

-- and by the world as a contract has it
pub inside_view : {O S I R : Type 0} (v now : WorldParts O S I R) (p : ℕ) → v ≡ now → p < processes_of now.shared.cells → p < processes_of v.shared.cells
inside_view {O} {S} {I} {R} v now p view below = subst (λ (x : WorldParts O S I R). p < processes_of x.shared.cells) (sym view) below

-- a row in which cells can still be made
pub room_left : (row made room : ℕ) → room ≡ row - made → room ≢ 0 → made < row
room_left row made room is some = omega (arith, is, some)

-- what a process keeps for itself, where it stands in the list
pub local_here : {O S I R : Type 0} (object : Sequential S I R) (v : WorldParts O S I R) → IsWorld object v → (p : ℕ) (l : Local)
    → p < processes_of v.shared.cells → l ≡ get_or v.locals p l → slice_get v.locals p ≡ Some l
local_here object v is p l inside read = slice_get_read v.locals (length v.locals) p l refl (let all : processes_of v.shared.cells ≤ length v.locals = is.locals in let below : p < processes_of v.shared.cells = inside in omega arith) read

-- each process that there is keeps something for itself
pub within_locals : {O S I R : Type 0} (object : Sequential S I R) (v now : WorldParts O S I R) → v ≡ now → IsWorld object v → (p : ℕ) → p < processes_of now.shared.cells → p < length v.locals
within_locals object v now view is p below = let inside = inside_view v now p view below in let all = is.locals in omega arith

module _ {O S I R : Type 0} (object : Sequential S I R) (v now : WorldParts O S I R) (view : v ≡ now) (is : IsWorld object v) (p : ℕ) (l : Local)
    (inside : p < processes_of v.shared.cells) (read : l ≡ get_or v.locals p l) where
  pub here : slice_get v.locals p ≡ Some l
  here = local_here object v is p l inside read

  begun_is : (world_of v).begun p ≡ l.begun
  begun_is = rw here refl

  pub begun_now : l.begun ≡ (world_of now).begun p
  begun_now = subst (λ (x : WorldParts O S I R). l.begun ≡ (world_of x).begun p) view (sym begun_is)

  -- what is counted of its latest call
  pub among_now : l.among ≡ (world_of now).among p
  among_now = subst (λ (x : WorldParts O S I R). l.among ≡ (world_of x).among p) view (sym (rw here refl))

  pub steps_now : l.steps ≡ (world_of now).steps p
  steps_now = subst (λ (x : WorldParts O S I R). l.steps ≡ (world_of x).steps p) view (sym (rw here refl))

  pub turns_now : l.turns ≡ (world_of now).turns p
  turns_now = subst (λ (x : WorldParts O S I R). l.turns ≡ (world_of x).turns p) view (sym (rw here refl))

  pub no_call : (o : Bool) → is_some l.call ≡ o → o ≡ false → l.call ≡ None
  no_call true e f = cc
  no_call false e f = none l.call e where
    none : {A : Type 0} (o : Option A) → is_some o ≡ false → o ≡ None
    none None g = refl
    none (Some x) g = cc

  pub no_call_now : l.call ≡ None → (world_of now).call p ≡ None
  no_call_now idle = subst (λ (x : WorldParts O S I R). (world_of x).call p ≡ None) view (rw here (rw idle refl))

  some_call : (o : Option Pending) → is_some o ≡ true → IsSome (option_map (pending_of (named v.shared)) o)
  some_call None e = cc
  some_call (Some call) e = refl

  pub some_call_now : (b : Bool) → b ≡ is_some l.call → b ≡ true → IsSome ((world_of now).call p)
  some_call_now b tested is_true = subst (λ (x : WorldParts O S I R). IsSome ((world_of x).call p)) view (rw here (some_call l.call (sym tested ∙ is_true)))

  -- the era has as many of its calls as there are cells
  era_is : calls_in_era (world_of v) p ≡ made_of v.shared.cells p
  era_is = let all : (world_of v).begun p ≡ first_of v.shared p + made_of v.shared.cells p = is.made p in omega arith

  -- a row that is full
  pub full_now : (room : ℕ) → room ≡ v.shared.cells.row - made_of v.shared.cells p → room ≡ 0 → calls_in_era (world_of now) p ≡ now.row
  full_now room is_room none = subst (λ (x : WorldParts O S I R). calls_in_era (world_of x) p ≡ x.row) view (let all = era_is in let most : calls_in_era (world_of v) p ≤ v.row = is.room p in let rows : v.row ≡ v.shared.cells.row = is.row in omega arith)

  -- a row that isn't
  pub less_now : (room : ℕ) → room ≡ v.shared.cells.row - made_of v.shared.cells p → room ≢ 0 → calls_in_era (world_of now) p < now.row
  less_now room is_room some = subst (λ (x : WorldParts O S I R). calls_in_era (world_of x) p < x.row) view (let all = era_is in let most : calls_in_era (world_of v) p ≤ v.row = is.room p in let rows : v.row ≡ v.shared.cells.row = is.row in omega arith)

  module _ (a' : SharedEntries S I R) (i j : I) (same : i ≡ j) (mine : ℕ) (b : Bool) (tested : b ≡ is_some l.call) (none : b ≡ false) (free : made_of v.shared.cells p < v.shared.cells.row)
      (mine_is : mine ≡ index_of (processes_of v.shared.cells) p (made_of v.shared.cells p))
      (wrote : memory_of a' ≡ memory_with (memory_of v.shared) (InvOf (Of p (first_of v.shared p + made_of v.shared.cells p))) (Invocation (Some i)))
      (shape : (processes_of a'.cells ≡ processes_of v.shared.cells) × (a'.cells.row ≡ v.shared.cells.row) × (a'.first ≡ v.shared.first))
      (made : ChangesOnly (made_of v.shared.cells) (made_of a'.cells) p (made_of v.shared.cells p + 1)) (among : ℕ) (among_is : among ≡ processes_of v.shared.cells) where
    pub idle : l.call ≡ None
    idle = no_call b (sym tested) none

    made_is : first_of v.shared p + made_of v.shared.cells p ≡ l.begun
    made_is = sym (is.made p) ∙ begun_is

    pub name : named v.shared mine ≡ Of p l.begun
    name = ap (named v.shared) mine_is ∙ name_from-index_of (processes_of v.shared.cells) (first_of v.shared) p (made_of v.shared.cells p) inside ∙ ap (Of p) made_is

    pub wrote_begun : memory_of a' ≡ memory_with (memory_of v.shared) (InvOf (Of p l.begun)) (Invocation (Some i))
    wrote_begun = wrote ∙ ap (λ c. memory_with (memory_of v.shared) (InvOf (Of p c)) (Invocation (Some i))) made_is

    pub idle_now : (world_of now).call p ≡ None
    idle_now = no_call_now idle

    pub IsWorld-call : IsWorld object (begun_whole object v is p l here inside a' i mine name shape.0 shape.2 among among_is wrote_begun idle)
    IsWorld-call = IsWorld-begun object v is p l here inside a' i mine name shape.0 shape.2 among among_is wrote_begun idle shape.1 made free

    pub world_of-call : world_of (begun_whole object v is p l here inside a' i mine name shape.0 shape.2 among among_is wrote_begun idle) ≡ world_after_call (world_of now) p j
    world_of-call = world_of-begun object v is p l here inside a' i mine name shape.0 shape.2 among among_is wrote_begun idle
        ∙ ap (λ (x : WorldParts O S I R). world_after_call (world_of x) p i) view ∙ ap (world_after_call (world_of now) p) same

    pub Follows-call : IsSimulated object (world_of now) (Call p j)
    Follows-call a shows =
        let sound = subst (λ (x : WorldParts O S I R). IsWorld object x) view is in
        let accepted = call_accepted object (world_of now) sound.sound.0 sound.sound.1 sound.sound.2 p j (subst (λ (x : WorldParts O S I R). p < processes_of x.shared.cells) view inside) idle_now a shows in
        accepted

  -- the call that is pending is the latest that its process has begun
  pend : (call : Pending) → l.call ≡ Some call → (world_of v).call p ≡ Some (pending_of (named v.shared) call)
  pend call e = ap (call_at (named v.shared)) here ∙ ap (option_map (pending_of (named v.shared))) e

  pub few_enough : p < 64
  few_enough = let few = is.few in omega arith

  module _ (b : Bool) (tested : is_some l.call ≡ not b) (is_false : b ≡ false) where
    has_call : (o : Option Pending) → is_some o ≡ not b → (call : Pending) × (o ≡ Some call)
    has_call None e = absurd (let f : false ≡ true = e ∙ ap not is_false in cc)
    has_call (Some call) e = (call, refl)

    pub begun_one : 1 ≤ l.begun
    begun_one =
        let c = has_call l.call tested in
        let mine = is.sound.2.calls.mine p (pending_of (named v.shared) c.0) (pend c.0 c.1) in
        subst (λ k. 1 ≤ k) (sym mine.2 ∙ begun_is) (omega arith)

    pub current_now : Some (record { process = p; nth = l.begun - 1 }) ≡ current_of (world_of now) p
    current_now =
        let c = has_call l.call tested in
        subst (λ (x : WorldParts O S I R). Some (record { process = p; nth = l.begun - 1 }) ≡ current_of (world_of x) p) view
        (ap (λ k. Some (let id : CallId = record { process = p; nth = k - 1 } in id)) (sym begun_is)
        ∙ sym (ap (option_map (λ (c : PendingAt). let id : CallId = record { process = p; nth = (world_of v).begun p - 1 } in id)) (pend c.0 c.1)))

pub none_isn't_some : {A : Type 0} (o : Option A) → o ≡ None → IsSome o → ⊥
none_isn't_some None e h = let f : false ≡ true = h in cc
none_isn't_some (Some x) e h = cc
