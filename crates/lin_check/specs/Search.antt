-- What the search knows at a node, and what it says of one.
use Rattle.std.specs.Prelude.{◌≡◌, ℕ, ◌-◌, ◌<◌, ◌≤◌, if◌then◌else◌, List, [], ◌∷◌, ◌++◌, Option, Some, None, IfSome, Contains}
use Rattle.std.specs.Prelude.{length, drop, slice_get, slice_set, slice_index_or, slice_index, nat_lt, ◌⊎◌}
use Rattle.seq_object.specs.Sequential.{Sequential}
use Rattle.seq_object.specs.History.{response_at}
use Rattle.uni_model.specs.AtomicObject.{Act, Atomic, Invoked, AcceptsAll, at_start}
use Rattle.uni_model.specs.AtomicObject.Act.{Invoke}
use Rattle.uni_model.specs.Linearizable.{observed, IsLinearizableHistory}
use Rattle.uni_model.proofs.Completed.{Idle as Free, Waiting, Done as Finished, invs, state_of}
use Rattle.lin_check.specs.declared.event.Event.{Event}
use Rattle.lin_check.specs.declared.event.Event.TheVariants.{Call, Return}
use Rattle.lin_check.specs.declared.node.Slot.{Slot}
use Rattle.lin_check.specs.declared.node.Slot.TheVariants.{Idle, Open, Done}
use Rattle.lin_check.specs.declared.node.Node.{Node}
use Rattle.lin_check.specs.declared.node.Frame.{Frame}
use Rattle.lin_check.specs.declared.passing.Passing.{Passing}
use Rattle.lin_check.specs.declared.passing.Passing.TheVariants.{Passed, Stops, Dead}
use Rattle.lin_check.specs.Histories.{acts_of, next_return, numbered, process_of, replies_of}
use Rattle.lin_check.specs.Verdicts.{AreAt}

-- where a process stands; one that is not listed is idle
abbrev pub slot_at : List Slot → ℕ → Slot
slot_at slots p = slice_index_or slots p Idle

-- what an event does to what is known
abbrev pub for_call : Slot → Passing
for_call Idle = Passed
for_call (Open c) = Dead
for_call Done = Dead

abbrev pub for_return : Slot → Passing
for_return Idle = Dead
for_return (Open c) = Stops
for_return Done = Passed

abbrev pub passing_of : {I R : Type 0} → Event I R → List Slot → Passing
passing_of (Call p i) slots = for_call (slot_at slots p)
passing_of (Return p r) slots = for_return (slot_at slots p)

abbrev pub slot_after : {I R : Type 0} → ℕ → Event I R → Slot
slot_after at (Call p i) = Open at
slot_after at (Return p r) = Idle

abbrev pub slots_if : {I R : Type 0} → ℕ → Event I R → List Slot → Passing → List Slot
slots_if at event slots Passed = slice_set slots (process_of event) (slot_after at event)
slots_if at event slots Stops = slots
slots_if at event slots Dead = slots

abbrev pub slots_after : {I R : Type 0} → ℕ → Event I R → List Slot → List Slot
slots_after at event slots = slots_if at event slots (passing_of event slots)

-- the event at this place is the return of a call that has not taken effect
pub record IsChoice {I R : Type 0} (history : List (Event I R)) (at : ℕ) (slots : List Slot) : Type 0 where
  pub process : ℕ
  pub response : R
  pub call : ℕ
  pub here : slice_get history at ≡ Some (Return process response)
  pub is_open : slot_at slots process ≡ Open call

-- the nodes are the same, wherever they lie in memory
pub record IsSameNode {S : Type 0} (a b : Node S) : Type 0 where
  pub at : a.at ≡ b.at
  pub slots : a.slots.items ≡ b.slots.items
  pub state : a.state ≡ b.state

-- the one at this place is the same
abbrev pub IsNodeAt : {S : Type 0} → List (Node S) → ℕ → Node S → Type 0
IsNodeAt nodes k node = IfSome (slice_get nodes k) (λ other. IsSameNode other node)

abbrev pub IsReady : {I R S : Type 0} → List (Event I R) → Node S → Type 0
IsReady history node = (node.at ≡ length history) ⊎ IsChoice history node.at node.slots.items

-- the candidates of a node: some processes that are tried first, and then each process
abbrev pub candidate : List ℕ → ℕ → ℕ
candidate order place = if nat_lt place (length order) then slice_index order place else place - length order

module _ {S I R : Type 0} (object : Sequential S I R) (history : List (Event I R)) where
  -- a process of the atomic object stands where the slot says, before the events from this place on
  abbrev pub SlotStands : Atomic S I → (at p : ℕ) → Slot → Type 0
  SlotStands a at p Idle = Free p a
  SlotStands a at p (Open c) = (call : Invoked I) × Waiting p a call × (slice_get history c ≡ Some (Call p call.inv))
      × (slice_get (replies_of history) c ≡ Some (next_return p (drop at history)))
      × (slice_get (acts_of history) c ≡ Some (Invoke p call.nth call.inv))
  SlotStands a at p Done = (call : Invoked I) × (place : ℕ) × Finished p a call place
      × IfSome (next_return p (drop at history)) (λ r. response_at object a.start (invs object a.agreed) place ≡ Some r)

  -- the atomic object is where the node says
  pub record Stands (a : Atomic S I) (at : ℕ) (slots : List Slot) (state : S) : Type 0 where
    pub same_state : state_of object a ≡ state
    pub left : drop at (acts_of history) ≡ numbered a.next_nth (drop at history)
    pub each : (p : ℕ) → SlotStands a at p (slot_at slots p)

  -- from a the atomic object can take acts that show what is left of the history
  pub record Goes (a : Atomic S I) (at : ℕ) : Type 0 where
    pub end : Atomic S I
    pub acts : List (Act I R)
    pub accepted : AcceptsAll object a acts end
    pub shown : observed acts ≡ numbered a.next_nth (drop at history)

  -- what is asked of the calls that take effect from here on: nothing, or that they are those at these places
  abbrev pub AreNext : Option (List ℕ) → (before after : List (Invoked I)) → Type 0
  AreNext None before after = Unit {0}
  AreNext (Some places) before after = (calls : List (Invoked I)) × (after ≡ before ++ calls) × AreAt history places calls

  -- nothing comes of this node with what is asked
  pub record FailsFor (asked : Option (List ℕ)) (at : ℕ) (slots : List Slot) (state : S) : Type 0 where
    pub none : (a : Atomic S I) → Stands a at slots state → (goes : Goes a at) → ¬ (AreNext asked a.agreed goes.end.agreed)

  -- nothing comes of this node
  abbrev pub Fails : (at : ℕ) → (slots : List Slot) → (state : S) → Type 0
  Fails at slots state = FailsFor None at slots state

  abbrev pub IsDead : Node S → Type 0
  IsDead node = (asked : Option (List ℕ)) → FailsFor asked node.at node.slots.items node.state

  abbrev pub FailsAt : Node S → Type 0
  FailsAt node = Fails node.at node.slots.items node.state

  -- nothing comes of it where the call of process q takes effect next
  pub record FailsWith (at : ℕ) (slots : List Slot) (state : S) (q : ℕ) : Type 0 where
    pub none : (a : Atomic S I) (c : Invoked I) → Stands a at slots state → c.process ≡ q → a.open_call c.process ≡ Some c → ¬ (Contains a.agreed c)
        → ¬ (Goes (record a { agreed = a.agreed ++ c ∷ [] }) at)

  abbrev pub IsFailing : Node S → ℕ → Type 0
  IsFailing node q = FailsWith node.at node.slots.items node.state q

  -- from the start the atomic object comes to this node, where the calls take effect in this order
  pub record Reached (at : ℕ) (slots : List Slot) (state : S) (order : List ℕ) : Type 0 where
    pub object_then : Atomic S I
    pub acts : List (Act I R)
    pub accepted : AcceptsAll object (at_start object.initial) acts object_then
    pub shown : acts_of history ≡ observed acts ++ numbered object_then.next_nth (drop at history)
    pub stands : Stands object_then at slots state
    pub agreed : AreAt history order object_then.agreed

  abbrev pub IsReached : Node S → List ℕ → Type 0
  IsReached node order = Reached node.at node.slots.items node.state order

  -- events passed that leave no choice
  pub record Passes (before after : Node S) : Type 0 where
    pub fails : (asked : Option (List ℕ)) → FailsFor asked after.at after.slots.items after.state → FailsFor asked before.at before.slots.items before.state
    pub reached : (order : List ℕ) → IsReached before order → IsReached after order

  -- where the call of process q takes effect, the event at this place, the search comes to the child
  pub record Leads (node : Node S) (q call : ℕ) (child : Node S) : Type 0 where
    pub fails : FailsAt child → IsFailing node q
    pub reached : (order : List ℕ) → IsReached node order → IsReached child (order ++ call ∷ [])
    pub ready : IsReady history child
    pub many : length child.slots.items ≡ length node.slots.items
    pub within : child.at ≤ length history

  -- nothing comes of it where the call at this place takes effect next and those that are asked for after it
  abbrev pub IsNoNext : Node S → ℕ → Type 0
  IsNoNext node place = (places : List ℕ) → FailsFor (Some (place ∷ places)) node.at node.slots.items node.state

  -- where the call at this place takes effect next, the search comes to this node
  pub record Follows (node : Node S) (place : ℕ) (next : Node S) : Type 0 where
    pub fails : (places : List ℕ) → FailsFor (Some places) next.at next.slots.items next.state
        → FailsFor (Some (place ∷ places)) node.at node.slots.items node.state
    pub reached : (order : List ℕ) → IsReached node order → IsReached next (order ++ place ∷ [])
    pub ready : IsReady history next
    pub many : length next.slots.items ≡ length node.slots.items

  -- nothing comes of the first candidates of a node
  pub record AreTried (node : Node S) (order : List ℕ) (count : ℕ) : Type 0 where
    pub each : (i : ℕ) → i < count → IsFailing node (candidate order i)

  -- where nothing comes of the child, so many candidates of the node are tried
  pub record Finds (node : Node S) (order : List ℕ) (next call : ℕ) (child : Node S) : Type 0 where
    pub fails : FailsAt child → AreTried node order next
    pub reached : (order : List ℕ) → IsReached node order → IsReached child (order ++ call ∷ [])
    pub ready : IsReady history child
    pub many : length child.slots.items ≡ length node.slots.items

  -- the calls along a path, its frames from the last to the first
  abbrev pub path : List (Frame S) → List ℕ
  path [] = []
  path (f ∷ fs) = path fs ++ f.call ∷ []

  -- a frame whose child is this node
  pub record Holds (n : ℕ) (f : Frame S) (fs : List (Frame S)) (node : Node S) : Type 0 where
    pub choice : IsChoice history f.node.at f.node.slots.items
    pub many : length f.node.slots.items ≡ n
    pub leads : FailsAt node → AreTried f.node f.order.items f.next
    pub reached : IsReached f.node (path fs)

  -- the frames below a node, from the last to the first
  abbrev pub IsStack : ℕ → List (Frame S) → Node S → Type 0
  IsStack n [] node = FailsAt node → ¬ (IsLinearizableHistory object object.initial (acts_of history))
  IsStack n (f ∷ fs) node = Holds n f fs node × IsStack n fs f.node
