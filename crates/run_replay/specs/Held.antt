-- What the places of a memory hold, as text; what a step proposes for its place and changes there; and the whole memory.
use Rattle.std.specs.Prelude.{◌≡◌, ℕ, if◌then◌else◌, List, [], ◌∷◌, ◌++◌, Option, Some, None, codes, refl, ◌-◌, ◌<◌, ◌==◌, not, Bool, true, false, option_and_then, map}
use Rattle.std.specs.Fmt.{decimal, digits}
use Rattle.std.specs.Str.{bytes_eq}
use Rattle.run_replay.specs.Vocabulary.{AfterOf, Anchor, Announce, Announced, BeforeOf, Call, CallId, Content, DecideAfter, DecideNew, HeadOf, InvOf, Invocation, Language, Link, Memory, Name, NewOf, Of, Pending, Place, SeqOf, Sequential, Settled, Stage, Step, StepKind, WorldOf, after_of, anchor_memory, announce_of, before_of, call_of_name, calls_in_era, flat_map, head_of, head_seq, inv_of, kind_of, memory_with, name_in, new_of, opened_world, option_map_or, place_named, place_of, proposed_at, range_with_len, seq_of, text_of_words, value_after, world_after}
use Rattle.uni_core.specs.declared.stage.StepKind.TheVariants as kinds
use Rattle.run_replay.specs.declared.scenes.Coming.{Coming}

-- a named field of the memory, and the text of what it holds
pub record Field : Type 0 where
  pub name : List ℕ
  pub text : List ℕ

-- what a place holds: one field, and beside a state the response that is settled with it
pub record Held : Type 0 where
  pub field : Field
  pub reply : Option Field

-- a field that has changed
pub record Change : Type 0 where
  pub name : List ℕ
  pub before : List ℕ
  pub after : List ℕ

-- the text of a cell's name: that of the call that it was made for, or `anchor`
abbrev pub cell_text : Option CallId → List ℕ
cell_text None = codes "anchor"
cell_text (Some call) = decimal call.process ++ codes "." ++ decimal call.nth

-- the text of a link to a cell, where there is one
abbrev pub link_text : Option Name → List ℕ
link_text None = codes "?"
link_text (Some x) = cell_text (call_of_name x)

-- the name of a process's entry of an array
abbrev pub entry_name : (array : List ℕ) → (process : ℕ) → List ℕ
entry_name array process = array ++ codes "[" ++ decimal process ++ codes "]"

-- the name of a field of a cell
abbrev pub field_name : Option CallId → (field : List ℕ) → List ℕ
field_name cell field = cell_text cell ++ codes "." ++ field

-- a field without another beside it
abbrev pub alone : (name text : List ℕ) → Held
alone name text = record { field = record { name = name; text = text }; reply = None }

-- the text of a state that may be settled
abbrev pub state_text : {S R : Type 0} → (S → List ℕ) → Option (S × Option R) → List ℕ
state_text text None = codes "?"
state_text text (Some new) = text new.0

-- the text of a response that may be settled; the anchor's state has none
abbrev pub reply_text : {S I R : Type 0} → Language I R → Option (S × Option R) → List ℕ
reply_text l None = codes "?"
reply_text l (Some new) = option_map_or l.resp_text new.1 (codes "none")

-- what a place holds, where invocations and responses have these words and states these texts
abbrev pub held : {S I R : Type 0} → Language I R → (S → List ℕ) → Memory S I R → Place → Held
held l text m (Announced p) = alone (entry_name (codes "announce") p) (cell_text (call_of_name (announce_of m p)))
held l text m (HeadOf p) = alone (entry_name (codes "head") p) (cell_text (call_of_name (head_of m p)))
held l text m (InvOf x) =
    alone (field_name (call_of_name x) (codes "inv")) (option_map_or (λ i. text_of_words (l.inv_words i)) (inv_of m x) (codes "?"))
held l text m (SeqOf x) = alone (field_name (call_of_name x) (codes "seq")) (decimal (seq_of m x))
held l text m (AfterOf x) = alone (field_name (call_of_name x) (codes "after")) (link_text (after_of m x))
held l text m (BeforeOf x) = alone (field_name (call_of_name x) (codes "before")) (link_text (before_of m x))
held l text m (NewOf x) =
    record {
      field = record { name = field_name (call_of_name x) (codes "state"); text = state_text text (new_of m x) };
      reply = Some (record { name = field_name (call_of_name x) (codes "reply"); text = reply_text l (new_of m x) });
    }

-- the change of a field, if there is one
abbrev pub change_of : (before after : Field) → List Change
change_of b a = if bytes_eq b.text a.text then [] else record { name = a.name; before = b.text; after = a.text } ∷ []

-- that of a reply
abbrev pub replies_changed : (before after : Option Field) → List Change
replies_changed (Some b) (Some a) = change_of b a
replies_changed _ _ = []

-- the fields of a place that have changed
abbrev pub changes_between : (before after : Held) → List Change
changes_between b a = change_of b.field a.field ++ replies_changed b.reply a.reply

-- a proposal that lost changes nothing; one that won changes the field
lost_proposal : changes_between (alone (codes "anchor.after") (codes "0.0")) (alone (codes "anchor.after") (codes "0.0")) ≡ []
lost_proposal = refl

won_proposal : changes_between (alone (codes "anchor.after") (codes "?")) (alone (codes "anchor.after") (codes "0.0"))
    ≡ record { name = codes "anchor.after"; before = codes "?"; after = codes "0.0" } ∷ []
won_proposal = refl

-- What the worked rows of these definitions are about.

-- an object that keeps the last number and answers the one before, from 9
abbrev pub sample : Sequential ℕ ℕ ℕ
sample = record { initial = 9; next = λ s i. i; answer = λ s i. s }

-- its words: each number is a byte
abbrev pub sample_language : Language ℕ ℕ
sample_language =
    record { inv_words = λ i. (i ∷ []) ∷ []; inv_of_words = λ words. None; resp_text = λ r. r ∷ []; inv_of_word = λ w. w }

-- an anchor with the state 9 and the number 4: heads name it, and no cell is linked after it until one is
abbrev pub sample_memory : Memory ℕ ℕ ℕ
sample_memory = anchor_memory 9 4

-- The step that comes next, and whether it changes what its one place contains.

-- 1 where something is there
abbrev pub presence : {A : Type 0} → Option A → ℕ
presence found = option_map_or (λ _. 1) found 0

-- What tells the contents of a place apart, one after the other: the number of a cell, or of the cell that a head names, and
-- whether a cell is linked or a state is settled, which stays. An announced cell isn't told.
abbrev pub standing_at : {S I R : Type 0} → Memory S I R → Place → ℕ
standing_at m (HeadOf p) = head_seq m p
standing_at m (SeqOf x) = seq_of m x
standing_at m (AfterOf x) = presence (after_of m x)
standing_at m (NewOf x) = presence (new_of m x)
standing_at m (BeforeOf x) = presence (before_of m x)
standing_at m _ = 0

-- whether a step of this kind has changed a place that stood so before it, and stands so after it; one that announces a cell
-- always has, since that is a new one
abbrev pub has_changed : StepKind → (before after : ℕ) → Bool
has_changed kinds.Announce before after = true
has_changed _ before after = not (before == after)

-- whether the next step of process p, whose call is pending, changes its place
abbrev pub changes_place : {S I R : Type 0} → Sequential S I R → WorldOf S I R → (p : ℕ) → Pending → Bool
changes_place object w p call =
    let place = place_of w.n p call.mine call.stage in
    has_changed (kind_of call.stage) (standing_at w.memory place) (standing_at (world_after object w (Step p)).memory place)

-- what the next step of process p is: that of a pending call, by its kind, its place and the call whose cell it proposes
pub record IsComing {S I R : Type 0} (w : WorldOf S I R) (p : ℕ) (coming : Coming) : Type 0 where
  pub within : p < w.n
  pub pending : Pending
  pub is : w.call p ≡ Some pending
  pub call : coming.call ≡ record { process = p; nth = w.begun p - 1 }
  pub kind : coming.kind ≡ kind_of pending.stage
  pub place : place_named (name_in w) coming.place ≡ place_of w.n p pending.mine pending.stage
  pub proposed : coming.proposed ≡ option_and_then call_of_name (proposed_at pending.stage)

standing_of_head : standing_at sample_memory (HeadOf 2) ≡ 4
standing_of_head = refl

standing_of_unlinked : standing_at sample_memory (AfterOf Anchor) ≡ 0
standing_of_unlinked = refl

standing_of_linked : standing_at (memory_with sample_memory (AfterOf Anchor) (Link (Some (Of 1 0)))) (AfterOf Anchor) ≡ 1
standing_of_linked = refl

-- a proposal that lost
lost_has_changed_nothing : has_changed kinds.DecideAfter 1 1 ≡ false
lost_has_changed_nothing = refl

-- What steps propose.

-- what the step of a stage proposes for its place; of two proposals the first stands
abbrev pub proposal_of : {S I R : Type 0} → Sequential S I R → Stage → Memory S I R → Option (Content S I R)
proposal_of object (DecideAfter c c_seq prefer) m = Some (Link (Some prefer))
proposal_of object (DecideNew c c_seq d) m = Some (Settled (value_after object (new_of m c) (inv_of m d)))
proposal_of object _ m = None

-- the same as text, by what the process prefers and by what its place holds after the step: all propose one state and one response
abbrev pub proposal_told : StepKind → (prefer : Option CallId) → (after : Held) → Option Held
proposal_told kinds.DecideAfter prefer after = Some (alone after.field.name (cell_text prefer))
proposal_told kinds.DecideNew prefer after = Some after
proposal_told _ prefer after = None

-- a process that would help 1.0 proposes it after the anchor; one that announces proposes nothing
proposes_link : (m : Memory ℕ ℕ ℕ) → proposal_of sample (DecideAfter Anchor 1 (Of 1 0)) m ≡ Some (Link (Some (Of 1 0)))
proposes_link m = refl

-- after the state 9 it proposes for a cell that asks for 7 the state 7 and the response 9
proposes_state : proposal_of sample (DecideNew Anchor 4 (Of 1 0))
    (memory_with sample_memory (InvOf (Of 1 0)) (Invocation (Some 7))) ≡ Some (Settled (Some (7, Some 9)))
proposes_state = refl

proposes_nothing : (m : Memory ℕ ℕ ℕ) → proposal_of sample Announce m ≡ None
proposes_nothing m = refl

-- the place has 0.0 already, so that this proposal lost
told_of_loser : proposal_told kinds.DecideAfter (Some (record { process = 1; nth = 0 })) (alone (codes "anchor.after") (codes "0.0"))
    ≡ Some (alone (codes "anchor.after") (codes "1.0"))
unfolding digits
told_of_loser = refl

-- The whole memory of a world, as text.

-- the places of a cell
abbrev pub fields_of : Name → List Place
fields_of x = InvOf x ∷ SeqOf x ∷ AfterOf x ∷ BeforeOf x ∷ NewOf x ∷ []

-- the cells that a process has made in the present era, and those of all below n
abbrev pub cells_of : {S I R : Type 0} → WorldOf S I R → (p : ℕ) → List Name
cells_of w p = map (Of p) (range_with_len (w.first p) (calls_in_era w p))

abbrev pub cells_below : {S I R : Type 0} → WorldOf S I R → (n : ℕ) → List Name
cells_below w n = flat_map (cells_of w) (range_with_len 0 n)

-- all places of a world: the entries of announce and head, and those of the anchor and of each cell
abbrev pub places_of : {S I R : Type 0} → WorldOf S I R → List Place
places_of w =
    map Announced (range_with_len 0 w.n) ++ map HeadOf (range_with_len 0 w.n) ++ flat_map fields_of (Anchor ∷ cells_below w w.n)

-- what all places hold
abbrev pub whole_memory : {S I R : Type 0} → Language I R → (S → List ℕ) → WorldOf S I R → List Held
whole_memory l text w = map (held l text w.memory) (places_of w)

-- a process that has called, before its first step: its cell is made, and asks for A; the anchor asks for nothing
abbrev settled : (cell state reply : List ℕ) → Held
settled cell state reply =
    record {
      field = record { name = cell ++ codes ".state"; text = state };
      reply = Some (record { name = cell ++ codes ".reply"; text = reply });
    }

whole_memory_of_a_call : whole_memory sample_language (λ s. s ∷ []) (world_after sample (opened_world 1 57 4) (Call 0 65))
    ≡ alone (codes "announce[0]") (codes "anchor") ∷ alone (codes "head[0]") (codes "anchor")
    ∷ alone (codes "anchor.inv") (codes "?") ∷ alone (codes "anchor.seq") (codes "4") ∷ alone (codes "anchor.after") (codes "?")
    ∷ alone (codes "anchor.before") (codes "?") ∷ settled (codes "anchor") (codes "9") (codes "none")
    ∷ alone (codes "0.0.inv") (codes "A") ∷ alone (codes "0.0.seq") (codes "0") ∷ alone (codes "0.0.after") (codes "?")
    ∷ alone (codes "0.0.before") (codes "?") ∷ settled (codes "0.0") (codes "?") (codes "?") ∷ []
unfolding digits
whole_memory_of_a_call = refl
