-- Executions: seats that take word steps in any order, as plain data.
use Rattle.std.specs.Prelude.{◌≡◌, ◌≢◌, ℕ, ◌+◌, ◌<◌, ◌≤◌, ◌^◌, ◌==◌, List, [], ◌∷◌, ◌++◌}
use Rattle.std.specs.Prelude.{None, Some, if◌then◌else◌, slice_index}
use mathlib.Core.Option.{some}
use lib.ListN.{get_elem?}
use Rattle.atomic_table.specs.Table.{State, opening}
use Rattle.seq_object.specs.Sequential.{Sequential}
use Rattle.seq_object.specs.declared.call_id.CallId.{CallId}
use Rattle.uni_model.specs.Indices.{name_of}
use Rattle.uni_model.specs.Places.{Memory, Name, Place}
use Rattle.uni_model.specs.Places.Name.{Of}
use Rattle.uni_model.specs.Places.Place.{HeadOf, InvOf, NewOf, SeqOf}
use Rattle.uni_model.specs.Stages.{Pending, Stage}
use Rattle.uni_model.specs.Stages.Stage.{DecideNew, Finish}
use Rattle.uni_model.specs.Transition.{content_after, place_of}
use Rattle.uni_model.specs.Worlds.{Event}
use Rattle.uni_model.specs.Worlds.Event.{Call, Step}
use Rattle.uni_words.specs.Laws.{HasSeat, after_join, after_split, after_word, deciding, ending}
use Rattle.uni_words.specs.Seats.{first_view}
use Rattle.uni_words.specs.View.{Known, asked_of, begun_by, finished_by, looked_at, moved_at}
use Rattle.uni_words.specs.View.Reading.{Applied, Invocation, Nothing, Reply}
use Rattle.uni_words.specs.Words.{content_of, first_words, reply_in, settled_word, state_in, word_of}
use Rattle.uni_words.specs.declared.view.View.{View}

-- What a step does to the word of one place. By what is found there: what the word becomes, and what the seat knows
-- then. And which events of the construction the step is: one; or none where it is a question about a call (`Ask`), or
-- a load of a settled word before the step that goes by it (`LookInv`, `LookNew`, `LookReply`). `LoadEnd`, the load
-- that ends a call, is one.
pub record Access : Type 0 where
  pub place : Place
  pub becomes : (found : ℕ) → ℕ
  pub leaves : (found : ℕ) → Known
  pub events : List (Event ℕ)

-- one that stores a word, whatever it finds, and one that leaves the word as it finds it
abbrev pub stores : Place → ℕ → Known → List (Event ℕ) → Access
stores place word after events =
    record { place = place; becomes = λ found. word; leaves = λ found. after; events = events }

abbrev pub loads : Place → (ℕ → Known) → List (Event ℕ) → Access
loads place after events = record { place = place; becomes = λ found. found; leaves = after; events = events }

-- the steps of the construction that go by what is in their place: all but the one that settles a state, and the last
-- one of a call
abbrev pub IsPlain : Stage → Type 0
IsPlain (DecideNew c c_seq d) = ⊥
IsPlain (Finish c_seq mine_seq) = ⊥
IsPlain stage = Unit {0}

module _ (object : Sequential ℕ ℕ ℕ) (n row : ℕ) where
  -- the word of the place becomes one that reads as what the step of the construction leaves there, whatever other
  -- places have
  abbrev pub Leaves : (p : ℕ) → Pending → (becomes : ℕ → ℕ) → Type 0
  Leaves p c becomes =
      let place = place_of n p c.mine c.stage in
      (found : ℕ) (others : Memory ℕ ℕ ℕ)
      → content_of n place (becomes found) ≡ content_after object c.mine c.stage (content_of n place found) others

  -- The steps that a seat of one process can take next, by what it knows.
  pub data Next (v : Known) : Type 0 where
    -- between calls: the invocation of the next call, of 64 bits, is stored; it is asked about a call
    Begin : (inv : ℕ) → inv < 2 ^ 64 → v.its.call ≡ None → v.its.begun < row → Next v
    Ask : (call : CallId) → v.its.call ≡ None → Next v
    -- in a call: a step of the construction at its place, which leaves any word that reads as what the construction
    -- leaves there; so an execution may do more than the code does
    Move : (c : Pending) (becomes : ℕ → ℕ) → v.its.call ≡ Some c → IsPlain c.stage → Leaves v.first c becomes → Next v
    -- a state is settled: the invocation is loaded, then the state before it, and the state and the reply are proposed
    LookInv : (mine c d : Name) (c_seq : ℕ) → v.its.call ≡ Some (deciding mine c d c_seq)
        → v.its.read ≡ Nothing → Next v
    LookNew : (mine c d : Name) (c_seq inv : ℕ) → v.its.call ≡ Some (deciding mine c d c_seq)
        → v.its.read ≡ Invocation inv → Next v
    Decide : (mine c d : Name) (c_seq inv state : ℕ) → v.its.call ≡ Some (deciding mine c d c_seq)
        → v.its.read ≡ Applied inv state → Next v
    -- a call ends: where the head moves, the reply is loaded and then the head stored; else the load of the reply is
    -- the last step
    LookReply : (mine : Name) (c_seq mine_seq : ℕ) → v.its.call ≡ Some (ending mine c_seq mine_seq)
        → c_seq < mine_seq → v.its.read ≡ Nothing → Next v
    StoreEnd : (mine : Name) (c_seq mine_seq reply x : ℕ) → v.its.call ≡ Some (ending mine c_seq mine_seq)
        → c_seq < mine_seq → v.its.read ≡ Reply reply → name_of n x ≡ mine → Next v
    LoadEnd : (mine : Name) (c_seq mine_seq : ℕ) → v.its.call ≡ Some (ending mine c_seq mine_seq)
        → mine_seq ≤ c_seq → v.its.read ≡ Nothing → Next v

  -- what such a step does
  abbrev pub access_of : (v : Known) → Next v → Access
  access_of v (Begin inv narrow idle room) =
      stores (InvOf (Of v.first v.its.begun)) inv (begun_by v inv) (Call v.first inv ∷ [])
  access_of v (Ask call idle) = loads (SeqOf (Of call.process call.nth)) (λ found. asked_of v call found) []
  access_of v (Move c becomes pending plain leaves) = record {
    place = place_of n v.first c.mine c.stage;
    becomes = becomes;
    leaves = λ found. moved_at v c found;
    events = Step v.first ∷ [];
  }
  access_of v (LookInv mine c d c_seq pending fresh) = loads (InvOf d) (λ found. looked_at v (Invocation found)) []
  access_of v (LookNew mine c d c_seq inv pending read) =
      loads (NewOf c) (λ found. looked_at v (Applied inv (state_in found))) []
  access_of v (Decide mine c d c_seq inv state pending read) = record {
    place = NewOf d;
    becomes = λ found. if found == 0 then settled_word (object.next state inv) (object.answer state inv) else found;
    leaves = λ found. moved_at v (deciding mine c d c_seq) found;
    events = Step v.first ∷ [];
  }
  access_of v (LookReply mine c_seq mine_seq pending later fresh) =
      loads (NewOf mine) (λ found. looked_at v (Reply (reply_in found))) []
  access_of v (StoreEnd mine c_seq mine_seq reply x pending later read named) =
      stores (HeadOf v.first) x (finished_by v 1 reply) (Step v.first ∷ [])
  access_of v (LoadEnd mine c_seq mine_seq pending there fresh) =
      loads (NewOf mine) (λ found. finished_by v 0 (reply_in found)) (Step v.first ∷ [])

  -- the table after a seat has taken an access to this word
  abbrev pub after_access : State ℕ View → (id : ℕ) → (word : ℕ) → Access → State ℕ View
  after_access s id word a =
      let found = slice_index s.words word in after_word s word (a.becomes found) id (a.leaves found)

  -- An execution from a table on: again and again some seat of one process takes a step that it can take; or a seat is
  -- cut in two, its first process apart from its others, of which there may be none; or a seat takes in another one,
  -- where neither has a call pending.
  pub data Execution : State ℕ View → Type 0 where
    Ends : {s : State ℕ View} → Execution s
    Takes : {s : State ℕ View} (id : ℕ) (v : Known) → HasSeat s id v
        → (next : Next v) (word : ℕ) → word_of n row (access_of v next).place ≡ Some word
        → Execution (after_access s id word (access_of v next)) → Execution s
    Splits : {s : State ℕ View} (id : ℕ) (v : View) → get_elem? s.views id ≡ some v → 1 ≤ v.known.count
        → Execution (after_split s id v) → Execution s
    Joins : {s : State ℕ View} (id : ℕ) (v : View) (other : ℕ) (x : View)
        → get_elem? s.views id ≡ some v → get_elem? s.views other ≡ some x
        → other ≢ id → 1 ≤ v.known.count → v.known.its.call ≡ None → x.known.count ≡ 1 → x.known.its.call ≡ None
        → Execution (after_join s id v other x) → Execution s

  -- the events of its steps, in the order of the steps
  abbrev pub events : {s : State ℕ View} → Execution s → List (Event ℕ)
  events Ends = []
  events (Takes id v seat next word there rest) = (access_of v next).events ++ events rest
  events (Splits id v at some_left rest) = events rest
  events (Joins id v other x at there apart some_left idle single its_idle rest) = events rest

  -- the table at its end
  abbrev pub last_state : {s : State ℕ View} → Execution s → State ℕ View
  last_state {s = s} Ends = s
  last_state (Takes id v seat next word there rest) = last_state rest
  last_state (Splits id v at some_left rest) = last_state rest
  last_state (Joins id v other x at there apart some_left idle single its_idle rest) = last_state rest

  -- one that goes on
  abbrev pub goes_on : {s : State ℕ View} (e : Execution s) → Execution (last_state e) → Execution s
  goes_on Ends more = more
  goes_on (Takes id v seat next word there rest) more = Takes id v seat next word there (goes_on rest more)
  goes_on (Splits id v at some_left rest) more = Splits id v at some_left (goes_on rest more)
  goes_on (Joins id v other x at there apart some_left idle single its_idle rest) more =
      Joins id v other x at there apart some_left idle single its_idle (goes_on rest more)

  -- the opening: the anchor alone, and one seat, which has all processes
  abbrev pub opened_table : State ℕ View
  opened_table = opening (first_words n row object.initial) [] (first_view n row)

  -- the word steps of a process for its latest call, with this step; to ask about a call is no step of one
  abbrev pub counted : {v : Known} → Next v → (taken : ℕ) → ℕ
  counted (Begin inv narrow idle room) taken = 1
  counted (Ask call idle) taken = taken
  counted next taken = taken + 1

  -- how many word steps process p has taken for its latest call at the end, where it had taken so many before
  abbrev pub steps_of_call : (p taken : ℕ) {s : State ℕ View} → Execution s → ℕ
  steps_of_call p taken Ends = taken
  steps_of_call p taken (Takes id v seat next word there rest) =
      steps_of_call p (if p == v.first then counted next taken else taken) rest
  steps_of_call p taken (Splits id v at some_left rest) = steps_of_call p taken rest
  steps_of_call p taken (Joins id v other x at there apart some_left idle single its_idle rest) =
      steps_of_call p taken rest
