-- The laws of the word steps: each is an event, by which the world that is shown and the run to it go on, or leaves
-- both as they were.
use Rattle.std.specs.Prelude.{◌≡◌, ◌≢◌, ℕ, ◌<◌, ◌≤◌, ◌^◌, List, [], ◌∷◌, ◌++◌, Option, Some, None}
use Rattle.std.specs.Prelude.{slice_get, slice_index, slice_set}
use mathlib.Core.Option.{some}
use lib.ListN.{get_elem?}
use Rattle.atomic_table.specs.Table.{State, opening}
use Rattle.seq_object.specs.Sequential.{Sequential}
use Rattle.seq_object.specs.declared.call_id.CallId.{CallId}
use Rattle.uni_model.specs.Eras.{HasReturned}
use Rattle.uni_model.specs.Indices.{name_of}
use Rattle.uni_model.specs.Places.{Name, seq_of, new_of}
use Rattle.uni_model.specs.Places.Name.{Of}
use Rattle.uni_model.specs.Places.Place.{InvOf, NewOf, HeadOf, SeqOf}
use Rattle.uni_model.specs.Stages.{Stage, Pending}
use Rattle.uni_model.specs.Stages.Stage.{DecideNew, Finish}
use Rattle.uni_model.specs.Transition.{place_of}
use Rattle.uni_model.specs.Worlds.{WorldOf, Event, world_after}
use Rattle.uni_model.specs.Effects.{effect_in}
use Rattle.uni_model.specs.Worlds.Event.{Call, Step}
use Rattle.uni_words.specs.Run.{opened}
use Rattle.uni_words.specs.Seats.{first_alone, first_view, nobody, others, took_in}
use Rattle.uni_words.specs.Shown.{IsShown, LeadsTo}
use Rattle.uni_words.specs.View.{Known, Reading, asked_of, stage_found, begun_by, moved_at, looked_at, finished_by}
use Rattle.uni_words.specs.View.Reading.{Invocation, Applied, Reply}
use Rattle.uni_words.specs.Words.{first_words, content_of, word_of, state_in, reply_in}
use Rattle.uni_words.specs.declared.view.View.{View}

-- the seat id is that of one process, and has this view
abbrev pub HasSeat : State ℕ View → (id : ℕ) → Known → Type 0
HasSeat s id v = (get_elem? s.views id ≡ some (record { known = v })) × (v.count ≡ 1)

-- a call at the step that settles a state, and one at its last step
abbrev pub deciding : (mine c d : Name) → (c_seq : ℕ) → Pending
deciding mine c d c_seq = record { mine = mine; stage = DecideNew c c_seq d }

abbrev pub ending : (mine : Name) → (c_seq mine_seq : ℕ) → Pending
ending mine c_seq mine_seq = record { mine = mine; stage = Finish c_seq mine_seq }

-- the table after a word step: one word is x, and the seat that took the step has this view; no other word and no other
-- view has changed
abbrev pub after_word : State ℕ View → (word x id : ℕ) → Known → State ℕ View
after_word s word x id v =
    record s { words = slice_set s.words word x; views = slice_set s.views id (record { known = v }) }

-- a load of a settled word, for a call that stands at this stage: what the seat has read then
abbrev pub IsLoad : (n row : ℕ) → Known → (mine : Name) → Stage → (word found : ℕ) → Reading → Type 0
IsLoad n row v mine (DecideNew c c_seq d) word found (Invocation inv) =
    (word_of n row (InvOf d) ≡ Some word) × (inv ≡ found)
IsLoad n row v mine (DecideNew c c_seq d) word found (Applied inv state) =
    (word_of n row (NewOf c) ≡ Some word) × (v.its.read ≡ Invocation inv) × (state ≡ state_in found)
IsLoad n row v mine (Finish c_seq mine_seq) word found (Reply reply) =
    (word_of n row (NewOf mine) ≡ Some word) × (reply ≡ reply_in found)
IsLoad n row v mine stage word found read = ⊥

-- the table after a seat's first process has got a seat of its own, the last one; and after a seat has taken in
-- another one
abbrev pub after_split : State ℕ View → (id : ℕ) → View → State ℕ View
after_split s id v = record s { views = slice_set s.views id (others v) ++ first_alone v ∷ [] }

abbrev pub after_join : State ℕ View → (id : ℕ) → View → (other : ℕ) → View → State ℕ View
after_join s id v other x = record s { views = slice_set (slice_set s.views id (took_in v x)) other nobody }

-- The table that is made shows the opened world, to which a run with no events leads.
abbrev pub OpeningShows : (object : Sequential ℕ ℕ ℕ) (n row : ℕ) → Type 0
OpeningShows object n row =
    let s : State ℕ View = opening (first_words n row object.initial) [] (first_view n row) in
    object.initial < 2 ^ 31 → IsShown object row (opened object n) s × LeadsTo object n [] (opened object n) s.views

module _ (object : Sequential ℕ ℕ ℕ) (row : ℕ) (w : WorldOf ℕ ℕ ℕ) (s : State ℕ View) where
  -- The table s' shows the world w', and each run that led to w, with these events more, leads to w'.
  pub record Leads (more : List (Event ℕ)) (w' : WorldOf ℕ ℕ ℕ) (s' : State ℕ View) : Type 0 where
    pub shown : IsShown object row w' s'
    pub run : (n : ℕ) (events : List (Event ℕ))
        → LeadsTo object n events w s.views → LeadsTo object n (events ++ more) w' s'.views

  -- the table s' shows the world after this event
  abbrev pub LeadsBy : Event ℕ → State ℕ View → Type 0
  LeadsBy event s' = Leads (event ∷ []) (world_after object w event) s'

  -- a seat is cut in two, its first process apart from the others, if there are any
  abbrev pub SplitKeeps : (id : ℕ) → View → Type 0
  SplitKeeps id v =
      IsShown object row w s → get_elem? s.views id ≡ some v → 1 ≤ v.known.count → Leads [] w (after_split s id v)

  -- a seat takes in another one, of one process, and neither has a call pending
  abbrev pub JoinKeeps : (id : ℕ) → View → (other : ℕ) → View → Type 0
  JoinKeeps id v other x =
      IsShown object row w s → get_elem? s.views id ≡ some v → get_elem? s.views other ≡ some x → other ≢ id
      → 1 ≤ v.known.count → v.known.its.call ≡ None → x.known.count ≡ 1 → x.known.its.call ≡ None
      → Leads [] w (after_join s id v other x)

  -- a call that has returned, begun and not pending any more, has a number: the word that one loads to ask about it
  -- isn't 0
  abbrev pub ReturnedIsThere : (call : CallId) → (word : ℕ) → Type 0
  ReturnedIsThere call word =
      IsShown object row w s → HasReturned w call.process call.nth
      → word_of w.n row (SeqOf (Of call.process call.nth)) ≡ Some word
      → 1 ≤ slice_index s.words word

  module _ (id : ℕ) (v : Known) where
    -- the store of the invocation of the process's next call is the event that begins the call
    abbrev pub StoreBegins : (word inv : ℕ) → Type 0
    StoreBegins word inv =
        IsShown object row w s → HasSeat s id v → v.its.call ≡ None → v.its.begun < row
        → word_of w.n row (InvOf (Of v.first v.its.begun)) ≡ Some word
        → LeadsBy (Call v.first inv) (after_word s word inv id (begun_by v inv))

    -- A word step at the place of the stage where a call stands is the event Step, where the call goes on after it, and
    -- where it leaves in the word a number that reads as what the event leaves, and no state past 31 bits.
    abbrev pub WordStepMoves : Pending → (next : Stage) → (word x : ℕ) → Type 0
    WordStepMoves c next word x =
        IsShown object row w s → HasSeat s id v → v.its.call ≡ Some c
        → word_of w.n row (place_of w.n v.first c.mine c.stage) ≡ Some word
        → stage_found v.n v.first c.mine c.stage (slice_index s.words word) ≡ Some next
        → content_of w.n (place_of w.n v.first c.mine c.stage) x ≡ (effect_in object w v.first c).content
        → ((y : Name) (u : ℕ × Option ℕ)
        → new_of (world_after object w (Step v.first)).memory y ≡ Some u → u.0 < 2 ^ 31)
        → LeadsBy (Step v.first) (after_word s word x id (moved_at v c (slice_index s.words word)))

    -- where the process's head moves at the end of its call, the store of the head is the last Step
    abbrev pub StoreEnds : (mine : Name) → (c_seq mine_seq reply : ℕ) → (word x : ℕ) → Type 0
    StoreEnds mine c_seq mine_seq reply word x =
        IsShown object row w s → HasSeat s id v → v.its.call ≡ Some (ending mine c_seq mine_seq)
        → c_seq < mine_seq
        → v.its.read ≡ Reply reply → word_of w.n row (HeadOf v.first) ≡ Some word → name_of w.n x ≡ mine
        → LeadsBy (Step v.first) (after_word s word x id (finished_by v 1 reply))

    -- where the head stays, the load of the reply is the last Step
    abbrev pub LoadEnds : (mine : Name) → (c_seq mine_seq : ℕ) → (word : ℕ) → Type 0
    LoadEnds mine c_seq mine_seq word =
        let found = slice_index s.words word in
        IsShown object row w s → HasSeat s id v → v.its.call ≡ Some (ending mine c_seq mine_seq)
        → mine_seq ≤ c_seq
        → word_of w.n row (NewOf mine) ≡ Some word
        → LeadsBy (Step v.first) (after_word s word found id (finished_by v 0 (reply_in found)))

    -- each other load of a settled word leaves the world as it was
    abbrev pub LoadKeeps : Pending → (word : ℕ) → Reading → Type 0
    LoadKeeps c word read =
        let found = slice_index s.words word in
        IsShown object row w s → HasSeat s id v → v.its.call ≡ Some c → IsLoad w.n row v c.mine c.stage word found read
        → Leads [] w (after_word s word found id (looked_at v read))

    -- so does the load of the number of a call, by which a seat with no call pending asks about it
    abbrev pub AskKeeps : CallId → (word : ℕ) → Type 0
    AskKeeps call word =
        let found = slice_index s.words word in
        IsShown object row w s → HasSeat s id v → v.its.call ≡ None
        → word_of w.n row (SeqOf (Of call.process call.nth)) ≡ Some word
        → Leads [] w (after_word s word found id (asked_of v call found))

    -- the calls that a seat was given replies to have rising numbers
    abbrev pub OwnCallsRise : (j k : ℕ) (a b : ℕ × ℕ) → Type 0
    OwnCallsRise j k a b =
        IsShown object row w s → HasSeat s id v → j < k
        → slice_get v.its.own j ≡ Some a → slice_get v.its.own k ≡ Some b
        → seq_of w.memory (Of v.first j) < seq_of w.memory (Of v.first k)
