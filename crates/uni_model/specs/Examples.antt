-- Worked examples: what the definitions compute over a queue of numbers.
use Rattle.std.specs.Prelude.{◌≡◌, refl, ℕ, zero, suc, ◌+◌, List, [], ◌∷◌, ◌++◌, length, take, Option, None, Some}
use Rattle.std.specs.Prelude.{map}
use Rattle.seq_object.specs.Sequential.{Sequential}
use Rattle.uni_model.specs.Places.{Name, seq_of, new_of, head_of, head_seq}
use Rattle.uni_model.specs.Places.Name.{Anchor, Of}
use Rattle.uni_model.specs.Stages.Stage.{Announce, ScanHead, Test, WriteHead, Finish}
use Rattle.uni_model.specs.Counting.{steps_at}
use Rattle.uni_model.specs.Chain.{Entry}
use Rattle.uni_model.specs.Frontier.{floor_of}
use Rattle.uni_model.specs.Worlds.{WorldOf, Event, calls_in_era, chain, opened_world, world_after_all, without_trims, IsAccepted}
use Rattle.uni_model.specs.Worlds.Event.{Call, Step, Trim, Reshape}
use Rattle.uni_model.specs.AtomicObject.Act.{Invoke, Linearize, Respond}
use Rattle.uni_model.specs.History.{log, log_of_run, history_of}
use Rattle.uni_model.specs.Linearizable.{observed, observed_in}
use Rattle.uni_model.specs.WaitFree.{steps_among}

data QueueCall : Type 0 where
  Enq : ℕ → QueueCall
  Deq : QueueCall

data QueueReply : Type 0 where
  Ok : QueueReply
  Value : ℕ → QueueReply
  Empty : QueueReply

abbrev queue_next : List ℕ → QueueCall → List ℕ
queue_next xs (Enq v) = xs ++ v ∷ []
queue_next [] Deq = []
queue_next (x ∷ xs) Deq = xs

abbrev queue_answer : List ℕ → QueueCall → QueueReply
queue_answer xs (Enq v) = Ok
queue_answer [] Deq = Empty
queue_answer (x ∷ xs) Deq = Value x

-- a queue of numbers
abbrev queue : Sequential (List ℕ) QueueCall QueueReply
queue = record { initial = []; next = queue_next; answer = queue_answer }

-- so many steps of a process
abbrev steps : ℕ → ℕ → List (Event QueueCall)
steps p zero = []
steps p (suc m) = Step p ∷ steps p m

-- a run of n processes over an empty queue, from number 1
abbrev run : ℕ → List (Event QueueCall) → WorldOf (List ℕ) QueueCall QueueReply
run n events = world_after_all queue (opened_world n [] 1) events

abbrev heads : WorldOf (List ℕ) QueueCall QueueReply → List ℕ → List ℕ
heads w ps = map (head_seq w.memory) ps

-- the floor that a run of n processes gives the call of a cell
abbrev floor : ℕ → Name → List (Event QueueCall) → Option ℕ
floor n x events = floor_of queue x (opened_world {R = QueueReply} n [] 1) events

-- the number of the last linked cell, or of the anchor
abbrev last_number : WorldOf (List ℕ) QueueCall QueueReply → ℕ
last_number w = seq_of w.memory Anchor + length (chain w)

abbrev entry : ℕ → ℕ → ℕ → QueueCall → QueueReply → Entry QueueCall QueueReply
entry number p k i r = record { number = number; call = record { process = p; nth = k; inv = i }; response = Some r }

-- the least case: one process helps itself
alone : List (Event QueueCall)
alone = Call 0 (Enq 7) ∷ steps 0 14

alone-log : log (run 1 alone) ≡ entry 2 0 0 (Enq 7) Ok ∷ []
unfolding alone
alone-log = refl

alone-head : heads (run 1 alone) (0 ∷ []) ≡ 2 ∷ []
unfolding alone
alone-head = refl

alone-steps : (run 1 alone).steps 0 ≡ 14
unfolding alone
alone-steps = refl

alone-turns : (run 1 alone).turns 0 ≡ 1
unfolding alone
alone-turns = refl

alone-history : history_of queue (opened_world 1 [] 1) alone
    ≡ Invoke 0 0 (Enq 7) ∷ Linearize (record { process = 0; nth = 0; inv = Enq 7 }) ∷ Respond 0 0 Ok ∷ []
unfolding alone
alone-history = refl

alone-observed : observed_in queue (opened_world 1 [] 1) alone ≡ Invoke 0 0 (Enq 7) ∷ Respond 0 0 Ok ∷ []
unfolding alone
alone-observed = refl

-- two processes, of which one meets the bound of steps and turns: 32 and 3
bound_met : List (Event QueueCall)
bound_met = Call 0 (Enq 10) ∷ (steps 0 10 ++ Call 1 Deq ∷ (steps 1 14 ++ (steps 0 6 ++ Call 0 (Enq 20) ∷ Step 0 ∷ steps 1 18)))

bound_met-log : log (run 2 bound_met) ≡ entry 2 0 0 (Enq 10) Ok ∷ entry 3 0 1 (Enq 20) Ok ∷ entry 4 1 0 Deq (Value 10) ∷ []
unfolding bound_met
bound_met-log = refl

bound_met-heads : heads (run 2 bound_met) (0 ∷ 1 ∷ []) ≡ 2 ∷ 4 ∷ []
unfolding bound_met
bound_met-heads = refl

bound_met-steps : (run 2 bound_met).steps 1 ≡ 32
unfolding bound_met
bound_met-steps = refl

bound_met-turns : (run 2 bound_met).turns 1 ≡ 3
unfolding bound_met
bound_met-turns = refl

-- so the call of process 1 has returned at the 32nd of its process's steps since its begin, which is the latest possible: 10n + 12
bound_met-among : steps_among 1 (steps 1 14 ++ (steps 0 6 ++ Call 0 (Enq 20) ∷ Step 0 ∷ steps 1 18)) ≡ 32
bound_met-among = refl

bound_met-call : (run 2 bound_met).call 1 ≡ None
unfolding bound_met
bound_met-call = refl

-- three processes, of which one meets it: process 2 takes its first turn, and it helps 2 and 0 before itself
bound_met_by_three : List (Event QueueCall)
bound_met_by_three =
    Call 2 (Enq 1) ∷ (steps 2 12 ++ Call 1 Deq ∷ (steps 1 16 ++ (steps 2 6 ++ Call 0 (Enq 2) ∷ Step 0 ∷ Call 2 (Enq 3) ∷ Step 2 ∷ steps 1 26)))

bound_met_by_three-log : log (run 3 bound_met_by_three)
    ≡ entry 2 2 0 (Enq 1) Ok ∷ entry 3 2 1 (Enq 3) Ok ∷ entry 4 0 0 (Enq 2) Ok ∷ entry 5 1 0 Deq (Value 1) ∷ []
unfolding bound_met_by_three
bound_met_by_three-log = refl

bound_met_by_three-steps : (run 3 bound_met_by_three).steps 1 ≡ 42
unfolding bound_met_by_three
bound_met_by_three-steps = refl

bound_met_by_three-turns : (run 3 bound_met_by_three).turns 1 ≡ 4
unfolding bound_met_by_three
bound_met_by_three-turns = refl

bound_met_by_three-call : (run 3 bound_met_by_three).call 1 ≡ None
unfolding bound_met_by_three
bound_met_by_three-call = refl

-- the call's number, 4, is n + 1 past its floor
bound_met-floor : floor 2 (Of 1 0) bound_met ≡ Some 1
unfolding bound_met
bound_met-floor = refl

bound_met-chain : chain (run 2 bound_met) ≡ Of 0 0 ∷ Of 0 1 ∷ Of 1 0 ∷ []
unfolding bound_met
bound_met-chain = refl

-- the same run while that call waits: the last number, 3, is n past its floor
bound_waiting : List (Event QueueCall)
bound_waiting = Call 0 (Enq 10) ∷ (steps 0 10 ++ Call 1 Deq ∷ (steps 1 14 ++ (steps 0 6 ++ Call 0 (Enq 20) ∷ Step 0 ∷ steps 1 8)))

bound_waiting-call : (run 2 bound_waiting).call 1 ≡ Some (record { mine = Of 1 0; stage = Test (Of 0 1) 3 })
unfolding bound_waiting
bound_waiting-call = refl

bound_waiting-floor : floor 2 (Of 1 0) bound_waiting ≡ Some 1
unfolding bound_waiting
bound_waiting-floor = refl

bound_waiting-last : last_number (run 2 bound_waiting) ≡ 3
unfolding bound_waiting
bound_waiting-last = refl

-- the same run before its last step: the call is pending, and has taken 31 steps, one less than the bound
bound_pending : List (Event QueueCall)
bound_pending = Call 0 (Enq 10) ∷ (steps 0 10 ++ Call 1 Deq ∷ (steps 1 14 ++ (steps 0 6 ++ Call 0 (Enq 20) ∷ Step 0 ∷ steps 1 17)))

bound_pending-call : (run 2 bound_pending).call 1 ≡ Some (record { mine = Of 1 0; stage = Finish 4 4 })
unfolding bound_pending
bound_pending-call = refl

bound_pending-steps : (run 2 bound_pending).steps 1 ≡ 31
unfolding bound_pending
bound_pending-steps = refl

-- process 1 announces and stops; process 0 places its call
helped : List (Event QueueCall)
helped = Call 1 (Enq 5) ∷ Step 1 ∷ Call 0 (Enq 6) ∷ steps 0 24

helped-log : log (run 2 helped) ≡ entry 2 1 0 (Enq 5) Ok ∷ entry 3 0 0 (Enq 6) Ok ∷ []
unfolding helped
helped-log = refl

helped-heads : heads (run 2 helped) (0 ∷ 1 ∷ []) ≡ 3 ∷ 1 ∷ []
unfolding helped
helped-heads = refl

helped-steps : (run 2 helped).steps 0 ≡ 24
unfolding helped
helped-steps = refl

helped-turns : (run 2 helped).turns 0 ≡ 2
unfolding helped
helped-turns = refl

-- the call that process 1 announced at the frontier 1 gets the next number
helped-floor : floor 2 (Of 1 0) helped ≡ Some 1
unfolding helped
helped-floor = refl

helped-chain : chain (run 2 helped) ≡ Of 1 0 ∷ Of 0 0 ∷ []
unfolding helped
helped-chain = refl

-- before its first step a call has no floor
helped-no_floor : floor 2 (Of 1 0) (Call 1 (Enq 5) ∷ []) ≡ None
helped-no_floor = refl

-- numbers go on after a trim, so the turns of processes do
trimmed_between : List (Event QueueCall)
trimmed_between = Call 0 (Enq 1) ∷ (steps 0 16 ++ Trim ∷ Call 1 (Enq 2) ∷ Step 1 ∷ Call 0 Deq ∷ steps 0 16)

trimmed_between-log : log (run 2 trimmed_between) ≡ entry 3 0 1 Deq (Value 1) ∷ []
unfolding trimmed_between
trimmed_between-log = refl

trimmed_between-heads : heads (run 2 trimmed_between) (0 ∷ 1 ∷ []) ≡ 3 ∷ 2 ∷ []
unfolding trimmed_between
trimmed_between-heads = refl

-- so does the frontier
trimmed_between-floor : floor 2 (Of 1 0) trimmed_between ≡ Some 2
unfolding trimmed_between
trimmed_between-floor = refl

trimmed_between-steps : (run 2 trimmed_between).steps 0 ≡ 16
unfolding trimmed_between
trimmed_between-steps = refl

trimmed_between-turns : (run 2 trimmed_between).turns 0 ≡ 1
unfolding trimmed_between
trimmed_between-turns = refl

-- two processes with rows of one call: each makes its call, and after a trim process 0 makes its second
row_again : List (Event QueueCall)
row_again = Call 0 (Enq 1) ∷ (steps 0 16 ++ Call 1 Deq ∷ (steps 1 16 ++ Trim ∷ Call 0 (Enq 2) ∷ steps 0 16))

row_again-log : log (run 2 row_again) ≡ entry 4 0 1 (Enq 2) Ok ∷ []
unfolding row_again
row_again-log = refl

row_again-joined : log_of_run queue (opened_world 2 [] 1) row_again
    ≡ entry 2 0 0 (Enq 1) Ok ∷ entry 3 1 0 Deq (Value 1) ∷ entry 4 0 1 (Enq 2) Ok ∷ []
unfolding row_again
row_again-joined = refl

row_again-calls : (calls_in_era (run 2 row_again) 0 ≡ 1) × ((run 2 row_again).begun 0 ≡ 2) × ((run 2 row_again).steps 0 ≡ 16)
unfolding row_again
row_again-calls = (refl, refl, refl)

-- the joined log of a run of n processes over an empty queue, from number 1
abbrev joined : ℕ → List (Event QueueCall) → List (Entry QueueCall QueueReply)
joined n events = log_of_run queue (opened_world n [] 1) events

trimmed_between-joined : joined 2 trimmed_between ≡ entry 2 0 0 (Enq 1) Ok ∷ entry 3 0 1 Deq (Value 1) ∷ []
unfolding trimmed_between
trimmed_between-joined = refl

-- one call, then a trim or none, then so many steps of another call: in its scan process 0 sees the number of the anchor
-- there is, and another cell at the end of it; what it does next is the same
trimmed : ℕ → List (Event QueueCall)
trimmed m = Call 1 (Enq 5) ∷ (steps 1 16 ++ Trim ∷ Call 0 Deq ∷ steps 0 m)

untrimmed : ℕ → List (Event QueueCall)
untrimmed m = Call 1 (Enq 5) ∷ (steps 1 16 ++ Call 0 Deq ∷ steps 0 m)

trimmed-untrimmed : without_trims (trimmed 3) ≡ untrimmed 3
unfolding trimmed untrimmed
trimmed-untrimmed = refl

trimmed-scan : (run 2 (trimmed 3)).call 0 ≡ Some (record { mine = Of 0 0; stage = ScanHead 1 Anchor 2 })
unfolding trimmed
trimmed-scan = refl

untrimmed-scan : (run 2 (untrimmed 3)).call 0 ≡ Some (record { mine = Of 0 0; stage = ScanHead 1 Anchor 1 })
unfolding untrimmed
untrimmed-scan = refl

trimmed-test : (run 2 (trimmed 6)).call 0 ≡ Some (record { mine = Of 0 0; stage = Test Anchor 2 })
unfolding trimmed
trimmed-test = refl

untrimmed-test : (run 2 (untrimmed 6)).call 0 ≡ Some (record { mine = Of 0 0; stage = Test (Of 1 0) 2 })
unfolding untrimmed
untrimmed-test = refl

trimmed-heads : heads (run 2 (trimmed 16)) (0 ∷ 1 ∷ []) ≡ 3 ∷ 2 ∷ []
unfolding trimmed
trimmed-heads = refl

untrimmed-heads : heads (run 2 (untrimmed 16)) (0 ∷ 1 ∷ []) ≡ 3 ∷ 2 ∷ []
unfolding untrimmed
untrimmed-heads = refl

trimmed-joined : joined 2 (trimmed 16) ≡ entry 2 1 0 (Enq 5) Ok ∷ entry 3 0 0 Deq (Value 5) ∷ []
unfolding trimmed
trimmed-joined = refl

-- what is observed of both: each call with its response; in the history of the one with the trim each call takes effect between
trimmed-observed : observed_in queue (opened_world 2 [] 1) (trimmed 16)
    ≡ Invoke 1 0 (Enq 5) ∷ Respond 1 0 Ok ∷ Invoke 0 0 Deq ∷ Respond 0 0 (Value 5) ∷ []
unfolding trimmed
trimmed-observed = refl

untrimmed-observed : observed_in queue (opened_world 2 [] 1) (without_trims (trimmed 16))
    ≡ observed_in queue (opened_world 2 [] 1) (trimmed 16)
unfolding trimmed
untrimmed-observed = refl

trimmed-history : history_of queue (opened_world 2 [] 1) (trimmed 16)
    ≡ Invoke 1 0 (Enq 5) ∷ Linearize (record { process = 1; nth = 0; inv = Enq 5 }) ∷ Respond 1 0 Ok
    ∷ Invoke 0 0 Deq ∷ Linearize (record { process = 0; nth = 0; inv = Deq }) ∷ Respond 0 0 (Value 5) ∷ []
unfolding trimmed
trimmed-history = refl

trimmed-linearized : observed (history_of queue (opened_world 2 [] 1) (trimmed 16)) ≡ observed_in queue (opened_world 2 [] 1) (trimmed 16)
unfolding trimmed
trimmed-linearized = refl

-- within its call process 0 can step before each of its 16 steps, and has returned then, below the bound of 32; the trim between
-- is no step of its
trimmed-can_step : IsAccepted (run 2 (trimmed 15)) (Step 0)
unfolding trimmed
trimmed-can_step = refl

trimmed-steps_among : (steps_among 0 (steps 0 16) ≡ 16) × (steps_among 1 (steps 1 16 ++ Trim ∷ Call 0 Deq ∷ steps 0 16) ≡ 16)
trimmed-steps_among = (refl, refl)

trimmed-returned : ((run 2 (trimmed 16)).call 0 ≡ None) × ((run 2 (trimmed 16)).call 1 ≡ None)
unfolding trimmed
trimmed-returned = (refl, refl)

-- the counts are the same, also after the prefix that ends with the trim
trimmed-counts : ((run 2 (trimmed 16)).begun ≡ (run 2 (untrimmed 16)).begun)
    × ((run 2 (trimmed 16)).steps 0 ≡ (run 2 (untrimmed 16)).steps 0)
    × ((run 2 (trimmed 16)).turns 0 ≡ (run 2 (untrimmed 16)).turns 0)
unfolding trimmed untrimmed
trimmed-counts = (refl, refl, refl)

trimmed-prefix : ((run 2 (take 18 (trimmed 16))).steps 1 ≡ 16) × ((run 2 (take 18 (trimmed 16))).turns 1 ≡ 1)
    × (log_of_run queue (opened_world 2 [] 1) (take 18 (trimmed 16)) ≡ entry 2 1 0 (Enq 5) Ok ∷ [])
unfolding trimmed
trimmed-prefix = (refl, refl, refl)

untrimmed-log : log (run 2 (untrimmed 16)) ≡ entry 2 1 0 (Enq 5) Ok ∷ entry 3 0 0 Deq (Value 5) ∷ []
unfolding untrimmed
untrimmed-log = refl

-- what the end of that era leaves: the anchor alone, with the state and the number of the last cell; the next call of process 1
-- is its second one
ended : List (Event QueueCall)
ended = Call 1 (Enq 5) ∷ (steps 1 16 ++ Trim ∷ [])

ended-state : new_of (run 2 ended).memory Anchor ≡ Some (5 ∷ [], None)
unfolding ended
ended-state = refl

ended-number : seq_of (run 2 ended).memory Anchor ≡ 2
unfolding ended
ended-number = refl

ended-head : head_of (run 2 ended).memory 1 ≡ Anchor
unfolding ended
ended-head = refl

ended-cell : seq_of (run 2 ended).memory (Of 1 0) ≡ 0
unfolding ended
ended-cell = refl

ended-first : (run 2 ended).first 1 ≡ 1
unfolding ended
ended-first = refl

-- two processes are made three, and turns go by three: at the number 2 it is the turn of process 2 to be helped
reshaped : List (Event QueueCall)
reshaped = Call 0 (Enq 1) ∷ (steps 0 16 ++ Reshape 3 ∷ Call 2 Deq ∷ Step 2 ∷ Call 0 (Enq 9) ∷ steps 0 26)

reshaped-joined : joined 2 reshaped ≡ entry 2 0 0 (Enq 1) Ok ∷ entry 3 2 0 Deq (Value 1) ∷ entry 4 0 1 (Enq 9) Ok ∷ []
unfolding reshaped
reshaped-joined = refl

reshaped-turns : (run 2 reshaped).turns 0 ≡ 2
unfolding reshaped
reshaped-turns = refl

-- of two processes: the announcement, the first head, the first test, the end of a turn, the end of three
steps_at-announce : steps_at 2 Announce 0 ≡ 0
steps_at-announce = refl

steps_at-second_head : steps_at 2 (ScanHead 1 Anchor 1) 0 ≡ 3
steps_at-second_head = refl

steps_at-test : steps_at 2 (Test Anchor 1) 1 ≡ 14
steps_at-test = refl

steps_at-write_head : steps_at 2 (WriteHead Anchor 1 Anchor) 1 ≡ 13
steps_at-write_head = refl

steps_at-finish : steps_at 2 (Finish 4 4) 3 ≡ 31
steps_at-finish = refl
