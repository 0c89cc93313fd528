-- What a seat knows.
use Rattle.std.specs.Prelude.{◌≡◌, ℕ, zero, suc, ◌+◌, List, [], ◌∷◌, ◌++◌, length, map, Option, None, Some, refl}
use Rattle.seq_object.specs.declared.call_id.CallId.{CallId}
use Rattle.uni_model.specs.Places.{Name}
use Rattle.uni_model.specs.Places.Name.{Of}
use Rattle.uni_model.specs.Stages.Stage.{Announce, Finish}
use Rattle.uni_model.specs.Stages.{Stage, Pending}
use Rattle.uni_model.specs.Transition.{place_of, stage_after, turn_of}
use Rattle.uni_model.specs.Effects.{call_after}
use Rattle.uni_model.specs.ProcessCalls.{ProcessCalls}
use Rattle.uni_words.specs.Words.{content_of}

-- what a process has read of settled words since its last step
pub data Reading : Type 0 where
  Nothing : Reading
  Invocation : (inv : ℕ) → Reading
  Applied : (inv state : ℕ) → Reading
  Reply : (reply : ℕ) → Reading

-- the first so many calls of a process
pub record FirstCalls : Type 0 where
  pub process : ℕ
  pub count : ℕ

-- a call with all that its process made before it
abbrev pub up_to : CallId → FirstCalls
up_to call = record { process = call.process; count = call.nth + 1 }

-- all calls that a process has made
abbrev pub all_of : ProcessCalls ℕ ℕ → FirstCalls
all_of its = record { process = its.process; count = length its.calls }

-- of some time of the run: by then the calls of `earlier` stood in the log, and the process of `made` had made these
-- calls, all of which had returned, and no others
pub record Seen : Type 0 where
  pub earlier : FirstCalls
  pub made : ProcessCalls ℕ ℕ

-- what a process that has made these calls sees where those stand in the log
abbrev pub seen_of : (made : ProcessCalls ℕ ℕ) → (earlier : List FirstCalls) → List Seen
seen_of made earlier = map (λ its. record { earlier = its; made = made }) earlier

-- What a process is: the pending call with its invocation and what it has read; how many calls it has begun; the latest
-- one's own steps, which are events of the model and not word steps, and turns; its calls that have returned, each with
-- its invocation and its reply; and the number of the last of these, 0 where there is none.
pub record Process : Type 0 where
  pub call : Option Pending
  pub inv : ℕ
  pub read : Reading
  pub begun : ℕ
  pub steps : ℕ
  pub turns : ℕ
  pub own : List (ℕ × ℕ)
  pub number : ℕ

-- What a seat knows. It has `count` processes from `first` on, of n with rows of `row` calls, and each is as `its`
-- says. How many word steps the seat has taken, and how many of its calls ended with a store of the head. The calls of
-- each process whose seat it has taken in. And what it has seen of calls that it asked about.
pub record Known : Type 0 where
  pub n : ℕ
  pub row : ℕ
  pub first : ℕ
  pub count : ℕ
  pub its : Process
  pub word_steps : ℕ
  pub stored_ends : ℕ
  pub taken : List (ProcessCalls ℕ ℕ)
  pub seen : List Seen

-- a process that has made no call, and a seat of some of them
abbrev pub no_calls : Process
no_calls = record { call = None; inv = 0; read = Nothing; begun = 0; steps = 0; turns = 0; own = []; number = 0 }

abbrev pub nobody_called : (n row first count : ℕ) → Known
nobody_called n row first count = record {
  n = n;
  row = row;
  first = first;
  count = count;
  its = no_calls;
  word_steps = 0;
  stored_ends = 0;
  taken = [];
  seen = [];
}

-- the first seat has all processes
abbrev pub everyone : (n row : ℕ) → Known
everyone n row = nobody_called n row 0 n

-- where a process stands after its step, which found this word
abbrev pub stage_found : (n p : ℕ) → (mine : Name) → Stage → (found : ℕ) → Option Stage
stage_found n p mine stage found = stage_after n mine stage (content_of n (place_of n p mine stage) found)

-- a seat of one process after a step that isn't the last one of its call
abbrev pub moved_at : Known → Pending → (found : ℕ) → Known
moved_at v c found = record v {
  its = record v.its {
    call = call_after c.mine (stage_found v.n v.first c.mine c.stage found);
    read = Nothing;
    steps = v.its.steps + 1;
    turns = v.its.turns + turn_of c.stage (content_of v.n (place_of v.n v.first c.mine c.stage) found);
  };
  word_steps = v.word_steps + 1;
}

-- a seat of one process after it has begun a call
abbrev pub begun_by : Known → (inv : ℕ) → Known
begun_by v inv = record v {
  its = record v.its {
    call = Some (record { mine = Of v.first v.its.begun; stage = Announce });
    inv = inv;
    read = Nothing;
    begun = v.its.begun + 1;
    steps = 0;
    turns = 0;
  };
  word_steps = v.word_steps + 1;
}

-- a seat after it has read a settled word
abbrev pub looked_at : Known → Reading → Known
looked_at v read = record v { its = record v.its { read = read }; word_steps = v.word_steps + 1 }

-- the number of the cell of a call that stands before its last step
abbrev pub number_in : Stage → ℕ
number_in (Finish c_seq mine_seq) = mine_seq
number_in _ = 0

abbrev pub number_of : Option Pending → ℕ
number_of None = 0
number_of (Some c) = number_in c.stage

-- a seat of one process after the last step of its call, which is so many stores of the head: one, or none where it is
-- a load
abbrev pub finished_by : Known → (stores reply : ℕ) → Known
finished_by v stores reply = record v {
  its = record v.its {
    call = None;
    read = Nothing;
    steps = v.its.steps + 1;
    own = v.its.own ++ (v.its.inv, reply) ∷ [];
    number = number_of v.its.call;
  };
  word_steps = v.word_steps + 1;
  stored_ends = v.stored_ends + stores;
}

-- the calls of a seat's first process
abbrev pub own_of : Known → ProcessCalls ℕ ℕ
own_of v = record { process = v.first; calls = v.its.own }

-- what the number of a call's cell tells: where there is one, the call stands in the log
abbrev pub told_by : CallId → (number : ℕ) → List FirstCalls
told_by call zero = []
told_by call (suc number) = up_to call ∷ []

-- a seat after it has asked about a call, by a load of the number of the call's cell
abbrev pub asked_of : Known → CallId → (number : ℕ) → Known
asked_of v call number =
    record v { word_steps = v.word_steps + 1; seen = v.seen ++ seen_of (own_of v) (told_by call number) }

-- process 1, which has made one call, asks about the third call of process 0, which has the number 7, or none
abbrev sample_asked : (number : ℕ) → List Seen
sample_asked number =
    (asked_of (record (nobody_called 2 3 1 1) { its = record no_calls { own = (8, 4) ∷ [] } })
    (record { process = 0; nth = 2 }) number).seen

sample_there : sample_asked 7
    ≡ record {
      earlier = record { process = 0; count = 3 };
      made = record { process = 1; calls = (8, 4) ∷ [] };
    } ∷ []
sample_there = refl

sample_not_there : sample_asked 0 ≡ []
sample_not_there = refl
