-- What a run tells: the acts of one process in a history, and that a log is a run's.
use Rattle.std.specs.Prelude.{All, ◌≡◌, ℕ, zero, suc, ◌<◌, List, [], ◌∷◌, ◌++◌, refl, replicate, Contains, Some}
use Rattle.std.proofs.Common.{arith}
use Rattle.seq_object.specs.Sequential.{Sequential}
use Rattle.uni_model.specs.AtomicObject.{Act}
use Rattle.uni_model.specs.AtomicObject.Act.{Invoke, Linearize, Respond}
use Rattle.uni_model.specs.Chain.{Entry}
use Rattle.uni_model.specs.Eras.{KeepsRealTime, StandsAt}
use Rattle.uni_model.specs.Growth.{EndNoEra}
use Rattle.uni_model.specs.History.{history_of, log_of_run}
use Rattle.uni_model.specs.Responses.{HoldsResponses}
use Rattle.uni_model.specs.Universal.{IsUniversal}
use Rattle.uni_model.specs.Worlds.{WorldOf, Event, opened_world, AreAccepted}
use Rattle.uni_model.specs.Worlds.Event.{Call, Step}
use Rattle.uni_model.specs.ProcessCalls.{ProcessCalls, acts_by, sequential_acts}
use Rattle.uni_words.specs.Objects.{tally}
use Rattle.uni_words.specs.View.{FirstCalls, Seen}

module _ (object : Sequential ℕ ℕ ℕ) (n : ℕ) where
  -- n processes that have made no call: the anchor has the number 1 and the start state
  abbrev pub opened : WorldOf ℕ ℕ ℕ
  opened = opened_world n object.initial 1

  -- the history of a run from there
  abbrev pub run_history : List (Event ℕ) → List (Act ℕ ℕ)
  run_history events = history_of object opened events

  -- these calls stand in the log of a run, each with a reply or without
  abbrev pub StandInLog : List (Event ℕ) → FirstCalls → Type 0
  StandInLog events its =
      (i : ℕ) → i < its.count → (place : ℕ) × StandsAt (log_of_run object opened events) its.process i place

  -- After some of these events the calls of `earlier` stood in the log, and the process of `made` had made those calls,
  -- all of which had returned, and no others: each further call of it begins later.
  pub record HasSeen (events : List (Event ℕ)) (s : Seen) : Type 0 where
    pub before : List (Event ℕ)
    pub after : List (Event ℕ)
    pub joins : events ≡ before ++ after
    pub earlier : StandInLog before s.earlier
    pub made : acts_by s.made.process (run_history before) ≡ sequential_acts s.made.process 0 s.made.calls

  -- The log is that of some run of n processes: it is the joined log of events that are accepted one after another from
  -- the opening on, and end no era. In its history each of these processes takes the acts of its calls, each with its
  -- reply before the next one begins, and no others. What `universal`, `real_time` and `responses` say holds of every
  -- run: there is nothing more to believe in them.
  pub record IsLogOfRun (log : List (Entry ℕ ℕ)) (calls : List (ProcessCalls ℕ ℕ)) : Type 0 where
    pub events : List (Event ℕ)
    pub accepted : AreAccepted object opened events
    pub one_era : EndNoEra events
    pub universal : IsUniversal object n object.initial 1 events
    pub real_time : KeepsRealTime object n object.initial 1 events
    pub responses : HoldsResponses log (run_history events)
    pub joined : log_of_run object opened events ≡ log
    pub acts : (its : ProcessCalls ℕ ℕ) → Contains calls its
        → acts_by its.process (run_history events) ≡ sequential_acts its.process 0 its.calls

  -- the same, and in that run all of these were seen
  abbrev pub IsLogOfSeenRun : (log : List (Entry ℕ ℕ)) → (calls : List (ProcessCalls ℕ ℕ)) → (seen : List Seen) → Type 0
  IsLogOfSeenRun log calls seen = (run : IsLogOfRun log calls) × All (HasSeen run.events) seen

-- one process adds 5 to a tally, in its 14 own steps
abbrev sample_run : List (Event ℕ)
sample_run = Call 0 5 ∷ replicate 14 (Step 0)

sample_history : run_history tally 1 sample_run
    ≡ Invoke 0 0 5 ∷ Linearize (record { process = 0; nth = 0; inv = 5 }) ∷ Respond 0 0 0 ∷ []
sample_history = refl

sample_of_run : acts_by 0 (run_history tally 1 sample_run) ≡ sequential_acts 0 0 ((5, 0) ∷ [])
sample_of_run = refl

-- its log is the one that the sample words of Log tell
sample_joined : log_of_run tally (opened tally 1) sample_run
    ≡ record { number = 2; call = record { process = 0; nth = 0; inv = 5 }; response = Some 0 } ∷ []
sample_joined = refl

-- process 0 has returned before process 1 begins a call: 16 own steps, of two processes
sample_order : HasSeen tally 2 (Call 0 5 ∷ replicate 16 (Step 0) ++ Call 1 3 ∷ [])
    (record { earlier = record { process = 0; count = 1 }; made = record { process = 1; calls = [] } })
sample_order = record {
  before = Call 0 5 ∷ replicate 16 (Step 0);
  after = Call 1 3 ∷ [];
  joins = refl;
  earlier = logged;
  made = refl;
} where
  logged : StandInLog tally 2 (Call 0 5 ∷ replicate 16 (Step 0)) (record { process = 0; count = 1 })
  logged zero inside = (0, record { entry = _; at = refl; process = refl; nth = refl })
  logged (suc i) inside = absurd (omega arith)
