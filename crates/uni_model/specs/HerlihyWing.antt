-- Linearizability in the words of Herlihy and Wing 1990: a completion of the history is, process by process, a legal sequential
-- history, which keeps the real-time order.
use Rattle.std.specs.Prelude.{◌≡◌, ◌↔◌, refl, ℕ, ◌+◌, ◌≤◌, ◌==◌, ◌<◌, Bool, true, false, List, [], ◌∷◌, ◌++◌}
use Rattle.std.specs.Prelude.{Contains, filter, slice_get, Some}
use Rattle.std.specs.List.{AllByRecursion}
use Rattle.seq_object.specs.Sequential.{Sequential, counter}
use Rattle.uni_model.specs.AtomicObject.{Act, Invoked}
use Rattle.uni_model.specs.AtomicObject.Act.{Invoke, Linearize, Respond}
use Rattle.uni_model.specs.Worlds.{Event, opened_world, AreAccepted}
use Rattle.uni_model.specs.Linearizable.{observed_in, IsLinearizableHistory, IsLinearizedAs}

-- the legal sequential history of these calls from a state: each is begun, and responds before the next one is begun
abbrev pub one_by_one : {S I R : Type 0} → Sequential S I R → S → List (Invoked I) → List (Act I R)
one_by_one object s [] = []
one_by_one object s (c ∷ cs) =
    Invoke c.process c.nth c.inv ∷ Respond c.process c.nth (object.answer s c.inv) ∷ one_by_one object (object.next s c.inv) cs

-- the subhistory of a process
abbrev pub is_by : {I R : Type 0} → ℕ → Act I R → Bool
is_by p (Invoke q k i) = q == p
is_by p (Linearize c) = c.process == p
is_by p (Respond q k r) = q == p

abbrev pub of_process : {I R : Type 0} → ℕ → List (Act I R) → List (Act I R)
of_process p history = filter (is_by p) history

-- the acts of one process: call after call from the k-th on, each with its response before the next one begins
abbrev pub AreInTurn : {I R : Type 0} → (is_open : Bool) → (k : ℕ) → List (Act I R) → Type 0
AreInTurn is_open k [] = Unit {0}
AreInTurn false k (Invoke p m i ∷ acts) = (m ≡ k) × AreInTurn true k acts
AreInTurn true k (Respond p m r ∷ acts) = (m ≡ k) × AreInTurn false (k + 1) acts
AreInTurn is_open k (act ∷ acts) = ⊥

-- a history is well-formed: each process's subhistory is sequential
abbrev pub IsWellFormed : {I R : Type 0} → List (Act I R) → Type 0
IsWellFormed history = (p : ℕ) → AreInTurn false 0 (of_process p history)

-- whether an act is left when only these invocations are kept
abbrev pub is_kept : {I R : Type 0} → (keeps : ℕ → ℕ → Bool) → Act I R → Bool
is_kept keeps (Invoke p k i) = keeps p k
is_kept keeps act = true

abbrev pub IsResponse : {I R : Type 0} → Act I R → Type 0
IsResponse (Respond p k r) = Unit {0}
IsResponse act = ⊥

-- A completion of a history: some invocations are dropped, all of them pending, and responses are appended. That each appended
-- response belongs to a pending call is for the equivalence below to say: a response that belongs to none is in no legal history.
pub record IsCompletion {I R : Type 0} (history completed : List (Act I R)) : Type 0 where
  pub keeps : (process nth : ℕ) → Bool
  pub pending : (p k : ℕ) (r : R) → keeps p k ≡ false → ¬ (Contains history (Respond p k r))
  pub responses : List (Act I R)
  pub are_responses : AllByRecursion IsResponse responses
  pub appended : completed ≡ filter (is_kept keeps) history ++ responses

-- in real time the call k of p precedes the call m of q: it responds before that one is invoked
pub record Precedes {I R : Type 0} (history : List (Act I R)) (p k q m : ℕ) : Type 0 where
  pub before : List (Act I R)
  pub response : R
  pub between : List (Act I R)
  pub inv : I
  pub after : List (Act I R)
  pub split : history ≡ before ++ Respond p k response ∷ (between ++ Invoke q m inv ∷ after)

module _ {S I R : Type 0} (object : Sequential S I R) where
  -- The history has a completion that is, process by process, the legal sequential history of the calls in this order; and
  -- of two calls of the order the one that precedes the other in real time stands before it. (A pending call that the
  -- completion drops stands nowhere, and is not asked.) Stronger than Herlihy and Wing as printed, who order returned
  -- calls alone: a returned call also precedes a later kept pending one, as Sela, Herlihy and Petrank mend it (2021).
  pub record IsLinearizedByCompletion (start : S) (history : List (Act I R)) (order : List (Invoked I)) : Type 0 where
    pub completed : List (Act I R)
    pub completion : IsCompletion history completed
    pub equivalent : (p : ℕ) → of_process p completed ≡ of_process p (one_by_one object start order)
    pub real_time : (x y : ℕ) (c d : Invoked I) → slice_get order x ≡ Some c → slice_get order y ≡ Some d
        → Precedes history c.process c.nth d.process d.nth → x < y

  -- there is such an order
  abbrev pub IsLinearizableByCompletion : S → List (Act I R) → Type 0
  IsLinearizableByCompletion start history = (order : List (Invoked I)) × IsLinearizedByCompletion start history order

  -- Linearization points can be put into a history, in this order, if and only if it is well-formed and has such a
  -- completion for this order.
  abbrev pub AgreesInOrder : S → List (Act I R) → List (Invoked I) → Type 0
  AgreesInOrder start history order =
      IsLinearizedAs object start history order ↔ (IsWellFormed history × IsLinearizedByCompletion start history order)

  -- So the two senses of linearizable agree.
  abbrev pub AgreesWithCompletion : S → List (Act I R) → Type 0
  AgreesWithCompletion start history =
      IsLinearizableHistory object start history ↔ (IsWellFormed history × IsLinearizableByCompletion start history)

  -- What is observed of a run from an opening is well-formed, and has such a completion.
  abbrev pub ObservesCompletion : (n : ℕ) → (start : S) → (number : ℕ) → List (Event I) → Type 0
  ObservesCompletion n start number events =
      1 ≤ number → AreAccepted object (opened_world n start number) events
      → IsWellFormed (observed_in object (opened_world n start number) events)
      × IsLinearizableByCompletion start (observed_in object (opened_world n start number) events)

-- process 1 calls, process 0 calls, and 1 gets its response
abbrev sample : List (Act ℕ ℕ)
sample = Invoke 1 0 5 ∷ Invoke 0 0 3 ∷ Respond 1 0 7 ∷ []

sample-of_process : of_process 1 sample ≡ Invoke 1 0 5 ∷ Respond 1 0 7 ∷ []
sample-of_process = refl

-- where process 0 calls after process 1 has its response, the call of 1 precedes it, although that of 0 may be dropped
sample-precedes : Precedes {I = ℕ} {R = ℕ} (Invoke 1 0 5 ∷ Respond 1 0 7 ∷ Invoke 0 0 3 ∷ []) 1 0 0 0
sample-precedes = record { before = Invoke 1 0 5 ∷ []; response = 7; between = []; inv = 3; after = []; split = refl }

-- its completion where the call of 0 is dropped
sample-kept : filter (is_kept (λ p k. p == 1)) sample ≡ Invoke 1 0 5 ∷ Respond 1 0 7 ∷ []
sample-kept = refl

sample-in_turn : AreInTurn false 0 (of_process 1 sample)
sample-in_turn = (refl, (refl, tt))

-- two calls of the counter, one by one
abbrev sample_calls : List (Invoked ℕ)
sample_calls = record { process = 1; nth = 0; inv = 5 } ∷ record { process = 0; nth = 0; inv = 3 } ∷ []

sample_one_by_one : one_by_one counter 0 sample_calls ≡ Invoke 1 0 5 ∷ Respond 1 0 0 ∷ Invoke 0 0 3 ∷ Respond 0 0 5 ∷ []
sample_one_by_one = refl
