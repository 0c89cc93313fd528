-- The joined log of a run beside the responses of its history.
use Rattle.std.specs.Prelude.{◌≡◌, ℕ, ◌==◌, ◌≤◌, List, [], ◌∷◌, Some, None, count_by, slice_get, take, refl}
use Rattle.seq_object.specs.Sequential.{Sequential}
use Rattle.uni_model.specs.Chain.{Entry}
use Rattle.uni_model.specs.Worlds.{Event, opened_world, AreAccepted}
use Rattle.uni_model.specs.AtomicObject.{Act}
use Rattle.uni_model.specs.AtomicObject.Act.{Respond}
use Rattle.uni_model.specs.History.{log_of_run, history_of}
use Rattle.uni_model.specs.Eras.{StandsAt}

-- how many of these entries are calls of a process
abbrev pub calls_among : {I R : Type 0} → ℕ → List (Entry I R) → ℕ
calls_among p entries = count_by (λ e. e.call.process == p) entries

-- The calls of each process stand in the log in their order, none left out. No call responds twice, and each response is that
-- of the entry of its call.
pub record HoldsResponses {I R : Type 0} (joined : List (Entry I R)) (acts : List (Act I R)) : Type 0 where
  pub numbered : (i : ℕ) (e : Entry I R) → slice_get joined i ≡ Some e → e.call.nth ≡ calls_among e.call.process (take i joined)
  pub once : (i j p k : ℕ) (r s : R) → slice_get acts i ≡ Some (Respond p k r) → slice_get acts j ≡ Some (Respond p k s)
      → i ≡ j
  pub logged : (i p k : ℕ) (r : R) → slice_get acts i ≡ Some (Respond p k r)
      → (place : ℕ) × (stands : StandsAt joined p k place) × (stands.entry.response ≡ Some r)

-- the joined log of a run from the opening holds the responses of its history so
abbrev pub LogsResponses : {S I R : Type 0} → Sequential S I R → (n : ℕ) → (start : S) → (number : ℕ) → List (Event I)
    → Type 0
LogsResponses object n start number events =
    1 ≤ number → AreAccepted object (opened_world n start number) events
    → HoldsResponses (log_of_run object (opened_world n start number) events) (history_of object (opened_world n start number) events)

-- of three calls two are of process 1
abbrev sample : (process nth : ℕ) → Entry ℕ ℕ
sample p k = record { number = 2; call = record { process = p; nth = k; inv = 7 }; response = None }

sample_calls : calls_among 1 (sample 1 0 ∷ sample 0 0 ∷ sample 1 1 ∷ []) ≡ 2
sample_calls = refl
