-- Whose turn it is: what a process can do after what is told.
use Rattle.std.specs.Prelude.{◌≡◌, ◌==◌, ◌∷◌, ℕ, List, [], Option, Some, None, IsSome, IsSomeAnd, if◌then◌else◌}
use Rattle.std.specs.Prelude.{map, option_and_then, refl, slice_index_or}
use Rattle.judged_objects.specs.Wording.{Wording}
use Rattle.history_text.specs.Own.{tolds_of}
use Rattle.history_text.specs.declared.history.Told.{Told}
use Rattle.history_text.specs.declared.history.Told.TheVariants.{Begins, Ends, Ceases}
use Rattle.history_text.specs.declared.turns.Turn.{Turn}
use Rattle.history_text.specs.declared.turns.Turn.TheVariants.{Idle, Busy, Lost}

-- what a process can do next, after it begins a call, and after it returns; none, where it can't do that
abbrev pub begun : Turn → Option Turn
begun Idle = Some Busy
begun Busy = None
begun Lost = None

abbrev pub ended : Turn → Option Turn
ended Idle = None
ended Busy = Some Idle
ended Lost = None

-- after what is told of it
abbrev pub turn_after : {I R : Type 0} → Turn → Told I R → Option Turn
turn_after turn (Begins p i) = begun turn
turn_after turn (Ends p r) = ended turn
turn_after turn (Ceases p) = Some Lost

-- the process of what is told
abbrev pub process_of : {I R : Type 0} → Told I R → ℕ
process_of (Begins p i) = p
process_of (Ends p r) = p
process_of (Ceases p) = p

-- what a process can do next, after what is told of it or of another
abbrev pub turn_of : {I R : Type 0} → (p : ℕ) → Turn → Told I R → Option Turn
turn_of p turn told = if process_of told == p then turn_after turn told else Some turn

-- after all that is told
abbrev pub turn_in : {I R : Type 0} → (p : ℕ) → Turn → List (Told I R) → Option Turn
turn_in p turn [] = Some turn
turn_in p turn (told ∷ tolds) = option_and_then (λ after. turn_in p after tolds) (turn_of p turn told)

-- each process begins a call only where it has none, returns only from one that it has, and does neither after a loss
abbrev pub AreInTurn : {I R : Type 0} → List (Told I R) → Type 0
AreInTurn tolds = (p : ℕ) → IsSome (turn_in p Idle tolds)

-- what is listed of a process; one that isn't listed can begin a call
abbrev pub turn_at : List Turn → (p : ℕ) → Turn
turn_at turns p = slice_index_or turns p Idle

-- each line that isn't a note tells something, and by all of them processes are in turn
abbrev pub IsReadable : {I R : Type 0} → Wording I R → List (List ℕ) → Type 0
IsReadable wording lines = IsSomeAnd (tolds_of wording lines) AreInTurn

-- what two processes can do after calls and a loss
abbrev two_processes : List (Told ℕ ℕ)
two_processes = Begins 0 5 ∷ Begins 1 6 ∷ Ends 1 7 ∷ Ceases 0 ∷ Begins 1 8 ∷ []

they_are_in_turn : map (λ p. turn_in p Idle two_processes) (0 ∷ 1 ∷ 2 ∷ []) ≡ Some Lost ∷ Some Busy ∷ Some Idle ∷ []
they_are_in_turn = refl

-- two calls at once, a return without a call, and a call after a loss
three_others : turn_in {I = ℕ} {R = ℕ} 0 Idle (Begins 0 5 ∷ Begins 1 6 ∷ Begins 0 7 ∷ [])
    ∷ turn_in {I = ℕ} {R = ℕ} 1 Idle (Ceases 0 ∷ Ends 1 6 ∷ []) ∷ turn_in {I = ℕ} {R = ℕ} 0 Idle (Ceases 0 ∷ Begins 0 5 ∷ []) ∷ []
    ≡ None ∷ None ∷ None ∷ []
three_others = refl
