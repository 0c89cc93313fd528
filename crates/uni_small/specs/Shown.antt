-- The rule of the table: its words and the views of its seats show a board with its processes.
use Rattle.std.specs.Prelude.{◌≡◌, ℕ, List, [], ◌+◌, ◌*◌, ◌<◌, ◌≤◌, length, slice_index, Some, Contains}
use mathlib.Core.Option.{some}
use lib.ListN.{get_elem?}
use Rattle.atomic_table.specs.Table.{State}
use Rattle.uni_small.specs.Image.{AreWidths, Meaning, buffer_words}
use Rattle.uni_small.specs.View.{Local, Known, ProcessReturned}
use Rattle.uni_small.specs.View.Stage.{Idle}
use Rattle.uni_small.specs.Board.{Board, words_of, current_word, announce_word, argument_word, buffer_word}
use Rattle.uni_small.specs.Invariant.{IsSound}
use Rattle.uni_small.specs.Ran.{HasRun}
use Rattle.uni_small.specs.declared.seat.Seen.{Seen}
use Rattle.uni_small.specs.declared.sizes.Sizes.{Sizes}
use Rattle.uni_small.specs.declared.view.View.{View}

module _ (sizes : Sizes) where
  -- the words are those of the board
  pub record AreWords (g : Board) (words : List ℕ) : Type 0 where
    pub wide : length words ≡ words_of sizes
    pub current : slice_index words 0 ≡ current_word g.version g.current
    pub announced : (p : ℕ) → p < sizes.processes → slice_index words (announce_word p) ≡ g.told p
    pub argument : (p k : ℕ) → p < sizes.processes → k < sizes.invocation
        → slice_index words (argument_word sizes p k) ≡ slice_index (g.argument p) k
    pub buffer : (b i : ℕ) → b < 2 * sizes.processes → i < buffer_words sizes
        → slice_index words (buffer_word sizes b i) ≡ g.buffer b i

  -- a process whose seat the seat id has taken in: it has no call pending, and these are its calls
  pub record IsTaken (local : ℕ → Local) (seat_of : ℕ → ℕ) (id : ℕ) (v : Known) (its : ProcessReturned) : Type 0 where
    pub inside : its.process < sizes.processes
    pub seat : seat_of its.process ≡ id
    pub apart : v.first ≤ its.process → its.process < v.first + v.count → ⊥
    pub idle : (local its.process).stage ≡ Idle []
    pub calls : (local its.process).own ≡ its.calls

  -- the seat id tells of each of its processes what there is
  pub record Tells {O : Type 0} (o : O) (local : ℕ → Local) (seat_of : ℕ → ℕ) (id : ℕ) (v : View O) : Type 0 where
    pub object : 1 ≤ v.known.count → v.object ≡ Some o
    pub processes : 1 ≤ v.known.count → v.known.sizes ≡ sizes
    pub each : (p : ℕ) → v.known.first ≤ p → p < v.known.first + v.known.count
        → (p < sizes.processes) × (seat_of p ≡ id) × (local p ≡ v.known.local)
    pub taken : (its : ProcessReturned) → Contains v.known.taken its → IsTaken local seat_of id v.known its

  pub record IsShown {O : Type 0} (meaning : O → Meaning) (o : O) (g : Board) (local : ℕ → Local) (seat_of : ℕ → ℕ)
      (s : State Seen (View O)) : Type 0 where
    pub widths : AreWidths (meaning o) sizes
    pub words : AreWords g s.words
    pub seats : (id : ℕ) (v : View O) → get_elem? s.views id ≡ some v → Tells o local seat_of id v
    pub sound : IsSound (meaning o).object sizes g local

-- the rule: the table shows some board, to which an execution has led
abbrev pub ShowsBoard : {O : Type 0} → (meaning : O → Meaning) → (o : O) → Sizes → State Seen (View O) → Type 0
ShowsBoard meaning o sizes s =
    (g : Board) × ((local : ℕ → Local) × ((seat_of : ℕ → ℕ) × IsShown sizes meaning o g local seat_of s
    × HasRun (meaning o).object sizes g local s.words))
