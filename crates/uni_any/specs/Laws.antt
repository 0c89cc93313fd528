-- What the views of seats tell, and what a step makes of a history.
use Rattle.std.specs.Prelude.{◌≡◌, ℕ, ◌+◌, List, [], ◌∷◌, Option, ◌++◌, drop, length, refl, slice_set}
use Rattle.seq_object.specs.Sequential.{Sequential}
use Rattle.triple_buffers.specs.Contents.{Contents, with_value}
use Rattle.uni_model.specs.AtomicObject.{Act, set_at}
use Rattle.uni_model.specs.AtomicObject.Act.{Respond}
use Rattle.uni_any.specs.Final.{KnownCalls}
use Rattle.uni_any.specs.Board.{Board, pending_of}
use Rattle.uni_any.specs.Ran.{IsStep, moment_of}
use Rattle.uni_any.specs.Shown.{IsShown, Letter}
use Rattle.uni_any.specs.declared.view.Local.{Local}
use Rattle.uni_any.specs.declared.view.Returned.{Returned}
use Rattle.uni_any.specs.declared.view.View.{View}
use lib.ListN.{get_elem?}
use mathlib.Core.Option.{some}

-- the responses of the calls from call k on
abbrev pub responses : {I R : Type 0} → (p k : ℕ) → List (Returned I R) → List (Act I R)
responses p k [] = []
responses p k (call ∷ calls) = Respond p k call.reply ∷ responses p (k + 1) calls

-- one of the seats, which is that of one process, tells of these calls
pub record IsToldBy {O I S R : Type 0} (views : List (View O I S R)) (its : KnownCalls I R) : Type 0 where
  pub id : ℕ
  pub view : View O I S R
  pub there : get_elem? views id ≡ some view
  pub alone : view.known.count ≡ 1
  pub process : view.known.first ≡ its.process
  pub own : view.known.local.own ≡ its.own
  pub pending : pending_of view.known.local.stage ≡ its.pending

module _ {O S I R : Type 0} (meaning : O → Sequential S I R) (o : O) (n : ℕ) where
  -- what there is then shows a board whose history has these acts more; process p alone stands elsewhere
  abbrev pub ShowsNext : Board I S R → (local : ℕ → Local I S R) → (seat_of : ℕ → ℕ) → Contents (Letter I S R) (View O I S R)
      → (p : ℕ) → Local I S R → (acts : List (Act I R)) → Type 0
  ShowsNext g local seat_of then p l acts =
      (g' : Board I S R) × IsShown n meaning o g' (set_at local p l) seat_of then × (g'.acts ≡ g.acts ++ acts)

  -- Seat id takes a step from a shown board to `next`. The board that is shown then has the acts appended that `makes`
  -- allows, `says` holds of the seat's new view, and the step is one that its process can take in an execution.
  abbrev pub Moves : (id : ℕ) → View O I S R
      → (next : Contents (Letter I S R) (View O I S R) → View O I S R → Contents (Letter I S R) (View O I S R))
      → (makes : Board I S R → (local : ℕ → Local I S R) → Contents (Letter I S R) (View O I S R) → View O I S R
      → List (Act I R) → Type 0)
      → (says : Contents (Letter I S R) (View O I S R) → View O I S R → Type 0) → Type 0
  Moves id v next makes says =
      (c : Contents (Letter I S R) (View O I S R)) (g : Board I S R) (local : ℕ → Local I S R) (seat_of : ℕ → ℕ)
      → IsShown n meaning o g local seat_of c → get_elem? c.views id ≡ some v
      → (w : View O I S R) × (acts : List (Act I R)) × ShowsNext g local seat_of (next c w) v.known.first w.known.local acts
      × makes g local c w acts × says c w
      × IsStep (meaning o) n (moment_of c local) v.known.first v.known.local (record {
        word = (next c w).words 0;
        buffers = (next c w).buffers;
        leaves = w.known.local;
        acts = acts;
      })

module _ {O I S R : Type 0} where
  -- there is next: the word S of this, a value written, or none where one was taken
  abbrev pub with_word : (f : ℕ → ℕ) → (id : ℕ) → Contents (Letter I S R) (View O I S R) → View O I S R
      → Contents (Letter I S R) (View O I S R)
  with_word f id c w = record {
    words = set_at c.words 0 (f (c.words 0));
    buffers = c.buffers;
    views = slice_set c.views id w;
  }

  abbrev pub with_letter : (from to : ℕ) → Option (Letter I S R) → (id : ℕ) → Contents (Letter I S R) (View O I S R)
      → View O I S R → Contents (Letter I S R) (View O I S R)
  with_letter from to letter id c w = record {
    words = c.words;
    buffers = with_value c.buffers from to letter;
    views = slice_set c.views id w;
  }

  -- the responses of the calls of the seat's process that have returned by a step
  abbrev pub returned_by : (before after : View O I S R) → List (Act I R)
  returned_by before after =
      responses before.known.first (length before.known.local.own) (drop (length before.known.local.own) after.known.local.own)

-- two calls more, of which the first was call 3 of process 1
sample_responses : responses {I = ℕ} {R = ℕ} 1 3 (record { inv = 5; reply = 7; after = 0; version = 1 }
    ∷ record { inv = 6; reply = 8; after = 1; version = 4 } ∷ []) ≡ Respond 1 3 7 ∷ Respond 1 4 8 ∷ []
sample_responses = refl
