-- What the steps on words append to the history of the board. The words are those of a table of the kit (`atomic_table`):
-- a `State` is the words with the view of each seat. `me` is the seat that takes the step: `me.0` is its view, and `me.1`
-- the slots that it has taken, which the table of a small object hasn't. `stepped s i x id me.1 v keeps` is s with x in
-- word i and v as the view of seat id; all else stays. `get_elem? s.views id` is the view of seat id.
use Rattle.std.specs.Prelude.{◌≡◌, ℕ, ◌==◌, List, [], ◌∷◌, ◌++◌, map, length, slice_index, slice_set, Option, Some}
use Rattle.std.specs.Prelude.{refl, if◌then◌else◌}
use mathlib.Core.Option.{some}
use lib.ListN.{get_elem?}
use Rattle.atomic_table.specs.Table.{State, Me, keeps, stepped}
use Rattle.uni_model.specs.AtomicObject.{Act, set_at}
use Rattle.uni_model.specs.AtomicObject.Act.{Invoke, Linearize, Respond}
use Rattle.uni_small.specs.Image.{Meaning, calls_seen, counter_sizes, sample_counter}
use Rattle.uni_small.specs.View.{Local}
use Rattle.uni_small.specs.Board.{Board, opened}
use Rattle.uni_small.specs.Ran.{GoesOn}
use Rattle.uni_small.specs.Shown.{IsShown}
use Rattle.uni_small.specs.declared.seat.Seen.{Seen}
use Rattle.uni_small.specs.declared.sizes.Sizes.{Sizes}
use Rattle.uni_small.specs.declared.view.View.{View}

module _ {O : Type 0} (meaning : O → Meaning) (o : O) (sizes : Sizes) (id : ℕ) (me : Me Seen (View O)) where
  -- A step of seat `id` turns word i from x into f x. Wherever the table shows a board g, there are a view v, which the
  -- seat has then, and a board g', so that, line by line:
  --   the table then shows g', and only the seat's process stands elsewhere, as v says
  --   `says` holds of x and of the seat as it is left
  --   the history of g' is that of g with `acts g x` appended
  --   each execution that led to the table before leads, by one step more of this process, to the table then
  abbrev pub Moves : (i : ℕ) → (f : ℕ → ℕ) → (acts : Board → (found : ℕ) → List (Act (List ℕ) (List ℕ)))
      → (says : ℕ → Me Seen (View O) → Type 0) → Type 0
  Moves i f acts says =
      (s : State Seen (View O)) (g : Board) (local : ℕ → Local) (seat_of : ℕ → ℕ)
      → IsShown sizes meaning o g local seat_of s
      → get_elem? s.views id ≡ some me.0
      → (v : View O) × ((g' : Board)
      × IsShown sizes meaning o g' (set_at local me.0.known.first v.known.local) seat_of (stepped s i (f (slice_index s.words i)) id me.1 v keeps)
      × says (slice_index s.words i) (v, me.1) × (g'.acts ≡ g.acts ++ acts g (slice_index s.words i))
      × GoesOn (meaning o).object sizes me.0.known.first g local s.words g' (set_at local me.0.known.first v.known.local)
      (slice_set s.words i (f (slice_index s.words i))))

-- no act
abbrev pub nothing : Board → (found : ℕ) → List (Act (List ℕ) (List ℕ))
nothing g found = []

-- a call begins
abbrev pub begins : Local → (p : ℕ) → (inv : List ℕ) → Board → (found : ℕ) → List (Act (List ℕ) (List ℕ))
begins l p inv g found = Invoke p (length l.own) inv ∷ []

-- where the exchange finds what the attempt began with, the calls that its scan saw take effect, in the order of their
-- processes
abbrev pub takes_effect : (s : ℕ) → (seen : List (Option (List ℕ))) → Board → (found : ℕ) → List (Act (List ℕ) (List ℕ))
takes_effect s seen g found = if found == s then map (λ c. Linearize c) (calls_seen g.image.applied 0 seen) else []

-- where the exchange of a direct attempt finds it, the call of process p begins, and takes effect with those that the
-- scan saw
abbrev pub takes_effect_own : Local → (p : ℕ) → (inv : List ℕ) → (s : ℕ) → (seen : List (Option (List ℕ))) → Board
    → (found : ℕ) → List (Act (List ℕ) (List ℕ))
takes_effect_own l p inv s seen g found =
    if found == s then Invoke p (length l.own) inv ∷ map (λ c. Linearize c) (calls_seen g.image.applied 0 (slice_set seen p (Some inv))) else []

-- a call ends with the reply of which these words were loaded, and then the one that was found
abbrev pub ends : Local → (p : ℕ) → (loaded : List ℕ) → Board → (found : ℕ) → List (Act (List ℕ) (List ℕ))
ends l p loaded g found = Respond p (length l.own) (loaded ++ found ∷ []) ∷ []

-- a batch of three takes effect by the exchange of S = 0, and not by one that finds version 1
sample_batch : takes_effect 0 (Some (5 ∷ []) ∷ Some (3 ∷ []) ∷ Some (1 ∷ []) ∷ []) (opened sample_counter (counter_sizes 3)) 0
    ≡ Linearize (record { process = 0; nth = 0; inv = 5 ∷ [] }) ∷ Linearize (record { process = 1; nth = 0; inv = 3 ∷ [] })
    ∷ Linearize (record { process = 2; nth = 0; inv = 1 ∷ [] }) ∷ []
sample_batch = refl

sample_missed : takes_effect 0 (Some (5 ∷ []) ∷ []) (opened sample_counter (counter_sizes 3)) 130 ≡ []
sample_missed = refl
