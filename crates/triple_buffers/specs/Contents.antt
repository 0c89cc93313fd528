-- What parties share, as plain data, and what a step may do with it.
use Rattle.std.specs.Prelude.{◌≡◌, ℕ, ◌++◌, List, [], ◌∷◌, Option, None, Some, slice_set}
use mathlib.Core.Option.{some}
use lib.ListN.{get_elem?}
use Rattle.uni_model.specs.AtomicObject.{set_at}

-- The words; of each party for each party the value that it wrote last, where that wasn't taken; and what each seat knows.
pub record Contents (T V : Type 0) : Type 0 where
  pub words : ℕ → ℕ
  pub buffers : (from to : ℕ) → Option T
  pub views : List V

-- what there is of one party for another is this, and of all others what it was
abbrev pub with_value : {A : Type 0} → (ℕ → ℕ → A) → (from to : ℕ) → A → ℕ → ℕ → A
with_value buffers from to value = set_at buffers from (set_at (buffers from) to value)

module _ {T V : Type 0} where
  -- at the start
  abbrev pub opening : V → Contents T V
  opening v = record { words = λ i. 0; buffers = λ from to. None; views = v ∷ [] }

module _ {T V : Type 0} (holds : Contents T V → Type 0) (id : ℕ) (v : V) where
  -- whatever there is when word i becomes f of what it was, the seat has a new view that keeps the rule, and `then` holds
  abbrev pub AllowsChange : (i : ℕ) → (ℕ → ℕ) → (then : ℕ → V → Type 0) → Type 0
  AllowsChange i f then =
      (c : Contents T V) → holds c → get_elem? c.views id ≡ some v
      → (w : V) × holds (record {
        words = set_at c.words i (f (c.words i));
        buffers = c.buffers;
        views = slice_set c.views id w;
      })
      × then (c.words i) w

  -- the same, where this value is written
  abbrev pub AllowsWrite : (from to : ℕ) → T → (then : V → Type 0) → Type 0
  AllowsWrite from to x then =
      (c : Contents T V) → holds c → get_elem? c.views id ≡ some v
      → (w : V) × holds (record {
        words = c.words;
        buffers = with_value c.buffers from to (Some x);
        views = slice_set c.views id w;
      })
      × then w

  -- the same, where what is found is taken
  abbrev pub AllowsTake : (from to : ℕ) → (then : Option T → V → Type 0) → Type 0
  AllowsTake from to then =
      (c : Contents T V) → holds c → get_elem? c.views id ≡ some v
      → (w : V) × holds (record {
        words = c.words;
        buffers = with_value c.buffers from to None;
        views = slice_set c.views id w;
      })
      × then (c.buffers from to) w

  -- the view is cut in two, and a new seat has the second
  abbrev pub AllowsSplit : (left right : V) → Type 0
  AllowsSplit left right =
      (c : Contents T V) → holds c → get_elem? c.views id ≡ some v
      → holds (record {
        words = c.words;
        buffers = c.buffers;
        views = slice_set c.views id left ++ right ∷ [];
      })
