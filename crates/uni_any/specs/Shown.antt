-- What words, buffers and views show: the board, and where each process stands.
use Rattle.std.specs.Prelude.{◌≡◌, ℕ, ◌+◌, ◌<◌, ◌≤◌, Option, None, Some}
use Rattle.std.specs.declared.alloc.Global.{Global}
use Rattle.std.specs.declared.sync.Arc.{Arc}
use Rattle.seq_object.specs.Sequential.{Sequential}
use Rattle.triple_buffers.specs.Contents.{Contents}
use lib.ListN.{get_elem?}
use mathlib.Core.Option.{some}
use Rattle.uni_any.specs.Board.{Board, posted, word_of}
use Rattle.uni_any.specs.Invariant.{IsSound, seen_of}
use Rattle.uni_any.specs.News.{told_by}
use Rattle.uni_any.specs.declared.news.Block.{Block}
use Rattle.uni_any.specs.declared.news.News.{News}
use Rattle.uni_any.specs.declared.view.Local.{Local}
use Rattle.uni_any.specs.declared.view.Told.{Told}
use Rattle.uni_any.specs.declared.view.View.{View}

abbrev pub Letter : (I S R : Type 0) → Type 0
Letter I S R = Arc (News I (Block S R)) Global

-- what a reader knows once it has looked: what lies in the buffer, or what it took last
abbrev pub known_then : {I S R : Type 0} → Option (Letter I S R) → Told I S R → Told I S R
known_then None seen = seen
known_then (Some letter) seen = told_by letter

module _ {O I S R : Type 0} (n : ℕ) where
  pub record Tells (o : O) (local : ℕ → Local I S R) (seat_of : ℕ → ℕ) (id : ℕ) (v : View O I S R) : Type 0 where
    pub object : v.object ≡ o
    pub processes : v.known.processes ≡ n
    pub each : (p : ℕ) → v.known.first ≤ p → p < v.known.first + v.known.count
        → (p < n) × (seat_of p ≡ id) × (local p ≡ v.known.local)

  pub record IsShown (meaning : O → Sequential S I R) (o : O) (g : Board I S R) (local : ℕ → Local I S R)
      (seat_of : ℕ → ℕ) (c : Contents (Letter I S R) (View O I S R)) : Type 0 where
    pub few : (1 ≤ n) × (n ≤ 64)
    pub word : c.words 0 ≡ word_of g.number g.process
    pub buffers : (from to : ℕ) → from < n → to < n
        → known_then (c.buffers from to) (seen_of (meaning o) n (local to) from) ≡ posted (local from) to
    pub seats : (id : ℕ) (v : View O I S R) → get_elem? c.views id ≡ some v → Tells o local seat_of id v
    pub sound : IsSound (meaning o) n g local
