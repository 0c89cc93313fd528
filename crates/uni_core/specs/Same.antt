-- Worlds that are the same, but for what is counted of the latest calls: that changes nothing that comes later.
use Rattle.std.specs.Prelude.{ℕ, Bool, Option, is_some}
use Rattle.cell_arena.specs.CellRecord.{CellRecord}
use Rattle.uni_model.specs.Worlds.{WorldOf}
use Rattle.uni_core.specs.declared.local.Local.{Local}
use Rattle.uni_core.specs.declared.stage.Pending.{Pending}

-- a world without what is counted of the latest calls
abbrev pub without_counts : {S I R : Type 0} → WorldOf S I R → WorldOf S I R
without_counts w = record w { among = λ p. 0; steps = λ p. 0; turns = λ p. 0 }

-- a cell, with whether a value is settled in it in the place of that value
pub record Outline (I : Type 0) : Type 0 where
  pub inv : Option I
  pub seq : ℕ
  pub before : Option ℕ
  pub after : Option ℕ
  pub is_settled : Bool

abbrev pub outline : {S I R : Type 0} → CellRecord S I R → Outline I
outline c = record { inv = c.inv; seq = c.seq; before = c.before; after = c.after; is_settled = is_some c.new }

-- where a process stands
pub record Standing : Type 0 where
  pub call : Option Pending
  pub begun : ℕ

abbrev pub standing_of : Local → Standing
standing_of l = record { call = l.call; begun = l.begun }
