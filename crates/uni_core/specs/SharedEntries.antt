-- What the shared places of a world contain, read from its arena and its entries.
use Rattle.std.specs.Prelude.{◌≡◌, ℕ, List, Option, None, if◌then◌else◌, nat_lt, option_map, slice_get, IfSome}
use Rattle.std.specs.Prelude.{slice_index_or, ◌&&◌, ◌+◌, ◌-◌}
use Rattle.std.specs.Option.{option_map_or}
use Rattle.cell_arena.specs.CellRecord.{CellRecord, index_of}
use Rattle.cell_arena.specs.Arena.{Arena, processes_of, made_of, cell_of}
use Rattle.uni_model.specs.Places.{Name, Memory}
use Rattle.uni_model.specs.Places.Name.{Anchor, Of}
use Rattle.uni_model.specs.Worlds.{anchor_memory}
use Rattle.uni_model.specs.Indices.{name_from}
use Rattle.uni_model.specs.Places.Place.{Announced, HeadOf, InvOf, SeqOf, AfterOf, NewOf, BeforeOf}
use Rattle.uni_model.specs.Places.Content.{CellName, Invocation, Number, Link, Settled}

-- the shared places as the code has them: the cells, and by process the entries of announce and head, and the number of its first
-- call of the era
pub record SharedEntries (S I R : Type 0) : Type 0 where
  pub cells : Arena S I R
  pub announce : List ℕ
  pub heads : List ℕ
  pub first : List ℕ

-- the number of a process's first call of the era
abbrev pub first_of : {S I R : Type 0} → SharedEntries S I R → ℕ → ℕ
first_of a p = slice_index_or a.first p 0

-- the name of the cell at an index
abbrev pub named : {S I R : Type 0} → SharedEntries S I R → ℕ → Name
named a = name_from (processes_of a.cells) (first_of a)

-- the cell of a name, of the cells that stand at indices
abbrev pub cell_named : {S I R : Type 0} → (n : ℕ) → (first : ℕ → ℕ) → (ℕ → Option (CellRecord S I R)) → Name
    → Option (CellRecord S I R)
cell_named n first cell Anchor = cell 0
cell_named n first cell (Of p k) = if nat_lt p n && nat_lt (first p) (k + 1) then cell (index_of n p (k - first p)) else None

-- the cell that an entry names
abbrev pub entry_name : (n : ℕ) → (first : ℕ → ℕ) → List ℕ → ℕ → Name
entry_name n first entries p = option_map_or (name_from n first) (slice_get entries p) Anchor

-- what the shared places of n processes contain
abbrev pub memory_at : {S I R : Type 0} → (n : ℕ) → (first : ℕ → ℕ) → (ℕ → Option (CellRecord S I R))
    → (announce heads : List ℕ) → Memory S I R
memory_at n first cell announce heads (Announced p) = CellName (entry_name n first announce p)
memory_at n first cell announce heads (HeadOf p) = CellName (entry_name n first heads p)
memory_at n first cell announce heads (InvOf x) = Invocation (option_map_or (λ c. c.inv) (cell_named n first cell x) None)
memory_at n first cell announce heads (SeqOf x) = Number (option_map_or (λ c. c.seq) (cell_named n first cell x) 0)
memory_at n first cell announce heads (AfterOf x) =
    Link (option_map_or (λ c. option_map (name_from n first) c.after) (cell_named n first cell x) None)
memory_at n first cell announce heads (NewOf x) = Settled (option_map_or (λ c. c.new) (cell_named n first cell x) None)
memory_at n first cell announce heads (BeforeOf x) =
    Link (option_map_or (λ c. option_map (name_from n first) c.before) (cell_named n first cell x) None)

abbrev pub memory_of : {S I R : Type 0} → SharedEntries S I R → Memory S I R
memory_of a = memory_at (processes_of a.cells) (first_of a) (cell_of a.cells) a.announce a.heads

-- the same processes, rows, counts of cells and first calls
pub record HasShapeOf {S I R : Type 0} (old new : SharedEntries S I R) : Type 0 where
  pub processes : processes_of new.cells ≡ processes_of old.cells
  pub row : new.cells.row ≡ old.cells.row
  pub made : (p : ℕ) → made_of new.cells p ≡ made_of old.cells p
  pub first : new.first ≡ old.first

-- the memory is the anchor alone, with the state and the number of a cell
abbrev pub IsRenewed : {S I R : Type 0} → Option (CellRecord S I R) → Memory S I R → Type 0
IsRenewed last m = IfSome last (λ c. IfSome c.new (λ new. m ≡ anchor_memory new.0 c.seq))
