-- Where a process stands in its call.
use Rattle.std.specs.Prelude.{ℕ}
use Rattle.uni_model.specs.Places.{Name}

-- the kind of a process's next step, with what the process has read that it still needs: in the scan the process q whose
-- head is read next, its head h, and the best cell so far with its number; then the cell c and its number, where the
-- process's own head is, the cell that it wants to help, the one that it proposes, and the one d that is settled after c
pub data Stage : Type 0 where
  Announce : Stage
  ScanHead : (q : ℕ) (best : Name) (best_seq : ℕ) → Stage
  ScanSeq : (q : ℕ) (best : Name) (best_seq : ℕ) (h : Name) → Stage
  WriteScan : (best : Name) (best_seq : ℕ) → Stage
  Test : (c : Name) (c_seq : ℕ) → Stage
  ReadAnnounce : (c : Name) (c_seq : ℕ) → Stage
  ReadHelpSeq : (c : Name) (c_seq : ℕ) (help : Name) → Stage
  DecideAfter : (c : Name) (c_seq : ℕ) (prefer : Name) → Stage
  DecideNew : (c : Name) (c_seq : ℕ) (d : Name) → Stage
  WriteBefore : (c : Name) (c_seq : ℕ) (d : Name) → Stage
  WriteSeq : (c : Name) (c_seq : ℕ) (d : Name) → Stage
  WriteHead : (c : Name) (c_seq : ℕ) (d : Name) → Stage
  Finish : (c_seq mine_seq : ℕ) → Stage

-- a call that is pending: its cell, and where its process stands
pub record Pending : Type 0 where
  pub mine : Name
  pub stage : Stage
