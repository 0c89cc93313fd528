use Rattle.std.proofs.Common.{◌≡◌, ◌<◌, ℕ, [], get_or}
use Rattle.cell_arena.proofs.rows.empty.Given as goal

-- the rows so far are empty
abbrev pub invariant-loop-row : goal.invariant-loop-row
invariant-loop-row g l = (p : ℕ) → p < l.row-index → get_or l.row-items p [] ≡ []
