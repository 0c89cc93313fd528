use Rattle.run_lines.proofs.Vocabulary.{Ink, get_or, if◌then◌else◌, length, letter_in, letter_seen, nat_le, nat_lt, ℕ, ◌&&◌, ◌+◌, ◌-◌, ◌<◌, ◌≡◌}
use Rattle.run_lines.proofs.canvas.Stroke.put.Given as goal

-- the letter at a column once so many letters are put from a column on
abbrev pub seen_until : Ink → (from count column under : ℕ) → ℕ
seen_until ink from count column under = if nat_le from column && nat_lt column (from + count) then letter_seen ink under (letter_in ink (column - from)) else under

abbrev pub invariant-loop-place : goal.invariant-loop-place
invariant-loop-place l = (column : ℕ) → column < length l.initial.letters → get_or l.letters column 0 ≡ seen_until l.self.ink l.from l.place column (get_or l.initial.letters column 0)
