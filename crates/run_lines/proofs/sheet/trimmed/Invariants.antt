use Rattle.run_lines.proofs.Vocabulary.{length, suffix_len, take, ◌+◌, ◌==◌, ◌≡◌, ◌≤◌}
use Rattle.run_lines.proofs.sheet.trimmed.Given as goal

-- the blanks so far, and those before them
abbrev pub invariant-loop-end : goal.invariant-loop-end
invariant-loop-end l = record {
  within : l.end ≤ length l.text;
  blanks : l.end + suffix_len (λ letter. letter == 32) l.text ≡ length l.text + suffix_len (λ letter. letter == 32) (take l.end l.text);
}

abbrev pub decreases-loop-end : goal.decreases-loop-end
decreases-loop-end l = l.end
