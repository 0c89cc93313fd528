-- What is heard of a script, line by line.
use Rattle.uni_script.proofs.Vocabulary.{Kind, List, None, Option, Refused, RemarkAt, RemarkText, Some, [], ap, append-nil, arith, false, heading_of_line, heard_events, heard_of_line, heard_of_lines, heard_remarks, heard_then, is_note, length, length-append, nothing, option_map, outcome_of_line, refl, remark_of_line, remarks_after, remarks_of_line, remarks_of_note, replicate, true, words_of_text, ℕ, ◌+◌, ◌-◌, ◌∷◌, ◌≡◌, ◌≤◌}

-- a line's events, and then its remarks
pub heard_events-remarks : (number count : ℕ) (remarks : List RemarkAt) → heard_then (heard_events number count) (heard_remarks remarks) ≡ record { remarks = remarks; lines = replicate count number }
heard_events-remarks number count remarks = rw (append-nil (replicate count number)) refl

module _ {B : Type 0} (kind : Kind B) (number : ℕ) where
  -- a note before the header is heard, and the header isn't
  pub heard_of_line-note : (line : List ℕ) → is_note line ≡ true → heard_remarks (remarks_of_note number None line) ≡ heard_of_line kind number None None line
  heard_of_line-note line note = rw note refl

  pub heard_of_line-header : (after : Option B) (line : List ℕ) → is_note line ≡ false → nothing ≡ heard_of_line kind number None after line
  heard_of_line-header after line other = rw other refl

  -- a note after the header is heard
  pub heard_of_line-note_after : (b : B) (line : List ℕ) → is_note line ≡ true → heard_remarks (remarks_of_note number (Some (kind.events b)) line) ≡ heard_of_line kind number (Some b) (Some b) line
  heard_of_line-note_after b line note =
      let none : 0 ≡ kind.events b - kind.events b = omega arith in
      rw note (ap (λ k. record { remarks = remarks_of_note number (Some (kind.events b)) line; lines = replicate k number }) none)

  -- and of a command its refusal, and its events
  pub heard_of_line-command : (b c : B) (line : List ℕ) → is_note line ≡ false
      → record {
        remarks = remarks_after number (kind.events b) (option_map (Refused line) (kind.refusal b (words_of_text line)));
        lines = replicate (kind.events c - kind.events b) number;
      } ≡ heard_of_line kind number (Some b) (Some c) line
  heard_of_line-command b c line other = rw other refl

-- a line has one remark at most
remarks_after-length : (line before : ℕ) (text : Option RemarkText) → length (remarks_after line before text) ≤ 1
remarks_after-length line before None = omega arith
remarks_after-length line before (Some text) = omega arith

module _ {B : Type 0} (kind : Kind B) where
  remarks_of_line-length : (number : ℕ) (b : Option B) (line : List ℕ) → length (remarks_of_line kind number b line) ≤ 1
  remarks_of_line-length number None line = remarks_after-length number 0 (heading_of_line line)
  remarks_of_line-length number (Some b) line = remarks_after-length number (kind.events b) (remark_of_line kind b line)

  -- so many lines have as many remarks at most
  pub remarks_of_lines-length : (number : ℕ) (b : Option B) (lines : List (List ℕ)) → length (heard_of_lines kind number b lines).remarks ≤ length lines
  remarks_of_lines-length number b [] = omega arith
  remarks_of_lines-length number b (line ∷ lines) =
      let after = (outcome_of_line kind number b line).session in
      let rest = (heard_of_lines kind (number + 1) after lines).remarks in
      let one = remarks_of_line-length number b line in
      let more = remarks_of_lines-length (number + 1) after lines in
      let both = length-append (remarks_of_line kind number b line) rest in
      omega arith
