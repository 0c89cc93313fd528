-- The page of a script, and the rows of the table that it shows where no script runs.
use Rattle.std.specs.Prelude.{List, Option, Some, [], codes, decimal, false, flat_map, if◌then◌else◌, refl, ℕ, ◌++◌, ◌==◌, ◌∷◌, ◌≡◌, ◌≢◌}
use Rattle.run_tell.specs.Vocabulary.{Begins, Begun, Change, Ended, Ends, Frame, PlacedRemark, Range, ScriptSession, Stepped, Steps, cell_text, changes_between, counted_text, letter_of, name_text, option_map_or}
use Rattle.svg_text.specs.Svg.{escaped as escaped_text}
use Rattle.run_tell.specs.Sentences.{begun_sentence, change_words, end_sentence, opening_words, remark_words, sentence}
use Rattle.run_tell.specs.Told.{IsToldBy, Wording, text_of_session}
use Rattle.run_tell.specs.TraceLines.{json_wording}
use Rattle.run_tell.specs.declared.viewer.TheConstants.{END, MIDDLE, START}

-- a cell with this text, and a row of cells
abbrev pub cell : List ℕ → List ℕ
cell text = codes "<td>" ++ escaped_text text

unfoldable pub row_text : List (List ℕ) → List ℕ
row_text cells = codes "<tr>" ++ flat_map cell cells ++ codes "\n"

-- what an event changed, a line for each place
abbrev pub changed_words : List Change → List ℕ
changed_words changes = flat_map (λ c. change_words c ++ codes "\n") changes

-- what a call has come to with a step: its own steps and turns so far, and the reply where it has returned
abbrev pub reply_words : (reply : List ℕ) → List ℕ
reply_words reply = codes ", reply " ++ reply

abbrev pub stage_words : Stepped → List ℕ
stage_words s =
    counted_text s.steps (codes "step") (codes "steps") ++ codes ", " ++ counted_text s.turns (codes "turn") (codes "turns")
    ++ option_map_or reply_words s.reply []

-- The cells of a row: the number of the event, its process, its call, the letter of its kind, what happened, what changed, and what the
-- call has come to; what there isn't is left empty.
abbrev pub begun_cells : (event : ℕ) → Begun → List (List ℕ)
begun_cells k b =
    decimal k ∷ name_text b.call.process ∷ cell_text (Some b.call) ∷ [] ∷ begun_sentence b
    ∷ changed_words (changes_between b.before b.after) ∷ [] ∷ []

abbrev pub step_cells : (event : ℕ) → Stepped → List (List ℕ)
step_cells k s =
    decimal k ∷ name_text s.call.process ∷ cell_text (Some s.call) ∷ (letter_of s.kind ∷ []) ∷ sentence s
    ∷ changed_words (changes_between s.before s.after) ∷ stage_words s ∷ []

abbrev pub end_cells : (event : ℕ) → Ended → List (List ℕ)
end_cells k e = decimal k ∷ [] ∷ [] ∷ [] ∷ end_sentence e ∷ [] ∷ [] ∷ []

abbrev pub frame_cells : (event : ℕ) → Frame → List (List ℕ)
frame_cells k (Begins b) = begun_cells k b
frame_cells k (Steps s) = step_cells k s
frame_cells k (Ends e) = end_cells k e

-- how a run opened, and what is told beside its events
abbrev pub told_cells : (words : List ℕ) → List (List ℕ)
told_cells words = [] ∷ [] ∷ [] ∷ [] ∷ words ∷ [] ∷ [] ∷ []

-- a run, in rows
abbrev pub rows_wording : Wording
rows_wording =
    record {
      is_whole = false;
      opening = λ o. row_text (told_cells (opening_words o));
      event = λ k line scene. row_text (frame_cells k scene.frame);
      remark = λ one. row_text (told_cells (remark_words one.remark));
    }

a_note_with_an_element : row_text (told_cells (codes "# <b>"))
    ≡ codes "<tr><td><td><td><td><td># &lt;b&gt;<td><td>\n"
unfolding row_text
a_note_with_an_element = refl

two_places_changed : changed_words (record { name = codes "0.0.state"; before = codes "?"; after = codes "[5]" }
    ∷ record { name = codes "0.0.reply"; before = codes "?"; after = codes "ok" } ∷ [])
    ≡ codes "0.0.state: ? -> [5]\n0.0.reply: ? -> ok\n"
two_places_changed = refl

-- a byte of JSON as it stands in a page: `<` and `&`, which JSON has in strings alone, by their codes
abbrev pub escaped_byte : ℕ → List ℕ
escaped_byte b = if b == 60 then codes "\\u003c" else if b == 38 then codes "\\u0026" else b ∷ []

abbrev pub escaped : List ℕ → List ℕ
escaped json = flat_map escaped_byte json

-- a byte that begins no element, ends none, and names no character
pub record IsPlain (b : ℕ) : Type 0 where
  pub no_element : b ≢ 60
  pub no_name : b ≢ 38

-- the rows of a table, and what a page walks through, between three texts
unfoldable pub page_text : (start rows middle walked end : List ℕ) → List ℕ
page_text start rows middle walked end = start ++ rows ++ middle ++ escaped walked ++ end

-- those of the session which a script leaves, with the script's lines that stored its events, and what it tells beside them
abbrev pub page_between : (start middle end : List ℕ) → Range → ScriptSession → (lines : List ℕ) → List PlacedRemark → List ℕ
page_between start middle end range b lines remarks =
    page_text start (text_of_session rows_wording range b lines remarks) middle (text_of_session json_wording range b lines remarks)
    end

-- the reader had a script that can be told, and these are the chosen events of its run, in rows and in lines of JSON between the
-- fixed texts
unfoldable pub IsPage : Range → (left : Option (List ℕ)) (text : List ℕ) → Type 0
IsPage range left text = IsToldBy (page_between START.now MIDDLE.now END.now range) range left text

escaped_note : escaped (codes "a</script>&") ≡ codes "a\\u003c/script>\\u0026"
escaped_note = refl
