-- What a drawing has to show of a run, mark by mark, whatever it is drawn with: from which event's column to which, in the lanes of
-- which processes, and with what text.
use Rattle.std.specs.Prelude.{◌≡◌, ℕ, zero, suc, ◌+◌, ◌-◌, ◌==◌, nat_lt, if◌then◌else◌, List, [], ◌∷◌, ◌++◌, map, Option, Some, None, Vec, codes, refl}
use Rattle.run_layout.specs.Vocabulary.{flat_map, digits, option_map_or, Global, Look, Edge, Start, Before, After, Meaning, PlacedRemark, StepMark, Dot, EraLine, End, Called, EraMarks, RunMarks, Mark}
use Rattle.run_layout.specs.Wording.{name_text, label_text, counts_text, line_text, Label, labels_of, step_title}
use Rattle.run_layout.specs.declared.marked.Mark.TheVariants as mark
use Rattle.run_layout.specs.declared.marked.Sign as code

-- what is to be shown: a mark, the edges between which it stands, its lanes, and what it says
pub record Sign : Type 0 where
  pub mark : Mark
  pub columns : Edge × Edge
  pub lanes : Option (ℕ × ℕ)
  pub text : List ℕ

-- what the code's sign is
abbrev pub sign_shown : code.Sign → Sign
sign_shown s = record { mark = s.mark; columns = s.columns; lanes = s.lanes; text = s.text.items }

-- a list has these more at its end, as its items are shown
abbrev pub Adds : {A B : Type 0} → (shown : A → B) → (old new : Vec A Global) → List B → Type 0
Adds shown old new more = map shown new.items ≡ map shown old.items ++ more

abbrev pub sign_of : Mark → Edge × Edge → (lanes : Option (ℕ × ℕ)) → (text : List ℕ) → Sign
sign_of mark columns lanes text = record { mark = mark; columns = columns; lanes = lanes; text = text }

-- a mark in the column of an event and the lane of a process
abbrev pub at : Mark → (event process : ℕ) → (text : List ℕ) → Sign
at mark event process text = sign_of mark (Before event, After event) (Some (process, process)) text

-- the names of so many processes from one on, in the column of an event
unfoldable pub names_from : (event process count : ℕ) → List Sign
names_from event process zero = []
names_from event process (suc n) = at mark.Name event process (name_text process) ∷ names_from event (process + 1) n

-- the names of the lanes that an era has and the one before it hasn't, where the era before it ends; that had so many lanes
abbrev pub new_names : (named : ℕ) → List EraMarks → List Sign
new_names named [] = []
new_names named (era ∷ eras) = names_from (era.from - 1) named (era.processes - named) ++ new_names era.processes eras

-- the end of an era, through all lanes
abbrev pub line_sign : EraLine → Sign
line_sign line = sign_of mark.End (Before line.event, After line.event) None (line_text line)

-- a call, from the column of its begin to that of its end; one that has not returned stays open, up to the end of all
abbrev pub bar_sign : (events : ℕ) → Called → Sign
bar_sign events bar =
    sign_of (option_map_or (λ _. mark.Bar) bar.end mark.Open) (Before bar.from, After (option_map_or (λ end. end.event) bar.end events))
    (Some (bar.call.process, bar.call.process)) []

-- the arrow of help, from the lane of who helps down or up to that of the call
abbrev pub arrow_signs : Dot → List Sign
arrow_signs dot =
    if dot.call.process == dot.by then []
    else if nat_lt dot.by dot.call.process then sign_of mark.Down (Before dot.event, After dot.event) (Some (dot.by, dot.call.process)) [] ∷ []
    else sign_of mark.Up (Before dot.event, After dot.event) (Some (dot.call.process, dot.by)) [] ∷ []

-- a step, with its title
abbrev pub step_sign : StepMark → Sign
step_sign step = at (mark.Step step.kind step.changed) step.event step.process (step_title step)

-- the point where a call takes effect, in its own lane
abbrev pub dot_sign : Dot → Sign
dot_sign dot = at mark.Dot dot.event dot.call.process []

-- the label of a call at its begin, and where it has returned its counts, which are over with its end
abbrev pub counts_sign : (process : ℕ) → End → Sign
counts_sign process end = sign_of mark.Counts (Start, After end.event) (Some (process, process)) (counts_text end)

abbrev pub text_signs : Called → List Sign
text_signs bar =
    at mark.Label bar.from bar.call.process (label_text bar) ∷ option_map_or (λ end. counts_sign bar.call.process end ∷ []) bar.end []

-- where so many events are over
abbrev pub after_events : (count : ℕ) → Edge
after_events count = if count == 0 then Start else After (count - 1)

-- a refusal, above the lanes, after so many events and before the next one
abbrev pub refusal_signs : Label → List Sign
refusal_signs label =
    option_map_or (λ text. sign_of mark.Refusal (after_events label.before, Before label.before) None text ∷ []) label.text []

-- all of them, from the lowest on; no era before the first one has fewer lanes, so that its lanes have no names among them
abbrev pub signs_of : RunMarks → List PlacedRemark → List Sign
signs_of marks remarks =
    new_names 64 marks.eras
    ++ map line_sign marks.lines
    ++ map (bar_sign marks.events) marks.bars
    ++ flat_map arrow_signs marks.dots
    ++ map step_sign marks.steps
    ++ map dot_sign marks.dots
    ++ flat_map text_signs marks.bars
    ++ flat_map refusal_signs (labels_of remarks)

-- ---- what it is drawn as

-- a shape of a sign, in these lanes; most are in the sign's own
abbrev pub part_in : Option (ℕ × ℕ) → Look → Sign → (text : List ℕ) → Meaning
part_in lanes look sign text = record { look = look; columns = sign.columns; lanes = lanes; text = text }

abbrev pub part : Look → Sign → (text : List ℕ) → Meaning
part look sign text = part_in sign.lanes look sign text

-- process 0 links the cell of process 1: an arrow goes down to it; from process 2 one goes up, and one's own cell has none
abbrev linked : (by : ℕ) → Dot
linked by = record { event = 7; call = record { process = 1; nth = 0 }; by = by }

arrows_of_three : flat_map arrow_signs (linked 0 ∷ linked 2 ∷ linked 1 ∷ [])
    ≡ sign_of mark.Down (Before 7, After 7) (Some (0, 1)) [] ∷ sign_of mark.Up (Before 7, After 7) (Some (1, 2)) [] ∷ []
arrows_of_three = refl

-- a reshape from one process to two, by the first event, names the lane of the second one
name_of_new : new_names 64
    (record { from = 0; last = Some 0; processes = 1; anchor = 1; cells = [] }
    ∷ record { from = 1; last = None; processes = 2; anchor = 1; cells = [] } ∷ [])
    ≡ at mark.Name 0 1 (codes "P1") ∷ []
unfolding names_from digits
name_of_new = refl
