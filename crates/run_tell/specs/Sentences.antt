-- The sentences of a run, and what steps do to their places.
use Rattle.std.specs.Prelude.{List, None, Option, Some, [], codes, decimal, false, flat_map, if◌then◌else◌, length, nat_le, refl, ℕ, ◌++◌, ◌∷◌, ◌≡◌}
use Rattle.run_tell.specs.Vocabulary.{Begins, Begun, Change, Count, Ended, Ends, Field, Frame, Heading, Held, Idle, Note, Refusal, Refused, Remark, Start, StepKind, Stepped, Steps, alone, cell_text, changes_between, counted_text, digits, letter_of}
use Rattle.run_layout.specs.Wording.{refused_text}
use Rattle.run_layout.specs.Wording.{lines_of}
use Rattle.uni_core.specs.declared.stage.StepKind.TheVariants.{Announce, DecideAfter, DecideNew, Finish, ReadAnnounce, ReadHelpSeq, ScanHead, ScanSeq, Test, WriteBefore, WriteHead, WriteScan, WriteSeq}
use Rattle.run_tell.specs.Told.{Opening, Wording}

-- what a kind of step does to its place
abbrev pub access_of : StepKind → List ℕ
access_of Announce = codes "writes"
access_of ScanHead = codes "reads"
access_of ScanSeq = codes "reads"
access_of WriteScan = codes "writes"
access_of Test = codes "reads"
access_of ReadAnnounce = codes "reads"
access_of ReadHelpSeq = codes "reads"
access_of DecideAfter = codes "proposes"
access_of DecideNew = codes "proposes"
access_of WriteBefore = codes "writes"
access_of WriteSeq = codes "writes"
access_of WriteHead = codes "writes"
access_of Finish = codes "writes"

-- ---- lines

-- a line that goes on from the one above
abbrev pub indented : List ℕ → List ℕ
indented line = codes "        " ++ line ++ codes "\n"

-- lines of which each but the first goes on from the one above
abbrev pub broken : List (List ℕ) → List ℕ
broken [] = []
broken (first ∷ rest) = first ++ codes "\n" ++ flat_map indented rest

-- words in one line where they have room in 100 columns, and else in lines of at most so many
abbrev pub line_text : List ℕ → List ℕ
line_text words = if nat_le (length words) 100 then words ++ codes "\n" else broken (lines_of 200 92 words)

-- a place that has changed
abbrev pub change_words : Change → List ℕ
change_words c = c.name ++ codes ": " ++ c.before ++ codes " -> " ++ c.after

abbrev pub changes_text : List Change → List ℕ
changes_text changes = flat_map (λ c. line_text (codes "    " ++ change_words c)) changes

-- ---- events

-- a call that begins
abbrev pub begun_sentence : Begun → List ℕ
begun_sentence b = codes "calls " ++ b.words ++ codes ": its cell is " ++ cell_text (Some b.call) ++ codes "."

-- what the place of a step that reads or writes is to its process
abbrev pub role_of : StepKind → List ℕ
role_of Announce = codes ", its own cell."
role_of ScanHead = codes ", in its scan."
role_of ScanSeq = codes ", the number of that head."
role_of WriteScan = codes ", the greatest of the heads."
role_of Test = codes ", the number of its own cell."
role_of ReadAnnounce = codes ", whose turn it is."
role_of ReadHelpSeq = codes ", the number of that cell."
role_of DecideAfter = codes "."
role_of DecideNew = codes "."
role_of WriteBefore = codes ", the way back."
role_of WriteSeq = codes ", the number of that cell."
role_of WriteHead = codes ", and moves on."
role_of Finish = codes "."

-- a step that reads or writes
abbrev pub plain_words : Stepped → List ℕ
plain_words s = access_of s.kind ++ codes " " ++ s.after.field.name ++ codes ": " ++ s.after.field.text ++ role_of s.kind

-- the last step of a call: its reply, how many own steps and turns it took, and what its place holds
abbrev pub return_words : (reply : List ℕ) → Stepped → List ℕ
return_words reply s =
    codes "returns " ++ reply ++ codes " after " ++ counted_text s.steps (codes "step") (codes "steps") ++ codes " and "
    ++ counted_text s.turns (codes "turn") (codes "turns") ++ codes "; " ++ s.after.field.name ++ codes " is " ++ s.after.field.text
    ++ codes "."

-- what is proposed for a place
abbrev pub reply_words : Option Field → List ℕ
reply_words None = []
reply_words (Some reply) = codes " and " ++ reply.text ++ codes " for " ++ reply.name

abbrev pub proposed_words : Held → List ℕ
proposed_words h = codes "proposes " ++ h.field.text ++ codes " for " ++ h.field.name ++ reply_words h.reply

-- what became of it: it won where anything has changed
abbrev pub outcome_words : List Change → (after : Held) → List ℕ
outcome_words [] after = codes "; " ++ after.field.text ++ codes " is there already: lost."
outcome_words (c ∷ changes) after = codes ": won."

-- the sentence of a step
abbrev pub sentence_by : (proposed : Option Held) (reply : Option (List ℕ)) → Stepped → List ℕ
sentence_by (Some proposed) reply s = proposed_words proposed ++ outcome_words (changes_between s.before s.after) s.after
sentence_by None (Some reply) s = return_words reply s
sentence_by None None s = plain_words s

abbrev pub sentence : Stepped → List ℕ
sentence s = sentence_by s.proposed s.reply s

-- the end of an era
abbrev pub end_word : Option ℕ → List ℕ
end_word None = codes "trim"
end_word (Some processes) = codes "reshape to " ++ counted_text processes (codes "process") (codes "processes")

unfoldable pub number_words : (number : ℕ) → List ℕ
number_words number = codes ": the anchor alone is left, with number " ++ decimal number ++ codes " and state "

abbrev pub end_sentence : Ended → List ℕ
end_sentence e = end_word e.reshaped ++ number_words e.number ++ e.anchor.field.text ++ codes "."

-- what an event did, whose event it is with the letter of its kind, and both with its number
abbrev pub frame_sentence : Frame → List ℕ
frame_sentence (Begins b) = begun_sentence b
frame_sentence (Steps s) = sentence s
frame_sentence (Ends e) = end_sentence e

abbrev pub frame_start : Frame → List ℕ
frame_start (Begins b) = codes "P" ++ decimal b.call.process ++ codes "  "
frame_start (Steps s) = (codes "P" ++ decimal s.call.process ++ codes "  ") ++ (letter_of s.kind ∷ []) ++ codes "  "
frame_start (Ends e) = []

abbrev pub frame_words : (event : ℕ) → Frame → List ℕ
frame_words k f = decimal k ++ codes "  " ++ frame_start f ++ frame_sentence f

-- the places that it changed
abbrev pub changes_in : Frame → List Change
changes_in (Begins b) = changes_between b.before b.after
changes_in (Steps s) = changes_between s.before s.after
changes_in (Ends e) = []

-- an event, and under it what it changed
abbrev pub frame_text : (event : ℕ) → Frame → List ℕ
frame_text k f = line_text (frame_words k f) ++ changes_text (changes_in f)

-- ---- what is told beside the events

abbrev pub refused_words : (command : List ℕ) → Refusal → List ℕ
refused_words command refusal = refused_text command refusal ++ codes "."

abbrev pub remark_words : Remark → List ℕ
remark_words (Heading text) = codes "# " ++ text.items
remark_words (Note text) = codes "# " ++ text.items
remark_words (Refused command refusal) = refused_words command.items refusal

-- ---- the run

-- how many events are left out first, if some are
abbrev pub left_out_words : Option Start → List ℕ
left_out_words None = []
left_out_words (Some s) = codes " Left out first: " ++ counted_text s.events (codes "event") (codes "events") ++ codes "."

abbrev pub run_words : Opening → List ℕ
run_words o =
    o.object ++ codes ": " ++ counted_text o.processes (codes "process") (codes "processes") ++ codes ", at most "
    ++ counted_text o.row (codes "call") (codes "calls") ++ codes " each in an era; the anchor has number " ++ decimal o.number
    ++ codes " and state " ++ o.state ++ codes "."

-- how it opened, and that
abbrev pub opening_words : Opening → List ℕ
opening_words o = run_words o ++ left_out_words o.start

-- ---- rows

-- a step of process 1 at a link of the anchor, which held this before
abbrev link_step : StepKind → (before after : List ℕ) → (proposed : Option Held) → Stepped
link_step kind before after proposed =
    record {
      call = record { process = 1; nth = 0 };
      kind = kind;
      before = alone (codes "anchor.after") before;
      after = alone (codes "anchor.after") after;
      proposed = proposed;
      next = None;
      steps = 14;
      turns = 1;
      reply = None;
    }

lost_proposal : frame_words 10 (Steps (link_step DecideAfter (codes "0.0") (codes "0.0") (Some (alone (codes "anchor.after") (codes "1.0")))))
    ≡ codes "10  P1  L  proposes 1.0 for anchor.after; 0.0 is there already: lost."
unfolding digits
lost_proposal = refl

won_proposal : frame_words 10 (Steps (link_step DecideAfter (codes "?") (codes "1.0") (Some (alone (codes "anchor.after") (codes "1.0")))))
    ≡ codes "10  P1  L  proposes 1.0 for anchor.after: won."
unfolding digits
won_proposal = refl

read_head : sentence (record {
  call = record { process = 1; nth = 0 };
  kind = ScanHead;
  before = alone (codes "head[0]") (codes "anchor");
  after = alone (codes "head[0]") (codes "anchor");
  proposed = None;
  next = None;
  steps = 2;
  turns = 0;
  reply = None;
})
    ≡ codes "reads head[0]: anchor, in its scan."
read_head = refl

last_step : sentence (record {
  call = record { process = 1; nth = 0 };
  kind = Finish;
  before = alone (codes "head[1]") (codes "1.0");
  after = alone (codes "head[1]") (codes "1.0");
  proposed = None;
  next = None;
  steps = 14;
  turns = 1;
  reply = Some (codes "5");
})
    ≡ codes "returns 5 after 14 steps and 1 turn; head[1] is 1.0."
unfolding digits
last_step = refl

refused_step : refused_words (codes "step 1") (Idle 1) ≡ codes "step 1 refused: P1 has no call pending."
unfolding digits
refused_step = refl

refused_reshape : refused_words (codes "reshape 65") (Count 65) ≡ codes "reshape 65 refused: 65 isn't from 1 to 64."
unfolding digits
refused_reshape = refl

changed_entry : change_words (record { name = codes "announce[1]"; before = codes "anchor"; after = codes "1.0" })
    ≡ codes "announce[1]: anchor -> 1.0"
changed_entry = refl

-- a run, in words
abbrev pub steps_wording : Wording
steps_wording =
    record {
      is_whole = false;
      opening = λ o. line_text (opening_words o);
      event = λ k line scene. frame_text k scene.frame;
      remark = λ one. line_text (remark_words one.remark);
    }
