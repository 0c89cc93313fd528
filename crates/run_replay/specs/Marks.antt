-- The marks of a run: what is drawn of its events, told by the events and the worlds before them.
use Rattle.std.specs.Prelude.{◌≡◌, ℕ, ◌+◌, ◌-◌, ◌==◌, if◌then◌else◌, List, [], ◌∷◌, ◌++◌, length, map, max, replicate, drop, true, false, Option, Some, None, option_map, refl, Bool}
use Rattle.run_replay.specs.Vocabulary.{Act, Anchor, Call, CallId, Entry, Event, Invoked, Language, Linearize, Pending, Reshape, Sequential, SpokenObject, Step, Trim, WorldOf, acts_of, kind_of, last_number, log, opened_world, option_map_or, option_or, response_of_step, seq_of, state_settled_at, text_of_words, world_after}
use Rattle.run_replay.specs.declared.marks.EraEnd.TheVariants as era
use Rattle.run_replay.specs.Held.{changes_place, sample, sample_language}
use Rattle.run_replay.specs.declared.marks.StepMark.{StepMark}
use Rattle.run_replay.specs.declared.marks.Dot.{Dot}
use Rattle.run_replay.specs.declared.marks.EraLine.{EraLine}
use Rattle.run_replay.specs.declared.marks.BarEnd.{BarEnd}
use Rattle.run_replay.specs.declared.marks.Bar.{Bar}
use Rattle.run_replay.specs.declared.marks.CellBox.{CellBox}
use Rattle.run_replay.specs.declared.marks.Era.{Era}
use Rattle.run_replay.specs.declared.marks.Marks.{Marks}

-- how a call ended: by which event, with which reply, after how many own steps and turns
pub record End : Type 0 where
  pub event : ℕ
  pub reply : List ℕ
  pub steps : ℕ
  pub turns : ℕ

-- a call: the event with which it began, its words, and how it ended, if it has
pub record Called : Type 0 where
  pub call : CallId
  pub from : ℕ
  pub words : List ℕ
  pub end : Option End

-- a cell of the list: its number, its call with its words, and the reply and the state after it, where they are settled
pub record Cell : Type 0 where
  pub number : ℕ
  pub call : CallId
  pub words : List ℕ
  pub reply : Option (List ℕ)
  pub state : Option (List ℕ)

-- an era: how many events came before it, its last event, where it has ended, its processes, the number of its anchor, and its cells
pub record EraMarks : Type 0 where
  pub from : ℕ
  pub last : Option ℕ
  pub processes : ℕ
  pub anchor : ℕ
  pub cells : List Cell

-- the marks of a run
pub record RunMarks : Type 0 where
  pub object : List ℕ
  pub events : ℕ
  pub steps : List StepMark
  pub bars : List Called
  pub dots : List Dot
  pub lines : List EraLine
  pub eras : List EraMarks

-- how many lanes there are: as many as an era has processes at most
abbrev pub lanes_of : List EraMarks → ℕ
lanes_of [] = 0
lanes_of (e ∷ es) = max e.processes (lanes_of es)

-- the step that an event is: the call that it is of, how many own steps that has taken with it, its kind, that of the stage at
-- which its process stands, and whether it changes its place
abbrev pub steps_by : {S I R : Type 0} → Sequential S I R → WorldOf S I R → (place : ℕ) → Event I → List StepMark
steps_by object w place (Step p) =
    let v = world_after object w (Step p) in
    option_map_or (λ (call : Pending).
    record {
      event = place;
      process = p;
      nth = v.begun p - 1;
      number = v.steps p;
      kind = kind_of call.stage;
      changed = changes_place object w p call;
    } ∷ []) (w.call p) []
steps_by object w place _ = []

-- the calls that take effect among acts, in order
abbrev pub linearized_in : {I R : Type 0} → List (Act I R) → List (Invoked I)
linearized_in [] = []
linearized_in (Linearize c ∷ acts) = c ∷ linearized_in acts
linearized_in (_ ∷ acts) = linearized_in acts

-- the dots of calls that take effect by a step of a process
abbrev pub dots_of : {I : Type 0} → (place p : ℕ) → List (Invoked I) → List Dot
dots_of place p calls = map (λ (c : Invoked _). record { event = place; call = record { process = c.process; nth = c.nth }; by = p }) calls

-- the dots of an event: a step by which a call takes effect, whose cell it links, is that call's linearization point
abbrev pub dots_by : {S I R : Type 0} → Sequential S I R → WorldOf S I R → (place : ℕ) → Event I → List Dot
dots_by object w place (Step p) = dots_of place p (linearized_in (acts_of object w (Step p)))
dots_by object w place _ = []

-- the line of an event that ends an era
abbrev pub lines_by : {S I R : Type 0} → WorldOf S I R → (place : ℕ) → Event I → List EraLine
lines_by w place Trim = record { event = place; end = era.Trim; number = last_number w } ∷ []
lines_by w place (Reshape n) = record { event = place; end = era.Reshape n; number = last_number w } ∷ []
lines_by w place _ = []

-- what the events of a run give, each with its place and the world before it, in order
abbrev pub along : {S I R A : Type 0} → Sequential S I R → (WorldOf S I R → ℕ → Event I → List A) → WorldOf S I R
    → (place : ℕ) → List (Event I) → List A
along object by w place [] = []
along object by w place (e ∷ es) = by w place e ++ along object by (world_after object w e) (place + 1) es

-- the box of an entry of the log, with the text of the state after it, where that is settled
abbrev pub box_of : {I R : Type 0} → Language I R → (state : Option (List ℕ)) → Entry I R → Cell
box_of l state e = record {
  number = e.number;
  call = record { process = e.call.process; nth = e.call.nth };
  words = text_of_words (l.inv_words e.call.inv);
  reply = option_map l.resp_text e.response;
  state = state;
}

-- the boxes of entries that stand in the list from a place on, each with the state that is settled in its cell
abbrev pub boxes_from : {S I R : Type 0} → Language I R → (S → List ℕ) → WorldOf S I R → (place : ℕ) → List (Entry I R) → List Cell
boxes_from l text w place [] = []
boxes_from l text w place (e ∷ es) =
    box_of l (option_map text (state_settled_at w place)) e ∷ boxes_from l text w (place + 1) es

-- on an object with its words
module _ {S I R : Type 0} (o : SpokenObject S I R) where
  -- how the next step of a process ends its call, if it has a response
  abbrev pub end_of_step : WorldOf S I R → (place p : ℕ) → Option End
  end_of_step w place p =
      let v = world_after o.object w (Step p) in
      option_map (λ r. record { event = place; reply = o.language.resp_text r; steps = v.steps p; turns = v.turns p })
      (response_of_step w p)

  -- how an event ends the call of process p
  abbrev pub end_by : (p : ℕ) → WorldOf S I R → (place : ℕ) → Event I → Option End
  end_by p w place (Step q) = if q == p then end_of_step w place q else None
  end_by p w place _ = None

  -- the first end of a call of process p in a run
  abbrev pub end_in : (p : ℕ) → WorldOf S I R → (place : ℕ) → List (Event I) → Option End
  end_in p w place [] = None
  end_in p w place (e ∷ es) = option_or (end_by p w place e) (end_in p (world_after o.object w e) (place + 1) es)

  -- the bar of a call that process p begins
  abbrev pub bar_begun : WorldOf S I R → (place p : ℕ) → I → Called
  bar_begun w place p i =
      record { call = record { process = p; nth = w.begun p }; from = place; words = text_of_words (o.language.inv_words i); end = None }

  -- the bars of a run: each call ends where a step of its process first does
  abbrev pub bars_in : WorldOf S I R → (place : ℕ) → List (Event I) → List Called
  bars_in w place [] = []
  bars_in w place (Call p i ∷ es) =
      let v = world_after o.object w (Call p i) in
      record (bar_begun w place p i) { end = end_in p v (place + 1) es } ∷ bars_in v (place + 1) es
  bars_in w place (e ∷ es) = bars_in (world_after o.object w e) (place + 1) es

-- on an object with its words and the text of each of its states
module _ {S I R : Type 0} (o : SpokenObject S I R) (text : S → List ℕ) where
  -- the era of a world, which began after so many events, and ends with an event, if it does
  abbrev pub era_of : WorldOf S I R → (from : ℕ) → (last : Option ℕ) → EraMarks
  era_of w from last = record {
    from = from;
    last = last;
    processes = w.n;
    anchor = seq_of w.memory Anchor;
    cells = boxes_from o.language text w 1 (log w);
  }

  -- the eras of a run, where the present one began after so many events
  abbrev pub eras_in : WorldOf S I R → (from place : ℕ) → List (Event I) → List EraMarks
  eras_in w from place [] = era_of w from None ∷ []
  eras_in w from place (Trim ∷ es) =
      era_of w from (Some place) ∷ eras_in (world_after o.object w Trim) (place + 1) (place + 1) es
  eras_in w from place (Reshape n ∷ es) =
      era_of w from (Some place) ∷ eras_in (world_after o.object w (Reshape n)) (place + 1) (place + 1) es
  eras_in w from place (e ∷ es) = eras_in (world_after o.object w e) from (place + 1) es

  -- the marks of a run from a world, on an object of this name
  abbrev pub marks_of_run : (name : List ℕ) → WorldOf S I R → List (Event I) → RunMarks
  marks_of_run name w events =
      record {
        object = name;
        events = length events;
        steps = along o.object (steps_by o.object) w 0 events;
        bars = bars_in o w 0 events;
        dots = along o.object (dots_by o.object) w 0 events;
        lines = along o.object lines_by w 0 events;
        eras = eras_in w 0 0 events;
      }

-- a stopped process is helped: process 1 takes one step, and process 0 links first its cell, and then its own
helped_dots : along sample (dots_by sample) (opened_world 2 9 1) 0 (Call 1 5 ∷ Step 1 ∷ Call 0 6 ∷ replicate 24 (Step 0))
    ≡ record { event = 12; call = record { process = 1; nth = 0 }; by = 0 }
    ∷ record { event = 20; call = record { process = 0; nth = 0 }; by = 0 } ∷ []
helped_dots = refl

-- of the steps of a process alone, those that read change nothing, and neither does the one that keeps the head where it is; nor
-- does the last one, since the head is raised already
one_call_changes : map (λ s. s.changed) (along sample (steps_by sample) (opened_world 1 9 1) 0 (Call 0 7 ∷ replicate 14 (Step 0)))
    ≡ true ∷ replicate 6 false ++ replicate 5 true ++ false ∷ false ∷ []
one_call_changes = refl

-- the steps of the second of two calls count from 1
second_call_numbers : map {B = ℕ × ℕ} (λ s. (s.nth, s.number)) (drop 12 (along sample (steps_by sample) (opened_world 1 9 1) 0
    (Call 0 7 ∷ replicate 14 (Step 0) ++ Call 0 8 ∷ replicate 2 (Step 0))))
    ≡ (0, 13) ∷ (0, 14) ∷ (1, 1) ∷ (1, 2) ∷ []
second_call_numbers = refl

-- two processes propose a cell after the anchor: the second proposal changes nothing
two_proposals : map (λ s. s.changed) (drop 18 (along sample (steps_by sample) (opened_world 2 9 1) 0
    (Call 0 7 ∷ Call 1 5 ∷ replicate 9 (Step 0) ++ replicate 9 (Step 1) ++ Step 0 ∷ Step 1 ∷ [])))
    ≡ true ∷ false ∷ []
two_proposals = refl

-- an era that ends is marked by its last number
trim_line : along sample lines_by (opened_world 1 9 1) 0 (Call 0 7 ∷ replicate 14 (Step 0) ++ Trim ∷ [])
    ≡ record { event = 15; end = era.Trim; number = 2 } ∷ []
trim_line = refl

-- the sample with its words
abbrev spoken : SpokenObject ℕ ℕ ℕ
spoken = record { object = sample; language = sample_language }

-- the call that is helped stays open, and the other one has its reply, steps and turns
helped_bars : bars_in spoken (opened_world 2 9 1) 0 (Call 1 5 ∷ Step 1 ∷ Call 0 6 ∷ replicate 24 (Step 0))
    ≡ record { call = record { process = 1; nth = 0 }; from = 0; words = 5 ∷ []; end = None }
    ∷ record {
      call = record { process = 0; nth = 0 };
      from = 2;
      words = 6 ∷ [];
      end = Some (record { event = 26; reply = 5 ∷ []; steps = 24; turns = 2 });
    }
    ∷ []
helped_bars = refl

-- each of two calls of one process ends where it returns first
two_ends : map (λ b. option_map (λ e. e.event) b.end)
    (bars_in spoken (opened_world 1 9 1) 0 (Call 0 7 ∷ replicate 14 (Step 0) ++ Call 0 8 ∷ replicate 14 (Step 0)))
    ≡ Some 14 ∷ Some 29 ∷ []
two_ends = refl

-- and each has its box, in the order of the dots, with the state after it
helped_eras : eras_in spoken (λ s. s ∷ []) (opened_world 2 9 1) 0 0 (Call 1 5 ∷ Step 1 ∷ Call 0 6 ∷ replicate 24 (Step 0))
    ≡ record {
      from = 0;
      last = None;
      processes = 2;
      anchor = 1;
      cells = record { number = 2; call = record { process = 1; nth = 0 }; words = 5 ∷ []; reply = Some (9 ∷ []); state = Some (5 ∷ []) }
          ∷ record { number = 3; call = record { process = 0; nth = 0 }; words = 6 ∷ []; reply = Some (5 ∷ []); state = Some (6 ∷ []) }
          ∷ [];
    }
    ∷ []
helped_eras = refl

-- a run of two processes, and then of one, has two lanes
two_lanes : lanes_of (eras_in spoken (λ s. s ∷ []) (opened_world 2 9 1) 0 0 (Reshape 1 ∷ [])) ≡ 2
two_lanes = refl

-- What the code's marks are in the definitions: texts and lists in place of vectors.

abbrev pub end_shown : BarEnd → End
end_shown e = record { event = e.event; reply = e.reply.items; steps = e.steps; turns = e.turns }

abbrev pub bar_shown : Bar → Called
bar_shown b = record { call = b.call; from = b.from; words = b.words.items; end = option_map end_shown b.end }

abbrev pub cell_shown : CellBox → Cell
cell_shown c = record {
  number = c.number;
  call = c.call;
  words = c.words.items;
  reply = option_map (λ text. text.items) c.reply;
  state = option_map (λ text. text.items) c.state;
}

abbrev pub era_shown : Era → EraMarks
era_shown e = record { from = e.from; last = e.last; processes = e.processes; anchor = e.anchor; cells = map cell_shown e.cells.items }

abbrev pub marks_shown : Marks → RunMarks
marks_shown m =
    record {
      object = m.object.items;
      events = m.events;
      steps = m.steps.items;
      bars = map bar_shown m.bars.items;
      dots = m.dots.items;
      lines = m.lines.items;
      eras = map era_shown m.eras.items;
    }

-- The marks of a run, one event after the other.

-- a bar after a step of a process that ends its call so: an open bar of that process ends
abbrev pub bar_ended : (p : ℕ) → End → Called → Called
bar_ended p end b = record b { end = option_or b.end (if p == b.call.process then Some end else None) }

-- the dot of a step that proposed the cell of a call, if it did, and changed its place or not
abbrev pub dot_linked : (place p : ℕ) → (proposed : Option CallId) → (changed : Bool) → List Dot
dot_linked place p (Some call) true = record { event = place; call = call; by = p } ∷ []
dot_linked place p _ _ = []

-- how many events came before the present era, after one event more
abbrev pub from_with : {I : Type 0} → (from place : ℕ) → Event I → ℕ
from_with from place Trim = place + 1
from_with from place (Reshape n) = place + 1
from_with from place _ = from

-- the marks so far, and those of an event at this place, which comes to this world; the present era began after so many events
abbrev pub marks_with : {S I R : Type 0} → SpokenObject S I R → (S → List ℕ) → RunMarks → WorldOf S I R → (from place : ℕ)
    → Event I → RunMarks
marks_with o text m w from place (Call p i) = record m { bars = m.bars ++ bar_begun o w place p i ∷ [] }
marks_with o text m w from place (Step p) =
    record m {
      steps = m.steps ++ steps_by o.object w place (Step p);
      bars = option_map_or (λ end. map (bar_ended p end) m.bars) (end_of_step o w place p) m.bars;
      dots = m.dots ++ dots_by o.object w place (Step p);
    }
marks_with o text m w from place Trim =
    record m { lines = m.lines ++ lines_by w place Trim; eras = m.eras ++ era_of o text w from (Some place) ∷ [] }
marks_with o text m w from place (Reshape n) =
    record m { lines = m.lines ++ lines_by w place (Reshape n); eras = m.eras ++ era_of o text w from (Some place) ∷ [] }

-- an open bar of process 0
abbrev open_bar : Called
open_bar = record { call = record { process = 0; nth = 0 }; from = 3; words = []; end = None }

abbrev sample_end : End
sample_end = record { event = 17; reply = 5 ∷ []; steps = 14; turns = 1 }

open_bar_ends : (bar_ended 0 sample_end open_bar).end ≡ Some sample_end
open_bar_ends = refl

bar_of_another_stays : bar_ended 1 sample_end open_bar ≡ open_bar
bar_of_another_stays = refl

-- a proposal that won has a dot, and one that lost has none
won_has_a_dot : dot_linked 5 1 (Some (record { process = 0; nth = 2 })) true ≡ record { event = 5; call = record { process = 0; nth = 2 }; by = 1 } ∷ []
won_has_a_dot = refl

lost_has_no_dot : dot_linked 5 1 (Some (record { process = 0; nth = 2 })) false ≡ []
lost_has_no_dot = refl
