-- Some events of a run, and what is drawn of it where these are chosen.
use Rattle.std.specs.Prelude.{◌≡◌, ℕ, ◌+◌, ◌-◌, ◌==◌, ◌&&◌, ◌||◌, not, min, max, nat_le, nat_lt, if◌then◌else◌, Bool, true, false, List, [], ◌∷◌, map, Option, Some, None, Vec, option_and_then, refl}
use Rattle.run_layout.specs.Vocabulary.{filter, list_any, option_map_or, Global, Remark, Heading, Refused, PlacedRemark, Sequence, StepMark, Dot, EraLine, End, Called, Cell, EraMarks, RunMarks, Range, RangeFault, PastEnd, TooManyEvents}

-- whether an event isn't after the last one, if there is a last
abbrev pub is_by : (event : ℕ) → (last : Option ℕ) → Bool
is_by event None = true
is_by event (Some last) = nat_le event last

-- whether an event is chosen, by its number from 0: both ends are
abbrev pub is_in : Range → (event : ℕ) → Bool
is_in range event = nat_le range.from event && is_by event range.to

-- whether an event is chosen of those from one on to the last one
abbrev pub meets : Range → (from : ℕ) → (last : Option ℕ) → Bool
meets range from last = is_by (max range.from from) range.to && is_by range.from last

-- all events
abbrev pub all_events : Range
all_events = record { from = 0; to = None }

-- how many of so many events are chosen
abbrev pub count_in : Range → (events : ℕ) → ℕ
count_in range events = option_map_or (λ to. min (to + 1) events) range.to events - range.from

-- why a choice of some of so many events is refused, if it is: it begins after the last one, or it has more than 2,000
unfoldable pub range_fault : Range → (events : ℕ) → Option RangeFault
range_fault range events =
    if nat_lt 0 range.from && nat_le events range.from then Some PastEnd
    else if nat_lt 2000 (count_in range events) then Some TooManyEvents else None

-- ---- what is drawn of it: numbers count from the first event that is chosen

abbrev pub step_in : Range → StepMark → StepMark
step_in range step = record step { event = step.event - range.from }

abbrev pub dot_in : Range → Dot → Dot
dot_in range dot = record dot { event = dot.event - range.from }

abbrev pub line_in : Range → EraLine → EraLine
line_in range line = record line { event = line.event - range.from }

-- a call that began before begins with the first event; one that ends later has no end
abbrev pub end_in : Range → End → Option End
end_in range end = if is_in range end.event then Some (record end { event = end.event - range.from }) else None

abbrev pub bar_in : Range → Called → Called
bar_in range bar = record bar { from = bar.from - range.from; end = option_and_then (end_in range) bar.end }

-- whether a call's bar goes over an event that is chosen, in a run of so many
abbrev pub is_bar_in : Range → (events : ℕ) → Called → Bool
is_bar_in range events bar = meets range bar.from (Some (option_map_or (λ end. end.event) bar.end (events - 1)))

-- whether a cell was linked by an event that isn't chosen
abbrev pub links_outside : Range → Cell → Dot → Bool
links_outside range cell dot =
    not (is_in range dot.event) && dot.call.process == cell.call.process && dot.call.nth == cell.call.nth

-- an era without the cells that were linked outside
abbrev pub era_in : Range → List Dot → EraMarks → EraMarks
era_in range dots era =
    record era {
      from = era.from - range.from;
      last = option_and_then (λ last. if is_in range last then Some (last - range.from) else None) era.last;
      cells = filter (λ cell. not (list_any (links_outside range cell) dots)) era.cells;
    }

-- the marks of a run, where these events are chosen
abbrev pub chosen : Range → RunMarks → RunMarks
chosen range marks =
    record {
      object = marks.object;
      events = count_in range marks.events;
      steps = map (step_in range) (filter (λ step. is_in range step.event) marks.steps);
      bars = map (bar_in range) (filter (is_bar_in range marks.events) marks.bars);
      dots = map (dot_in range) (filter (λ dot. is_in range dot.event) marks.dots);
      lines = map (line_in range) (filter (λ line. is_in range line.event) marks.lines);
      eras = map (era_in range marks.dots) (filter (λ era. meets range era.from era.last) marks.eras);
    }

-- ---- what is told beside it: headings, and what stands before an event that is chosen

abbrev pub is_heading : Remark → Bool
is_heading (Heading text) = true
is_heading _ = false

abbrev pub is_told_in : Range → PlacedRemark → Bool
is_told_in range one = is_heading one.remark || is_in range one.before

abbrev pub remark_in : Range → PlacedRemark → PlacedRemark
remark_in range one = record one { before = one.before - range.from }

abbrev pub chosen_remarks : Range → List PlacedRemark → List PlacedRemark
chosen_remarks range remarks = map (remark_in range) (filter (is_told_in range) remarks)

-- events 10 to 20 of 27 are 11, from 20 on there are 7, and none from 27 on
abbrev ten_to_twenty : Range
ten_to_twenty = record { from = 10; to = Some 20 }

counts_of_three : count_in ten_to_twenty 27 ∷ count_in (record { from = 20; to = None }) 27
    ∷ count_in (record { from = 27; to = None }) 27 ∷ [] ≡ 11 ∷ 7 ∷ 0 ∷ []
counts_of_three = refl

-- from event 27 on nothing is left of 27 events, nor from event 5 on of none; all of none can be chosen, and 2,000 events can
faults_of_four : range_fault (record { from = 27; to = None }) 27 ∷ range_fault (record { from = 5; to = Some 7 }) 0
    ∷ range_fault all_events 0 ∷ range_fault (record { from = 1; to = None }) 2001 ∷ []
    ≡ Some PastEnd ∷ Some PastEnd ∷ None ∷ None ∷ []
unfolding range_fault
faults_of_four = refl

-- 2,001 events are too many, and the last of 27 can be chosen
faults_of_two : range_fault all_events 2001 ∷ range_fault (record { from = 26; to = None }) 27 ∷ []
    ≡ Some TooManyEvents ∷ None ∷ []
unfolding range_fault
faults_of_two = refl

-- a range that ends before it begins has no event, and no bar goes over one
none_of_twenty_to_ten : (count_in (record { from = 20; to = Some 10 }) 27 ≡ 0)
    × (meets (record { from = 20; to = Some 10 }) 5 (Some 25) ≡ false)
none_of_twenty_to_ten = (refl, refl)

-- a call from 4 to 10 is there at the first event alone, one from 20 to 24 has no end, and one from 21 on isn't there
abbrev called : (from end : ℕ) → Called
called from end = record {
  call = record { process = 0; nth = 0 };
  from = from;
  words = [];
  end = Some (record { event = end; reply = []; steps = 14; turns = 1 });
}

bars_of_three : map (bar_in ten_to_twenty) (filter (is_bar_in ten_to_twenty 27) (called 4 10 ∷ called 20 24 ∷ called 21 26 ∷ []))
    ≡ called 0 0 ∷ record (called 10 0) { end = None } ∷ []
bars_of_three = refl

-- a refusal before event 10 and one before event 20 are told, and none before event 21
module _ (command : Vec ℕ Global) where
  abbrev refused : (before : ℕ) → PlacedRemark
  refused before = record { line = 7; before = before; remark = Refused command Sequence }

  remarks_of_four : chosen_remarks ten_to_twenty (refused 9 ∷ refused 10 ∷ refused 20 ∷ refused 21 ∷ [])
      ≡ refused 0 ∷ refused 10 ∷ []
  remarks_of_four = refl
