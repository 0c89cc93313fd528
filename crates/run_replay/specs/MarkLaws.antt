-- What holds of the marks of each run from an opening.
use Rattle.std.specs.Prelude.{◌≡◌, ℕ, ◌+◌, ◌<◌, ◌≤◌, ◌==◌, if◌then◌else◌, List, [], ◌∷◌, ◌++◌, map, replicate, Some, None, IfSome, Contains, option_map, refl}
use Rattle.run_replay.specs.Vocabulary.{All, AreAccepted, CallId, Entry, Event, Language, Return, SpokenObject, Trim, flat_map, history_of, log_of_run, opened_world, option_map_or, responses_in}
use Rattle.run_replay.specs.declared.marks.Dot.{Dot}
use Rattle.run_replay.specs.Marks.{End, Called, Cell, EraMarks, RunMarks, box_of, marks_of_run}

-- the name of the call of an entry
abbrev pub id_of : {I R : Type 0} → Entry I R → CallId
id_of e = record { process = e.call.process; nth = e.call.nth }

-- a dot lies in a bar of its call: after the event with which that began, and not after the one with which it ended, if it has
pub record LiesIn (d : Dot) (b : Called) : Type 0 where
  pub call : b.call ≡ d.call
  pub after : b.from < d.event
  pub before : IfSome b.end (λ e. d.event ≤ e.event)

-- what a call was answered: the text of its reply
pub record Reply : Type 0 where
  pub call : CallId
  pub text : List ℕ

-- the reply of a bar, if it ends with the event at this place
abbrev pub reply_at : (place : ℕ) → Called → List Reply
reply_at place b = option_map_or (λ (e : End). if e.event == place then record { call = b.call; text = e.reply } ∷ [] else []) b.end []

-- the replies of bars, in the order of the events with which they end, which are these from a place on
abbrev pub replies_in_order : {I : Type 0} → List Called → (place : ℕ) → List (Event I) → List Reply
replies_in_order bars place [] = []
replies_in_order bars place (e ∷ es) = flat_map (reply_at place) bars ++ replies_in_order bars (place + 1) es

-- a response, as a reply
abbrev pub reply_text : {I R : Type 0} → Language I R → Return R → Reply
reply_text l r = record { call = r.call; text = l.resp_text r.reply }

-- the boxes of entries that come after a state, each with the object's state after its call, where that has its response
abbrev pub boxes_after : {S I R : Type 0} → SpokenObject S I R → (S → List ℕ) → S → List (Entry I R) → List Cell
boxes_after o text s [] = []
boxes_after o text s (e ∷ es) =
    let next = o.object.next s e.call.inv in
    box_of o.language (option_map (λ response. text next) e.response) e ∷ boxes_after o text next es

-- a box without its state
abbrev pub stateless : Cell → Cell
stateless cell = record cell { state = None }

-- in each run from an opening
module _ {S I R : Type 0} (o : SpokenObject S I R) (text : S → List ℕ) (name : List ℕ) (n : ℕ) (start : S) (number : ℕ)
    (events : List (Event I)) where
  -- its marks
  abbrev pub marks : RunMarks
  marks = marks_of_run o text name (opened_world n start number) events

  -- the entries of all eras
  abbrev pub joined : List (Entry I R)
  joined = log_of_run o.object (opened_world n start number) events

  -- the dots from left to right are the calls of the joined log, in its order
  abbrev pub DotsAreTheLog : Type 0
  DotsAreTheLog =
      1 ≤ number → AreAccepted o.object (opened_world n start number) events → map (λ d. d.call) marks.dots ≡ map id_of joined

  -- and so are the boxes of all eras, one era after the other, each with the object's state after its call and those before it
  abbrev pub BoxesAreTheLog : Type 0
  BoxesAreTheLog =
      1 ≤ number → AreAccepted o.object (opened_world n start number) events
      → flat_map (λ (e : EraMarks). e.cells) marks.eras ≡ boxes_after o text start joined

  -- without their states they are the entries of the joined log, whether or not the events were accepted
  abbrev pub BoxesHaveTheEntries : Type 0
  BoxesHaveTheEntries =
      map stateless (flat_map (λ (e : EraMarks). e.cells) marks.eras) ≡ map (box_of o.language None) joined

  -- each dot lies in a bar of its call
  abbrev pub DotsLieInBars : Type 0
  DotsLieInBars =
      1 ≤ number → AreAccepted o.object (opened_world n start number) events
      → All (λ d. (b : Called) × Contains marks.bars b × LiesIn d b) marks.dots

  -- the replies of the bars that have ended, in the order of the events with which they end, are the responses of the history
  abbrev pub BarsHaveTheReplies : Type 0
  BarsHaveTheReplies =
      1 ≤ number → AreAccepted o.object (opened_world n start number) events
      → replies_in_order marks.bars 0 events ≡ map (reply_text o.language)
      (responses_in (history_of o.object (opened_world n start number) events))

  -- each of them ends with an event of the run
  abbrev pub EndsAreEvents : Type 0
  EndsAreEvents = All (λ b. IfSome b.end (λ e. e.event < marks.events)) marks.bars

-- two bars, of which the second one ends first
abbrev sample : (p event reply : ℕ) → Called
sample p event reply = record {
  call = record { process = p; nth = 0 };
  from = p;
  words = [];
  end = Some (record { event = event; reply = reply ∷ []; steps = 1; turns = 1 });
}

sample_replies : replies_in_order {I = ℕ} (sample 0 5 7 ∷ sample 1 4 8 ∷ []) 0 (replicate 6 Trim)
    ≡ record { call = record { process = 1; nth = 0 }; text = 8 ∷ [] } ∷ record { call = record { process = 0; nth = 0 }; text = 7 ∷ [] } ∷ []
sample_replies = refl
