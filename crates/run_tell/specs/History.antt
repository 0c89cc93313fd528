-- The history of a script: the calls and the replies of its run, each an object of JSON on a line.
use Rattle.std.specs.Prelude.{List, None, Option, Some, [], codes, false, flat_map, refl, ℕ, ◌++◌, ◌∷◌, ◌≡◌}
use Rattle.run_tell.specs.Vocabulary.{Act, Begins, Ends, Event, Frame, Invoke, Language, Linearize, Respond, ScriptSession, SpokenObject, Steps, all_events, cell_text, digits, observed_in, opened_world, option_map_or, spoken_of, state_text_of, word_of_object}
use Rattle.ready_objects.specs.Words.{text_of_words}
use Rattle.seq_object.specs.declared.call_id.CallId.{CallId}
use Rattle.run_tell.specs.Json.{Member, Number, Text, named, object_text}
use Rattle.run_tell.specs.Told.{IsTold, Opening, Wording}
use Rattle.run_tell.specs.TraceLines.{line_text}

-- a run: the version of this format, the word of the object, how many processes there were first, and its first state
abbrev pub opening_members : (object : List ℕ) (processes : ℕ) (state : List ℕ) → List Member
opening_members object processes state =
    named (codes "type") (Text (codes "run")) ∷ named (codes "history") (Number 1) ∷ named (codes "object") (Text object)
    ∷ named (codes "processes") (Number processes) ∷ named (codes "state") (Text state) ∷ []

abbrev pub opening_line : Opening → List ℕ
opening_line o = line_text (opening_members o.object o.processes o.state)

-- what is told of a call
abbrev pub call_members : (type : List ℕ) → CallId → (told : Member) → List Member
call_members type call told =
    named (codes "process") (Number call.process) ∷ named (codes "type") (Text type)
    ∷ named (codes "call") (Text (cell_text (Some call))) ∷ told ∷ []

-- that it begins, with its words
abbrev pub invoked_line : CallId → (words : List ℕ) → List ℕ
invoked_line call words = line_text (call_members (codes "invoke") call (named (codes "words") (Text words)))

-- that it ends, with its reply
abbrev pub replied_line : CallId → (reply : List ℕ) → List ℕ
replied_line call reply = line_text (call_members (codes "ok") call (named (codes "reply") (Text reply)))

-- the line of an act; a linearization point isn't observed, and has none
abbrev pub act_line : {I R : Type 0} → Language I R → Act I R → List ℕ
act_line l (Invoke p k i) = invoked_line (record { process = p; nth = k }) (text_of_words (l.inv_words i))
act_line l (Linearize call) = []
act_line l (Respond p k r) = replied_line (record { process = p; nth = k }) (l.resp_text r)

-- the history of some events of n processes, on an object of this name whose states have these texts: what is observed of them
abbrev pub history_text : {S I R : Type 0} → SpokenObject S I R → (S → List ℕ) → (name : List ℕ) → (n first : ℕ) → List (Event I)
    → List ℕ
history_text o text name n first events =
    line_text (opening_members name n (text o.object.initial))
    ++ flat_map (act_line o.language) (observed_in o.object (opened_world n o.object.initial first) events)

-- the line of what is observed of an event, by its frame
abbrev pub observed_line : Frame → List ℕ
observed_line (Begins b) = invoked_line b.call b.words
observed_line (Steps s) = option_map_or (replied_line s.call) s.reply []
observed_line (Ends e) = []

-- a run, as a history; of what is told beside the events it tells nothing
abbrev pub history_wording : Wording
history_wording =
    record { is_whole = false; opening = opening_line; event = λ k line scene. observed_line scene.frame; remark = λ one. [] }

-- a call of process 1, with its reply
abbrev sample_language : Language ℕ ℕ
sample_language =
    record { inv_words = λ i. (i ∷ []) ∷ []; inv_of_words = λ words. None; resp_text = λ r. r ∷ []; inv_of_word = λ w. w }

a_call_begins : act_line sample_language (Invoke 1 0 65)
    ≡ codes "{\"process\":1,\"type\":\"invoke\",\"call\":\"1.0\",\"words\":\"A\"}\n"
unfolding object_text digits
a_call_begins = refl

a_call_ends : act_line {I = ℕ} sample_language (Respond 1 0 34)
    ≡ codes "{\"process\":1,\"type\":\"ok\",\"call\":\"1.0\",\"reply\":\"\\\"\"}\n"
unfolding object_text digits
a_call_ends = refl

a_queue_opens : line_text (opening_members (codes "queue") 2 (codes "[]"))
    ≡ codes "{\"type\":\"run\",\"history\":1,\"object\":\"queue\",\"processes\":2,\"state\":\"[]\"}\n"
unfolding object_text digits
a_queue_opens = refl

-- the history of the session which a script leaves: what is observed of it
abbrev pub history_of_session : ScriptSession → List ℕ
history_of_session b =
    history_text (spoken_of b.object) (state_text_of b.object) (word_of_object b.object) b.session.processes b.session.first
    b.session.events

-- the reader had a script without a fault and with at most 2,000 events, and this is its run, told by its frames: a linearizable one;
-- what is told is what is observed of it
pub record IsHistory (left : Option (List ℕ)) (text : List ℕ) : Type 0 where
  pub told : IsTold history_wording all_events left text
  pub observed : text ≡ history_of_session told.session
