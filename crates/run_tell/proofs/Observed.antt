-- What is observed of a run, by its frames.
use Rattle.run_tell.proofs.Vocabulary.{Act, AreAccepted, Bool, Event, IsHistory, IsLinearizableRun, IsTold, Language, List, None, Option, PlacedRemark, Range, Respond, Scene, Sequential, Some, SpokenObject, Steps, WorldOf, [], act_line, all_events, ap, append-nil, arith, count_in, drop, event_text, false, flat_map, flat_map-append, history_text, history_wording, if◌then◌else◌, is_told_in, length, line_text, observed_in, opened_world, opening_members, option_and_then, option_map, option_map_or, refl, remark_told, replied_line, scene_of, scenes_from, slice_get, spoken_of, state_text_of, subst, sym, take, take_all, told_before, told_from, told_text, trace_of_events, true, word_of_object, world_after, ℕ, ◌++◌, ◌+◌, ◌-◌, ◌∙◌, ◌∷◌, ◌≡◌}
use Rattle.run_replay.specs.Scenes.{stepped}
use Rattle.uni_model.proofs.Kept.{Invariant-opened_world, Invariant-world_after}
use Rattle.uni_model.specs.AtomicObject.{Invoked}
use Rattle.uni_model.specs.Chain.{invoked_at}
use Rattle.uni_model.specs.History.{responses_of}
use Rattle.uni_model.specs.Invariant.{Invariant}
use Rattle.uni_model.specs.Linearizable.{observed_at}
use Rattle.uni_model.specs.Stages.{Pending}
use Rattle.uni_model.specs.Transition.{response_after}
use Rattle.uni_model.specs.Worlds.Event.{Call, Reshape, Step, Trim}

-- the line of a scene that there may be
abbrev line_of_scene : Option Scene → List ℕ
line_of_scene scene = event_text history_wording 0 None scene

-- nothing is told beside the events
no_remark : (told : Bool) → (let none : List ℕ = [] in (if told then none else none) ≡ none)
no_remark true = refl
no_remark false = refl

no_remarks : (range : Range) (remarks : List PlacedRemark) → flat_map (remark_told history_wording range) remarks ≡ []
no_remarks range [] = refl
no_remarks range (one ∷ remarks) = ap (λ l. l ++ flat_map (remark_told history_wording range) remarks) (no_remark (is_told_in range one)) ∙ no_remarks range remarks

line_of_each : (k : ℕ) (line : Option ℕ) (frame : Option Scene) → event_text history_wording k line frame ≡ line_of_scene frame
line_of_each k line None = refl
line_of_each k line (Some frame) = refl

lines_alone : (range : Range) (lines : List ℕ) (k : ℕ) (frames : List (Option Scene)) (remarks : List PlacedRemark) → told_from history_wording range lines k frames remarks ≡ flat_map line_of_scene frames
lines_alone range lines k [] remarks = no_remarks range remarks
lines_alone range lines k (frame ∷ frames) remarks =
    let here = told_before k remarks in
    let line = slice_get lines k in
    let rest = told_from history_wording range lines (k + 1) frames (drop here remarks) in
    ap (λ l. l ++ event_text history_wording k line frame ++ rest) (no_remarks range (take here remarks))
    ∙ ap (λ l. l ++ rest) (line_of_each k line frame) ∙ ap (λ l. line_of_scene frame ++ l) (lines_alone range lines (k + 1) frames (drop here remarks))

module _ {S I R : Type 0} (object : Sequential S I R) (l : Language I R) (text : S → List ℕ) where
  -- a step that answers tells the reply of its own call
  replied : (w : WorldOf S I R) (p : ℕ) → Invariant object w → (c : Pending) → w.call p ≡ Some c → (response : Option R)
      → option_map_or (replied_line (record { process = p; nth = w.begun p - 1 })) (option_map l.resp_text response) []
      ≡ flat_map (act_line l) (responses_of w.memory p c.mine response)
  replied w p inv c is None = refl
  replied w p inv c is (Some r) =
      let own = inv.2.calls.mine p c is in
      let begun : w.begun p ≡ own.0 + 1 = own.2 in
      let nth : w.begun p - 1 ≡ own.0 = omega (arith, begun) in
      let at : invoked_at w.memory c.mine ≡ Some (record { process = p; nth = own.0; inv = own.3.0 }) =
      ap (invoked_at w.memory) own.1 ∙ ap (option_map (λ i. let call : Invoked I = record { process = p; nth = own.0; inv = i } in call)) own.3.1 in
      ap (λ k. replied_line (record { process = p; nth = k }) (l.resp_text r)) nth ∙ sym (append-nil _)
      ∙ sym (ap (λ o. flat_map (act_line l) (option_map_or (λ (call : Invoked I). let act : List (Act I R) = Respond p call.nth r ∷ [] in act) o [])) at)

  -- the line of a frame is that of what is observed of its event
  line_of_event : (w : WorldOf S I R) → Invariant object w → (e : Event I) → line_of_scene (scene_of object l text false w e) ≡ flat_map (act_line l) (observed_at w e)
  line_of_event w inv (Call p i) = sym (append-nil _)
  line_of_event w inv (Step p) = by_call (w.call p) refl where
    Told : Option Pending → Type 0
    Told o =
        line_of_scene (option_map (λ frame. let scene : Scene = record { frame = frame; memory = None } in scene) (option_map (λ call. Steps (stepped object l text w p call)) o))
        ≡ flat_map (act_line l) (option_map_or (λ (c : Pending). responses_of w.memory p c.mine (response_after c.mine c.stage w.memory)) o [])

    by_call : (call : Option Pending) → w.call p ≡ call → Told (w.call p)
    by_call None is = subst Told (sym is) refl
    by_call (Some c) is = subst Told (sym is) (ap (λ o. option_map_or (replied_line (record { process = p; nth = w.begun p - 1 })) (option_map l.resp_text (option_and_then (λ (d : Pending). response_after d.mine d.stage w.memory) o)) []) is ∙ replied w p inv c is (response_after c.mine c.stage w.memory))
  line_of_event w inv Trim = refl
  line_of_event w inv (Reshape n) = refl

  lines_are_observed : (w : WorldOf S I R) (events : List (Event I)) → Invariant object w → AreAccepted object w events
      → flat_map line_of_scene (scenes_from object l text false w events) ≡ flat_map (act_line l) (observed_in object w events)
  lines_are_observed w [] inv ok = refl
  lines_are_observed w (e ∷ events) inv ok =
      ap (λ line. line ++ flat_map line_of_scene (scenes_from object l text false (world_after object w e) events)) (line_of_event w inv e)
      ∙ ap (λ lines. flat_map (act_line l) (observed_at w e) ++ lines) (lines_are_observed (world_after object w e) events (Invariant-world_after object w e ok.0 inv) ok.1)
      ∙ sym (flat_map-append (act_line l) (observed_at w e) (observed_in object (world_after object w e) events))

-- the run of a script, told, is what is observed of it
history_is : {S I R : Type 0} (o : SpokenObject S I R) (text : S → List ℕ) (name : List ℕ) (n row first : ℕ) (events : List (Event I)) (lines : List ℕ) (remarks : List PlacedRemark) → IsLinearizableRun o.object n first events
    → told_text history_wording (trace_of_events all_events false o text name n row first events) lines remarks ≡ history_text o text name n first events
history_is o text name n row first events lines remarks run =
    let w = opened_world n o.object.initial first in
    let all : take (count_in all_events (length events)) events ≡ events = take_all (count_in all_events (length events)) events (omega arith) in
    ap (λ lines. line_text (opening_members name n (text o.object.initial)) ++ lines)
    (lines_alone all_events lines 0 (scenes_from o.object o.language text false w (take (count_in all_events (length events)) events)) remarks
    ∙ ap (λ some. flat_map line_of_scene (scenes_from o.object o.language text false w some)) all
    ∙ lines_are_observed o.object o.language text w events (Invariant-opened_world o.object n o.object.initial first run.positive) run.accepted)

pub IsHistory-told : (left : Option (List ℕ)) (text : List ℕ) → IsTold history_wording all_events left text → IsHistory left text
IsHistory-told left text told =
    let b = told.session in record {
      told = told;
      observed = told.text_is ∙ history_is (spoken_of b.object) (state_text_of b.object) (word_of_object b.object) b.session.processes b.session.row b.session.first b.session.events told.lines told.remarks told.linearizable;
    }
