-- The names that the proofs of this crate share.
pub use Rattle.run_replay.specs.Held.{Held, IsComing, alone, cells_below, cells_of, changes_place, field_name, fields_of, has_changed, held, presence, proposal_of, proposal_told, standing_at}
pub use Rattle.run_replay.specs.MarkLaws.{BarsHaveTheReplies, BoxesAreTheLog, BoxesHaveTheEntries, DotsAreTheLog, DotsLieInBars, EndsAreEvents, LiesIn, Reply, boxes_after, replies_in_order, reply_at, reply_text, stateless}
pub use Rattle.run_replay.specs.Marks.{Called, Cell, End, EraMarks, RunMarks, along, bar_begun, bar_ended, bar_shown, bars_in, box_of, boxes_from, cell_shown, dot_linked, dots_by, dots_of, end_by, end_in, end_of_step, end_shown, era_of, era_shown, eras_in, from_with, lanes_of, linearized_in, lines_by, marks_of_run, marks_shown, marks_with, steps_by}
pub use Rattle.run_replay.specs.Scenes.{Begins, Begun, Excerpt, Frame, Scene, Start, Stepped, Steps, TellsEachEvent, answered, begun, change_shown, excerpt_of, frame_of, frame_shown, held_shown, memory_asked, scene_shown, scenes_from, start_of, stepped}
pub use Rattle.run_replay.specs.Vocabulary.{AcceptsAll, Act, AfterOf, All, Anchor, Announced, AreAccepted, AreCalls, Arena, Atomic, Call, CallId, Completed, Content, CountsSteps, DecideAfter, DecideNew, Entry, Event, Finish, HeadOf, InvOf, Invariant, Invocation, Invoke, Invoked, IsAccepted, IsSound, Language, Linearize, Link, Memory, Name, NewOf, Of, Pending, Progress, Reshape, Respond, Sequential, Settled, Shows, SpokenObject, Stage, Step, Trim, WorldOf, acts_of, after_of, anchor_memory, call_after, call_of_name, calls_in_era, calls_of, cell_of, cells_from, chain, completed_by, completed_in, content_after, current_of, effect_of, entry_shown, era_calls, event_lent, event_shown, events_shown, flat_map, history_of, inv_of, invocations_of, invoked_at, kind_of, last_cell, log, log_of_run, made_of, memory_with, name_in, new_of, open_at, opened_world, option_map_or, option_or, place_named, place_of, processes_of, progress_of, proposed_at, range_with_len, response_after, response_of_step, responses_of, seq_of, set_at, spoken, stage_after, state_settled_at, text_of_words, value_after, world_after, world_after_all, world_after_era, world_after_step, world_of}
pub use Rattle.run_replay.specs.declared.marks.Dot.{Dot}
pub use Rattle.run_replay.specs.declared.scenes.Coming.{Coming}
pub use Rattle.std.proofs.Common.{Bool, Contains, IfSome, IsSome, List, None, Option, Some, [], ap, append_assoc, arith, codes, drop, eq-eqb, eqb-true, false, get_or, if◌then◌else◌, inl, inr, length, map, max, option_to_list, refl, rules, slice_get, subst, suc, sym, take, true, zero, ℕ, ◌++◌, ◌+◌, ◌-◌, ◌<◌, ◌==◌, ◌↔◌, ◌∙◌, ◌∷◌, ◌≡◌, ◌≢◌, ◌≤◌, ◌⊎◌}
pub use Rattle.std.proofs.lemmas.Bool.{ne_eqb}
pub use Rattle.std.proofs.lemmas.List.{append-nil, at_drop_more, drop-map, drop-set-lt, drop_all, drop_more, length-map, map-append, map-id, take_all, take_more_set}
pub use Rattle.std.proofs.lemmas.List.Concat.{flat_map-append}
pub use Rattle.std.proofs.lemmas.Simd.{map-map}
pub use Rattle.std.specs.Prelude.{is_some, option_and_then, option_map, slice_set}
pub use Rattle.uni_model.proofs.Kept.{Grows-world_after, Invariant-opened_world, Invariant-world_after, last_cell_threaded}
pub use Rattle.uni_model.proofs.Simulation.{calls_of-calls_at, enough}
pub use Rattle.uni_model.proofs.Written.{after_of-memory_with, name_eq_same, number_cases, set_at-cases}
