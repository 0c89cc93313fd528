-- The names that the proofs of this crate share.
pub use Rattle.run_tell.specs.Vocabulary.{Act, AllByRecursion, Appends, AppendsPrefix, AreAccepted, BenchFault, Event, HasRangeFault, IsFaultOfScript, IsOfRange, Language, Moves, PlacedRemark, Range, RangeFault, Recording, Respond, Scene, ScriptSession, Sequential, SpokenObject, Start, Steps, Version, all_events, change_shown, count_in, events_of_record, events_shown, excerpt_of, held_shown, is_told_in, observed_in, opened_world, option_map_or, range_fault, scene_shown, session_of_record, spoken, spoken_of, start_shown, state_text_of, word_of_object}
pub use Rattle.std.proofs.Common.{Bool, Err, IfErr, IfOk, IsErr, IsErrOf, List, None, Ok, OnErr, OnOk, Option, Result, Some, [], ap, append-nil, append_assoc, arith, codes, drop, false, flat_map, if◌then◌else◌, inl, inr, length, length-drop, map, option_and_then, option_map, refl, rules, slice_get, subst, suc, sym, take, true, zero, ℕ, ◌++◌, ◌+◌, ◌-◌, ◌<◌, ◌↔◌, ◌∙◌, ◌∷◌, ◌≡◌, ◌≢◌, ◌≤◌, ◌⊎◌}
pub use Rattle.std.proofs.lemmas.List.{length-map, map-append, take_all}
pub use Rattle.std.proofs.lemmas.List.Concat.{flat_map-append}
pub use Rattle.std.proofs.lemmas.Result.{IfErr-at_err, IfErr-weaker, MatchResult-from_err, err_from_is_err_and, on_ok_weaker}
pub use Rattle.run_layout.proofs.Scripts.{fault_run, default_run, events-run}
pub use Rattle.run_replay.specs.Scenes.{Excerpt, scene_of, scenes_from}
pub use Rattle.uni_model.specs.Worlds.{WorldOf, world_after}
pub use Rattle.uni_record.specs.Event.{event_shown}
pub use Rattle.uni_script.proofs.Written.{AppendsPrefix-after, AppendsPrefix-more, AppendsPrefix-nil}
pub use Rattle.uni_script.specs.ScriptRun.{IsScriptRun}
pub use Rattle.run_tell.specs.History.{IsHistory, act_line, history_text, history_wording, opening_members, replied_line}
pub use Rattle.run_tell.specs.Json.{Member, after_comma, member_shown, member_text, separated}
unfoldable pub use Rattle.run_tell.specs.Json.{object_text}
pub use Rattle.run_tell.specs.Page.{IsPlain, cell, escaped, escaped_byte, page_between}
unfoldable pub use Rattle.run_tell.specs.Page.{IsPage}
pub use Rattle.run_tell.specs.Sentences.{change_words, indented}
pub use Rattle.run_tell.specs.Told.{IsLinearizableRun, IsLinearizableSession, IsTold, IsToldBy, Opening, Trace, Wording, WritesSuch, WritesText, event_text, opening, opening_shown, remark_told, text_of_record, text_of_session, told_before, told_from, told_text, trace_of_events, trace_with}
pub use Rattle.run_tell.specs.TraceLines.{change_members, field_text, held_fields, line_text}
unfoldable pub use Rattle.run_tell.specs.TraceLines.{step_members}
