-- The names of other crates that the definitions, contracts and proofs of this one share.
pub use Rattle.cell_arena.specs.Arena.{Arena, cell_of, made_of, processes_of}
pub use Rattle.ready_objects.specs.Spoken.{Language}
pub use Rattle.ready_objects.specs.Words.{text_of_words}
pub use Rattle.seq_object.specs.Sequential.{Sequential}
pub use Rattle.seq_object.specs.declared.call_id.CallId.{CallId}
pub use Rattle.std.specs.List.{All, flat_map, range_with_len}
pub use Rattle.std.specs.Option.{option_copied, option_map_or, option_or}
pub use Rattle.uni_core.specs.Ends.{last_number}
pub use Rattle.uni_core.specs.Readers.{IsPlaceIn, call_of_name, kind_of, place_named, proposed_at}
pub use Rattle.uni_core.specs.World.{IsProgress, current_of, name_in, progress_of, world_of}
pub use Rattle.uni_core.specs.declared.fault.Progress.{Progress}
pub use Rattle.uni_core.specs.declared.fault.Progress.TheVariants.{Done, Going}
pub use Rattle.uni_core.specs.declared.stage.StepKind.{StepKind}
pub use Rattle.uni_log.specs.Entry.{entry_shown}
pub use Rattle.uni_log.specs.Log.{state_settled_at}
pub use Rattle.uni_model.specs.AtomicObject.{AcceptsAll, Act, Atomic, Invoked, set_at}
pub use Rattle.uni_model.specs.AtomicObject.Act.{Invoke, Linearize, Respond}
pub use Rattle.uni_model.specs.Chain.{Entry, cells_from, invoked_at}
pub use Rattle.uni_model.specs.Counting.{CountsSteps, era_calls}
pub use Rattle.uni_model.specs.Effects.{call_after, effect_of}
pub use Rattle.uni_model.specs.History.{Shows, acts_of, calls_of, history_of, invocations_of, log, log_of_run, open_at, responses_of}
pub use Rattle.uni_model.specs.Invariant.{AreCalls, Invariant, IsSound}
pub use Rattle.uni_model.specs.Places.{Content, Memory, Name, Place, after_of, announce_of, before_of, head_of, head_seq, inv_of, memory_with, new_of, place_eq, seq_of}
pub use Rattle.uni_model.specs.Places.Content.{Invocation, Link, Settled}
pub use Rattle.uni_model.specs.Places.Name.{Anchor, Of}
pub use Rattle.uni_model.specs.Places.Place.{AfterOf, Announced, BeforeOf, HeadOf, InvOf, NewOf, SeqOf}
pub use Rattle.uni_model.specs.Stages.{Pending, Stage}
pub use Rattle.uni_model.specs.Stages.Stage.{Announce, DecideAfter, DecideNew, Finish}
pub use Rattle.uni_model.specs.Transition.{content_after, place_of, response_after, stage_after, value_after}
pub use Rattle.uni_model.specs.Worlds.{AreAccepted, Event, IsAccepted, IsQuiescent, WorldOf, anchor_memory, calls_in_era, chain, last_cell, opened_world, response_of_step, world_after, world_after_all, world_after_era, world_after_step}
pub use Rattle.uni_model.specs.Worlds.Event.{Call, Reshape, Step, Trim}
pub use Rattle.uni_record.specs.Event.{Completed, completed_by, completed_in, event_lent, event_shown, events_shown, responses_in}
pub use Rattle.uni_audit.specs.declared.verdict.Return.{Return}
pub use Rattle.uni_script.specs.Objects.{SpokenObject, spoken}
