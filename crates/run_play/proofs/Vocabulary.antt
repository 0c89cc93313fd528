-- The names that the proofs of this crate share.
pub use Rattle.std.proofs.Common.{Err, IfOk, IsSome, List, None, Ok, OnOk, Option, Result, Some, [], ap, arith, drop, false, inl, inr, is_some, length, map, option_map, refl, slice_get, slice_index_or, subst, sym, take, true, ℕ, ◌%◌, ◌++◌, ◌/◌, ◌<◌, ◌∙◌, ◌∷◌, ◌≡◌, ◌≢◌, ◌≤◌}
pub use Rattle.std.proofs.lemmas.Result.{IfOk-weaker}
pub use Rattle.std.specs.Option.{option_map_or}
pub use Rattle.std.specs.Prelude.{Vec, codes, option_and_then}
pub use Rattle.std.specs.declared.alloc.Global.{Global}
pub use Rattle.ready_objects.specs.Spoken.{Language}
pub use Rattle.run_graph.specs.AtHand.{AreAtHand, IsTold}
pub use Rattle.run_graph.specs.Graph.{IsGraph, LeadsTo, path_of, shown_at}
pub use Rattle.run_graph.specs.Schedule.{Plan, call_in, event_of, moved, plan_of, shown, world_at}
pub use Rattle.run_play.specs.Edges.{AreEdges, edge_text, frame_at, frame_text, step_text, text_at}
pub use Rattle.run_play.specs.Plans.{AreCallsOf, calls_of, has_one_era}
pub use Rattle.run_play.specs.Play.{IsPageOf, IsPageOfSession, IsPlayed, any_refused, graph_members}
pub use Rattle.run_play.specs.declared.fault.PlayFault.TheVariants.{Eras, Refused, Script, TooManyWorlds}
pub use Rattle.run_replay.specs.Scenes.{Steps, frame_of, stepped}
pub use Rattle.run_replay.specs.Scenes.{frame_shown}
pub use Rattle.run_tell.specs.Json.{object_text}
pub use Rattle.run_tell.specs.Page.{page_text}
pub use Rattle.run_tell.specs.declared.viewer.TheConstants.{END, MIDDLE, START}
pub use Rattle.seq_object.specs.Sequential.{Sequential}
pub use Rattle.uni_core.specs.World.{world_of}
pub use Rattle.uni_model.specs.Places.{memory_with, new_of}
pub use Rattle.uni_model.specs.Worlds.{Event, WorldOf, response_of_step, world_after_step}
pub use Rattle.uni_model.specs.Worlds.Event.{Call, Reshape, Step, Trim}
pub use Rattle.uni_record.specs.Event.{events_shown}
pub use Rattle.uni_script.specs.ScriptRun.{IsScriptRun, session_of_record}
