-- The names that the proofs of this crate share.
pub use Rattle.std.proofs.Common.{append-nil, append_assoc, cond, suc-mul, ◌==◌, Bool, Contains, List, None, Option, Some, [], ap, arith, drop, eqb, false, get_or-set_other, get_or-set_same, if◌then◌else◌, inl, inr, length, length-append, length-set, map, nat_eq, nat_lt, refl, replicate, set, slice_get, slice_index_or, slice_set, subst, suc, sym, take, true, zero, ℕ, ⊎_elim, ◌%◌, ◌*◌, ◌++◌, ◌+◌, ◌-◌, ◌/◌, ◌<◌, ◌∙◌, ◌∷◌, ◌≡◌, ◌≢◌, ◌≤◌, ◌⊎◌}
pub use Rattle.std.proofs.lemmas.List.{length-map, length-replicate, map-append}
pub use Rattle.std.proofs.lemmas.List.Elements.{Contains-append_cases, Contains-append_left}
pub use Rattle.std.proofs.lemmas.Option.{slice_get_within}
pub use Rattle.std.specs.List.{fold, sum}
pub use Rattle.atomic_table.proofs.Lists.{at_set}
pub use Rattle.seq_object.specs.History.{response_at, state_after}
pub use Rattle.seq_object.specs.Sequential.{Sequential}
pub use Rattle.uni_model.proofs.Appended.{response_at-append, slice_get-append_left, slice_get-append_right}
pub use Rattle.uni_model.proofs.LawProofs.{AcceptsAll-append, set_at_elsewhere}
pub use Rattle.uni_model.proofs.Simulation.{set_at_same}
pub use Rattle.uni_model.proofs.Written.{lt_cases, number_cases, set_at-cases}
pub use Rattle.uni_model.specs.AtomicObject.{AcceptsAll, Act, Atomic, Invoked, at_start, set_at}
pub use Rattle.uni_model.specs.AtomicObject.Act.{Invoke, Linearize, Respond}
pub use Rattle.uni_model.specs.ProcessCalls.{acts_by, sequential_acts}
pub use Rattle.uni_any.specs.Batch.{IsRising, image_from, inv_of, plain}
pub use Rattle.uni_any.specs.Content.{applied_in, applied_of, blank, row_in, taken_in}
pub use Rattle.uni_any.specs.Order.{IsOrdered, StandsIn}
pub use Rattle.uni_any.specs.declared.news.Row.{Row}
pub use Rattle.uni_any.specs.declared.view.Image.{Image}
pub use Rattle.uni_any.specs.declared.view.Returned.{Returned}
pub use Rattle.triple_buffers.specs.Contents.{AllowsChange, AllowsSplit, AllowsTake, AllowsWrite, Contents, with_value}
pub use Rattle.uni_any.specs.Board.{Board, HasCome, announced_at, announced_by, begun, block_news, call_news, called_by, in_of, made_by, number_in, opened, pending_of, posted, posted_at, process_in, word_of}
pub use Rattle.uni_any.specs.Invariant.{AreOrdered, HasBatch, HasDrafted, HasFollowed, HasLast, HasLooked, HasTaken, IsAnnounced, IsAt, IsBase, IsBoard, IsHistory, IsOpen, IsReader, IsSound, IsStageAt, IsTold, IsTrying, IsWhole, IsWriter, base_of, most_calls, seen_of}
pub use Rattle.uni_any.specs.News.{calls_due, drafted, due, first_image, first_told, first_version, found_in, told_by}
pub use Rattle.uni_any.specs.Plays.{HasBrought, HasFound, HasLaid, HasLearned, HasPosted, HasSeen, HasStarted, HasViewed, IsLaying, IsPending, IsPosting, at_rest, brought, calls_of, ending, first_alone, first_view, goes, local_of, missed, others, returns, stage_of, started, viewing, with_local, with_seen, written_then}
pub use Rattle.uni_any.specs.Shown.{IsShown, Letter, Tells, known_then}
pub use Rattle.uni_any.specs.Ran.{HasRun, IsStep, ShowsBoard, moment_of}
pub use Rattle.uni_any.specs.declared.view.Local.{Local}
pub use Rattle.uni_any.specs.declared.view.Stage.{Stage}
pub use Rattle.uni_any.specs.declared.view.Stage.TheVariants.{Idle, Posting, Ready, Reading, Writing}
pub use Rattle.uni_any.specs.declared.view.Told.{Told}
pub use Rattle.uni_any.specs.declared.view.Version.{Version}
pub use Rattle.uni_any.specs.declared.view.View.{View}
pub use lib.ListN.{get_elem?}
pub use mathlib.Core.Option.{none, some, some-injective, some-ne-none}
pub use prog.Atomic.{either}
pub use Rattle.uni_any.specs.Laws.{responses}
pub use Rattle.uni_any.specs.Laws.{Moves, ShowsNext, returned_by, with_letter, with_word}
