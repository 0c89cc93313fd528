-- The names that the proofs of this crate share.
pub use Rattle.std.proofs.Common.{length-set, Bool, Contains, IfSome, IsSome, List, None, Option, Some, [], ap, arith, cond, drop, eq-eqb, false, get_or, if◌then◌else◌, inl, inr, length, map, nat_eq, nat_lt, refl, slice_get, subst, suc, sym, take, true, unwrap_or, zero, ℕ, ◌++◌, ◌+◌, ◌-◌, ◌<◌, ◌==◌, ◌∙◌, ◌∷◌, ◌≡◌, ◌≢◌, ◌≤◌, ◌⊎◌}
pub use Rattle.std.proofs.lemmas.Bool.Decides.{nat_tests}
pub use Rattle.std.proofs.lemmas.List.{append-nil, append_assoc, length-append, map-append}
pub use Rattle.std.proofs.lemmas.Option.{slice_get_within, slice_get_past}
pub use Rattle.std.specs.Prelude.{Vec, slice_set, reverse}
pub use Rattle.std.specs.List.{All}
pub use Rattle.std.specs.declared.alloc.Global.{Global}
pub use Rattle.seq_object.specs.Sequential.{Sequential}
pub use Rattle.seq_object.specs.History.{response_at, state_after}
pub use Rattle.uni_model.specs.AtomicObject.{Accepts, AcceptsAll, Act, Atomic, Invoked, at_start, set_at}
pub use Rattle.uni_model.specs.AtomicObject.Act.{Invoke, Linearize, Respond}
pub use Rattle.uni_model.specs.Linearizable.{IsLinearizableHistory, IsLinearizedAs, observed}
pub use Rattle.uni_model.proofs.Written.{number_cases}
pub use Rattle.uni_model.proofs.LawProofs.{set_at_elsewhere}
pub use Rattle.uni_model.proofs.Solo.{set_at_here}
pub use Rattle.uni_model.proofs.Members.{member, place_of_member}
pub use Rattle.uni_model.proofs.Completed.{Idle as Free, Waiting, Done as Finished, invs, state_of, state-last, response-last, response-longer}
pub use Rattle.uni_model.proofs.Local.{Keeps, keeps_invoke, keeps_point, keeps_respond, invoke_own, point_own, point_response, point_state, respond_own, absent}
pub use Rattle.lin_check.specs.declared.event.Event.{Event}
pub use Rattle.lin_check.specs.declared.event.Event.TheVariants.{Call, Return}
pub use Rattle.lin_check.specs.declared.node.Slot.{Slot}
pub use Rattle.lin_check.specs.declared.node.Slot.TheVariants.{Idle, Open, Done}
pub use Rattle.lin_check.specs.declared.node.Node.{Node}
pub use Rattle.lin_check.specs.declared.node.Frame.{Frame}
pub use Rattle.lin_check.specs.declared.passing.Passing.{Passing}
pub use Rattle.lin_check.specs.declared.passing.Passing.TheVariants.{Passed, Stops, Dead}
pub use Rattle.lin_check.specs.Histories.{IsWithin, acts_of, latest_after, next_return, numbered, process_of, replies_of, reply_in}
pub use Rattle.lin_check.specs.Verdicts.{Answers, AreAt, IsOrder, begun}
pub use Rattle.lin_check.specs.Search.{AreNext, AreTried, Fails, FailsFor, IsDead, FailsWith, FailsAt, Finds, Goes, Holds, IsChoice, IsFailing, IsReached, IsReady, IsStack, Leads, Passes, Reached, SlotStands, Stands, candidate, for_call, for_return, passing_of, path, slot_after, slot_at, slots_after, slots_if}
