-- The names that the proofs of this crate share.
pub use Rattle.std.proofs.Common.{List, [], ap, arith, get_or, length, length-append, map, refl, set, slice_index_or, subst, sym, take, vec_len, ℕ, ◌++◌, ◌+◌, ◌<◌, ◌∙◌, ◌∷◌, ◌≡◌, ◌≤◌}
pub use Rattle.std.proofs.lemmas.List.{drop_min, drop_more, get_or_append_left, get_or_push, length-map, length-take-le, map_more, take_min}
pub use Rattle.std.proofs.raw_atomic.Walks.{leaves, proved_at}
pub use Rattle.std.specs.Option.{option_to_list}
pub use Rattle.std.specs.Prelude.{min, slice_get, slice_set}
pub use Rattle.std.specs.contracts.impls.GlobalAllocator.TheImpl.{ghosts}
pub use Rattle.std.specs.declared.alloc.Global.{Global}
pub use Rattle.std.specs.declared.option.Option.{Option}
pub use Rattle.std.specs.declared.option.Option.TheVariants.{None, Some}
pub use Rattle.std_alloc.proofs.BoxSteps.Steps.{box_in, box_out}
pub use Rattle.std_alloc.proofs.ResultValues.{and_tt}
pub use Rattle.std_alloc.proofs.SendSync.{lies, quiet}
pub use Rattle.std_alloc.specs.Box.Ownership.{box_owns}
pub use Rattle.core.proofs.alloc.Calls.{Al, Goes-blank, handle_tells}
pub use Rattle.core.proofs.alloc.Shapes.{after}
pub use Rattle.core.proofs.atomic.Steps.{Ptr-Good, fm}
pub use Rattle.core.proofs.cell.Inside.{Good, one}
pub use Rattle.uni_small.specs.declared.log.SmallShared.{SmallShared}
pub use Rattle.uni_words.proofs.Comparing.{AreTold, length-mapped, no_entry, shown_here, told-all, told-more, told-next, told-other, told-otherwise, told-start}
pub use Rattle.uni_words.specs.Belongs.{AreFirstSeats, IsFreshSeat, IsSeatOf}
pub use Rattle.uni_words.specs.Log.{calls_by, entry_shown, replied}
pub use Rattle.uni_words.specs.declared.log.WordLog.{WordLog}
pub use Rattle.universal_c.specs.Owned.{boxed, owned}
pub use Rattle.universal_c.specs.Told.{told, told_call}
pub use base.Fml.{Fml, fex, flft, fsep, ftrue}
pub use base.Fraction.{full_share}
pub use base.Logic.{SProp, emp, ent, fst∗, guard, guard_i, id⊢, never, snd∗, via}
pub use base.Shift.{Keyless}
pub use contract.Monad.{fact, fact_i, fact_use}
pub use contract.Running.{tables}
pub use denote.Builtin.{RawPtr, u64, u8}
pub use denote.Exit.{no, yes}
pub use denote.Memory.{lone}
pub use denote.Param.{bounded, layout, param}
pub use denote.Param.Laws.{Laws, param_laws}
pub use denote.Param.Send.{AllSend, IsSend, enum_send, owning_send, part_keyless, recorded_send, sendable, struct_send}
pub use denote.RattleType.{RattleType, Valss, owns}
pub use denote.RawPtr.{Ptr, Testable, block_ptr, in_a_block, in_block, lies_at, null_ptr, ptr_val, room_for, tests_null, ◌+ₚ◌}
pub use denote.Signature.{plain, type_at, types_at}
pub use denote.Steps.{heard, nothing, only}
pub use denote.Struct.Struct.{Struct, exits_of, within}
pub use denote.Triple.Call.{calls_at, calls_at_last}
pub use denote.Triple.Entry.{alive}
pub use denote.Triple.Spec.{triple_of}
pub use denote.Triple.Walked.{Goes-dropped, Stays, stay_dropped, walk_of}
pub use mathlib.Core.Bool.{Bool, false, true, ◌&&◌}
pub use mir.MapTy.{inst_fn}
pub use mir.Syntax.{Ty, a_type, dcons, dnil, impl, tnil}
pub use mir.Val.{Val, WT, has_ty, of_list, vcons, vnil, vptr, vstruct}
pub use prog.Wp.{WpFn}
pub use seplogic.Ra.Ura.{Ura}
pub use types.ByLocal.{alloc_all, env, free_all, get, get_in, lands_as, lands_last, look_at, pass_all, sets, sets_last}
pub use types.Kit.{ !, Goal, Item, Seq, Step, at_ret, await, by, drop, feq_i, feq_l, fjoin, fpack, fpick, fsplit, given, join, keep, later, learn, move, pick, qed, raw, rewrite, some, split, split3, step, suffices, use0, use1, ‵, ◌$◌, ◌∵◌, ◌⊛◌}
pub use types.Logic.{Logic, sem}
pub use types.Part.{agg, sub, whole}
pub use types.Run.{and_then, bin, blocks, branches, enter, exec, first, fld, lit, no_more, of_opd, returns, stop}
