-- The names that the proofs of this crate share.
pub use Rattle.std.proofs.Common.{Bool, IfSome, List, None, Option, Some, [], ap, append_assoc, arith, cond, count_by, drop, eq-eqb, eqb, false, find, get_or, if◌then◌else◌, length, map, nat_lt, not, option_and_then, option_map, position, refl, set, slice_get, subst, suc, sym, take, true, zero, ℕ, ◌&&◌, ◌++◌, ◌+◌, ◌<◌, ◌==◌, ◌||◌, ◌↔◌, ◌∙◌, ◌∷◌, ◌≡◌, ◌≢◌, ◌≤◌}
pub use Rattle.std.proofs.lemmas.Bool.{eqb-false, eqb-true, not-false, not-true, or_from, or_parts}
pub use Rattle.std.proofs.lemmas.List.{append-nil, at_drop_all, at_drop_more, get_or-set_other, get_or-set_same, length-map, map-append, take_all, take_at, take_more}
pub use Rattle.std.proofs.lemmas.List.Folds.{find_at, list_any-append, position_or_len_push}
pub use Rattle.std.proofs.lemmas.List.Sums.{prefix_len-le-length, sum_by-append, sum_by-cons}
pub use Rattle.std.proofs.lemmas.Option.{slice_get-map, slice_get_past, slice_get_read}
pub use Rattle.std.proofs.lemmas.Result.{IfOk-weaker}
pub use Rattle.std.specs.List.{list_any, position_or_len, sum_by}
pub use Rattle.std.specs.Option.{option_map_or, option_or}
pub use Rattle.std.specs.Ordering.{match_ordering, nat_cmp}
pub use Rattle.seq_object.specs.History.{IsLegal}
pub use Rattle.seq_object.specs.Sequential.{Sequential}
pub use Rattle.seq_object.specs.declared.call_id.CallId.{CallId}
pub use Rattle.uni_log.specs.Entry.{call_shown}
pub use Rattle.uni_log.specs.declared.entry.Entry.{Entry}
pub use Rattle.uni_audit.specs.Audited.{IsAudited}
pub use Rattle.uni_audit.specs.CallPlaces.{AreMarked, HasGoneOver, IsTable, entry_place, mark_at, place_of, room_of, row_of}
pub use Rattle.uni_audit.specs.Verdict.{count_calls_of, entries_verdict, entry_verdict, first, has_returned, reply_to, return_verdict, returns_verdict, same_call, verdict_of}
pub use Rattle.uni_audit.specs.declared.verdict.Return.{Return}
pub use Rattle.uni_audit.specs.declared.verdict.Verdict.{Verdict}
pub use Rattle.uni_audit.specs.declared.verdict.Verdict.TheVariants.{Agrees, BadCall, BadReply, BadReturn, Missing, Twice}
