-- The names that the proofs of this crate share.
pub use Rattle.std.proofs.Common.{List, None, Option, Some, [], ap, append-nil, arith, drop, if◌then◌else◌, inl, inr, length, length-append, length-set, map, nat_eq, nat_lt, refl, slice_index, slice_index_or, slice_set, subst, suc, sym, take, zero, ℕ, ◌%◌, ◌*◌, ◌++◌, ◌+◌, ◌-◌, ◌<◌, ◌∙◌, ◌∷◌, ◌≡◌, ◌≢◌, ◌≤◌}
pub use Rattle.std.proofs.lemmas.List.{drop_all, get_or-set_other, get_or_past, map-append, nil_from_length, take_all}
pub use Rattle.std.proofs.lemmas.Bool.{le-ltb, lt-ltb}
pub use Rattle.std.specs.List.{All, sum}
pub use Rattle.ready_objects.specs.Book.{book, book_start}
pub use Rattle.ready_objects.specs.declared.queue.QueueResp.TheVariants.{Added, Empty, Taken}
pub use Rattle.seq_object.specs.History.{state_after}
pub use Rattle.seq_object.specs.Sequential.{Sequential}
pub use Rattle.small_objects.specs.Book.{call_in, length-book_next}
pub use Rattle.small_objects.specs.Encoding.{Fits, IsStateOf, encoded, first_word, in_words, kept_by_calls, one_word}
pub use Rattle.small_objects.specs.Padded.{length-padded, padded, row_of, values_in}
pub use Rattle.small_objects.specs.Queue.{bounded_queue, queue, queue_answer, queue_next}
pub use Rattle.small_objects.specs.Stack.{bounded_stack, stack, stack_answer, stack_next}
pub use Rattle.small_objects.specs.declared.map.MapReply.TheVariants.{Absent, Full, Value}
pub use Rattle.uni_model.proofs.Appended.{state_after-append}
pub use Rattle.uni_model.proofs.Written.{lt_cases, number_cases}
pub use Rattle.uni_small.proofs.Lists.{same_list, sum_most}
pub use Rattle.uni_small.specs.Image.{IsReached, Meaning}
