-- The names that the proofs of this crate share.
pub use Rattle.std.proofs.Common.{Bool, IfSome, List, None, Option, Some, [], ap, arith, cond, drop, false, get_or, inl, inr, length, map, not, position, refl, remove, rules, slice_get, subst, suc, sym, take, tests, true, zero, ℕ, ◌%◌, ◌&&◌, ◌*◌, ◌++◌, ◌+◌, ◌-◌, ◌<◌, ◌==◌, ◌^◌, ◌||◌, ◌∙◌, ◌∷◌, ◌≡◌, ◌≢◌, ◌≤◌}
pub use Rattle.std.proofs.Math.ListN.{get_or-map, length-set, length-take, set}
pub use Rattle.std.proofs.lemmas.Bool.{and_from, and_parts, cases_Bool, cases_lt, cond-true, eqb-false, leb-true, lt-ltb, not-false, not-true, or_parts}
pub use Rattle.std.proofs.lemmas.Bool.Decides.{nat_tests}
pub use Rattle.std.proofs.lemmas.Fmt.{decimal-digits_value, decimal_digit, decimal_nonempty, digits_decimal, digits_value-decimal, first_decimal, length-decimal-le}
pub use Rattle.std.proofs.lemmas.List.{get_or-set_other, get_or-take, get_or_past, map-append, map-set, map_more, take-append-le}
pub use Rattle.std.proofs.lemmas.List.Elements.{All-cons, All-from_recursion, All-head, All-push, All-replicate, All-set, All-tail, same_from_all_zip}
pub use Rattle.std.proofs.lemmas.List.Sums.{AllPass-from_list_all, sum_by-set}
pub use Rattle.std.proofs.lemmas.Option.{get_or_from_slice_get, slice_get_within}
pub use Rattle.std.specs.Arc.{arc_value}
pub use Rattle.std.specs.Char.{digit_value, is_ascii_digit}
pub use Rattle.std.specs.Fmt.{decimal}
pub use Rattle.std.specs.List.{All, list_all, list_any, position_or_len}
unfoldable pub use Rattle.std.specs.List.{IsDistinct}
pub use Rattle.std.specs.Map.{lookup, remove_entry, set_value}
pub use Rattle.std.specs.Prelude.{codes, if◌then◌else◌, nat_le, nat_lt, option_and_then, option_map, slice_index, sum}
pub use Rattle.std.specs.Str.{bytes_eq}
pub use Rattle.std.specs.Str.Parse.{digits_value}
pub use Rattle.ready_objects.specs.Book.{HasAccounts, added_by, book, book_answer, book_inv_of_words, book_next, book_start, book_words, has_funds, has_room, put_in, taken_by, taken_out, total_added, total_taken, with_account, with_accounts, ◌>>=◌}
pub use Rattle.ready_objects.specs.Directory.{Pairs, directory_inv_of_words, directory_words, pair_text, put_of, value_answer, value_of}
pub use Rattle.ready_objects.specs.Number.{is_number}
unfoldable pub use Rattle.ready_objects.specs.Number.{number_below, number_of_word}
pub use Rattle.ready_objects.specs.SharedNames.{AddsName, AreNamed, named}
pub use Rattle.ready_objects.specs.Sticky.{stick_replies, stick_reply, sticky, sticky_answer, sticky_inv_of_words, sticky_next, sticky_words}
pub use Rattle.ready_objects.specs.Words.{spaced_from, text_of_words, words_of_text}
pub use Rattle.ready_objects.specs.declared.book.BookInv.{BookInv}
pub use Rattle.ready_objects.specs.declared.book.BookInv.TheVariants.{Deposit, Move, Total, Withdraw}
pub use Rattle.ready_objects.specs.declared.directory.DirectoryInv.TheVariants.{At, Del, Get, Put, Size}
pub use Rattle.ready_objects.specs.declared.queue.QueueInv.TheVariants.{Deq, Enq}
pub use Rattle.ready_objects.specs.declared.sticky.StickyInv.{StickyInv}
pub use Rattle.ready_objects.specs.declared.sticky.StickyInv.TheVariants.{Read, Stick}
pub use Rattle.seq_object.specs.History.{Call, IsLegal, state_after}
