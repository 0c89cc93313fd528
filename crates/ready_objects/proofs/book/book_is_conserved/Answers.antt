use Rattle.ready_objects.proofs.BookSums.{book_next-conserves, state_after-book_start, state_after-book_start-limit}
use Rattle.ready_objects.proofs.book.book_is_conserved.Goals as goal

pub returns-clause-each_call : goal.returns-clause-each_call
returns-clause-each_call c = book_next-conserves

pub returns-clause-all_calls : goal.returns-clause-all_calls
returns-clause-all_calls c = state_after-book_start

pub returns-clause-bounded : goal.returns-clause-bounded
returns-clause-bounded c = state_after-book_start-limit
