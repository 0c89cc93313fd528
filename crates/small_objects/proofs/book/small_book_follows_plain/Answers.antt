use Rattle.small_objects.proofs.Vocabulary.{book, book_start, call_in}
use Rattle.small_objects.specs.Book.{reply_words}
use Rattle.small_objects.proofs.Reached.{after_in}
use Rattle.small_objects.proofs.book.small_book_follows_plain.Goals as goal

pub returns : goal.returns
returns c is = after_in book call_in reply_words book_start is
