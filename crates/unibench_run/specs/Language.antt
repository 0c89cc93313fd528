-- The language of scripts, as the program prints it.
use Rattle.std.specs.Prelude.{ℕ, List, Option, None, Some}
use Rattle.uni_script.specs.declared.grammar.ObjectName.{ObjectName}
use Rattle.uni_script.specs.declared.grammar.ObjectName.TheVariants.{Queue, Directory, Book, Sticky}
use Rattle.unibench_run.specs.declared.language.TheConstants.{LANGUAGE, QUEUE, DIRECTORY, BOOK, STICKY}

-- the calls of an object or, where none is named, the whole language
abbrev pub language_text : Option ObjectName → List ℕ
language_text None = LANGUAGE.now
language_text (Some Queue) = QUEUE.now
language_text (Some Directory) = DIRECTORY.now
language_text (Some Book) = BOOK.now
language_text (Some Sticky) = STICKY.now
