-- The objects that a script can share, each by its name: the one place of the definitions that tells them apart.
use Rattle.std.specs.Prelude.{ℕ, List, Option}
use Rattle.seq_object.specs.Sequential.{Sequential}
use Rattle.ready_objects.specs.Spoken.{Language}
use Rattle.ready_objects.specs.Queue.{queue, queue_language}
use Rattle.ready_objects.specs.Directory.{Pairs, directory, directory_language}
use Rattle.ready_objects.specs.Book.{book, book_language}
use Rattle.ready_objects.specs.Sticky.{sticky, sticky_language}
use Rattle.ready_objects.specs.declared.directory.DirectoryInv.{DirectoryInv}
use Rattle.ready_objects.specs.declared.directory.DirectoryResp.{DirectoryResp}
use Rattle.ready_objects.specs.declared.book.BookInv.{BookInv}
use Rattle.ready_objects.specs.declared.book.BookResp.{BookResp}
use Rattle.ready_objects.specs.declared.sticky.StickyInv.{StickyInv}
use Rattle.ready_objects.specs.declared.sticky.StickyResp.{StickyResp}
use Rattle.ready_objects.specs.declared.queue.QueueInv.{QueueInv}
use Rattle.ready_objects.specs.declared.queue.QueueResp.{QueueResp}
use Rattle.uni_script.specs.declared.grammar.ObjectName.{ObjectName}
use Rattle.uni_script.specs.declared.grammar.ObjectName.TheVariants.{Queue, Directory, Book, Sticky}

-- a sequential object, and the words of its invocations and responses
pub record SpokenObject (S I R : Type 0) : Type 0 where
  pub object : Sequential S I R
  pub language : Language I R

-- the one that an object of the code means, with its language
abbrev pub spoken : {O S I R : Type 0} → (O → Sequential S I R) → Language I R → O → SpokenObject S I R
spoken sequential language object = record { object = sequential object; language = language }

-- the states of an object
abbrev pub StateOf : ObjectName → Type 0
StateOf Queue = List ℕ
StateOf Directory = Pairs
StateOf Book = List ℕ
StateOf Sticky = Option ℕ

-- its invocations
abbrev pub InvOf : ObjectName → Type 0
InvOf Queue = QueueInv
InvOf Directory = DirectoryInv
InvOf Book = BookInv
InvOf Sticky = StickyInv

-- its responses
abbrev pub RespOf : ObjectName → Type 0
RespOf Queue = QueueResp
RespOf Directory = DirectoryResp
RespOf Book = BookResp
RespOf Sticky = StickyResp

-- what it means, and how it speaks
abbrev pub spoken_of : (name : ObjectName) → SpokenObject (StateOf name) (InvOf name) (RespOf name)
spoken_of Queue = record { object = queue; language = queue_language }
spoken_of Directory = record { object = directory; language = directory_language }
spoken_of Book = record { object = book; language = book_language }
spoken_of Sticky = record { object = sticky; language = sticky_language }
