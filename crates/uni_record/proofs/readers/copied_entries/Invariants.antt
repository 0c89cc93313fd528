use Rattle.std.proofs.Common.{◌≡◌, take}
use Rattle.uni_record.proofs.readers.copied_entries.Given as goal

abbrev pub invariant-loop-entry : goal.invariant-loop-entry
invariant-loop-entry g l = l.copies.items ≡ take l.entry-index l.entries
