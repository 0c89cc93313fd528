-- What it means that entries and returns agree.
use Rattle.std.specs.Prelude.{◌≡◌, ◌≢◌, ℕ, ◌<◌, List, Some, map, slice_get, take}
use Rattle.seq_object.specs.Sequential.{Sequential}
use Rattle.seq_object.specs.History.{IsLegal}
use Rattle.uni_log.specs.declared.entry.Entry.{Entry}
use Rattle.uni_log.specs.Entry.{call_shown}
use Rattle.uni_audit.specs.declared.verdict.Return.{Return}
use Rattle.uni_audit.specs.Verdict.{count_calls_of}

-- The entries are a legal history from the start state, each is the next call of its process, no call returns twice,
-- and each return is the reply of an entry of its call. Not said: that the order of the entries is that of real time,
-- and that each reply of an entry was returned.
pub record IsAudited {S I R : Type 0} (object : Sequential S I R) (entries : List (Entry I R)) (returns : List (Return R)) : Type 0 where
  pub legal : IsLegal object object.initial (map call_shown entries)
  pub numbered : (i : ℕ) (entry : Entry I R) → slice_get entries i ≡ Some entry
      → entry.call.nth ≡ count_calls_of entry.call.process (take i entries)
  pub once : (i j : ℕ) (first second : Return R) → i < j → slice_get returns i ≡ Some first → slice_get returns j ≡ Some second
      → first.call ≢ second.call
  pub replied : (i : ℕ) (returned : Return R) → slice_get returns i ≡ Some returned
      → (place : ℕ) × (entry : Entry I R) × (slice_get entries place ≡ Some entry) × (entry.call ≡ returned.call)
      × (entry.reply ≡ Some returned.reply)
