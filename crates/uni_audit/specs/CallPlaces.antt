-- What an audit keeps: where the entries of calls stand, their replies, and which of the calls have returned. No public clause
-- speaks of it.
use Rattle.std.specs.Prelude.{◌≡◌, ℕ, Bool, true, false, List, [], ◌∷◌, Option, Some, None, get_or, length, map, position}
use Rattle.std.specs.Prelude.{slice_get, vec_capacity, refl}
use Rattle.std.specs.BTreeMap.{get, values}
use Rattle.std.specs.List.{sum_by}
use Rattle.std.specs.Option.{option_map_or}
use Rattle.std.specs.Ordering.{nat_cmp}
use Rattle.seq_object.specs.declared.call_id.CallId.{CallId}
use Rattle.uni_log.specs.declared.entry.Entry.{Entry}
use Rattle.uni_audit.specs.declared.call_places.CallPlaces.{CallPlaces}
use Rattle.uni_audit.specs.declared.checker.Check.{Check}
use Rattle.uni_audit.specs.declared.verdict.Return.{Return}
use Rattle.uni_audit.specs.Verdict.{count_calls_of, has_returned, same_call}

-- the row of a process
abbrev pub row_of : CallPlaces → ℕ → List ℕ
row_of calls process = option_map_or (λ row. row.items) (get nat_cmp calls.rows process) []

-- how many calls the rows have room for
abbrev pub room_of : CallPlaces → ℕ
room_of calls = sum_by vec_capacity (values calls.rows)

-- where the rows have the entry of a call
abbrev pub place_of : CallPlaces → CallId → Option ℕ
place_of calls call = slice_get (row_of calls call.process) call.nth

-- where the first entry of a call stands among these
abbrev pub entry_place : {I R : Type 0} → CallId → List (Entry I R) → Option ℕ
entry_place call entries = position (λ e. same_call e.call call) entries

-- the rows are those of the entries
pub record IsTable {I R : Type 0} (entries : List (Entry I R)) (calls : CallPlaces) : Type 0 where
  pub counted : (process : ℕ) → length (row_of calls process) ≡ count_calls_of process entries
  pub placed : (call : CallId) → place_of calls call ≡ entry_place call entries

-- a check has gone over these entries: it knows where each call's stands, and the replies
pub record HasGoneOver {S I R : Type 0} (entries : List (Entry I R)) (check : Check S R) : Type 0 where
  pub table : IsTable entries check.calls
  pub replies : check.replies.items ≡ map (λ e. e.reply) entries

-- the mark at a place; where there is no place, `false`
abbrev pub mark_at : List Bool → Option ℕ → Bool
mark_at marks place = option_map_or (λ i. get_or marks i false) place false

-- there is a mark for each entry, and the one at a call's place says whether the call is among the returns; a call with no place isn't
pub record AreMarked {I R : Type 0} (entries : List (Entry I R)) (returns : List (Return R)) (marks : List Bool) : Type 0 where
  pub each : length marks ≡ length entries
  pub marked : (call : CallId) → mark_at marks (entry_place call entries) ≡ has_returned call returns

-- Call 0.0 has the entry at place 0 and another at place 2, call 0.1 has the entry at place 1, and call 0.2 has none.
abbrev sample_call : ℕ → CallId
sample_call nth = record { process = 0; nth = nth }

abbrev sample_entry : ℕ → Entry ℕ ℕ
sample_entry nth = record { seq = 2; call = sample_call nth; inv = 7; reply = Some 9 }

abbrev sample_place : ℕ → Option ℕ
sample_place nth = entry_place (sample_call nth) (sample_entry 0 ∷ sample_entry 1 ∷ sample_entry 0 ∷ [])

sample_first : sample_place 0 ≡ Some 0
sample_first = refl

sample_second : sample_place 1 ≡ Some 1
sample_second = refl

sample_no_entry : sample_place 2 ≡ None
sample_no_entry = refl

-- the mark at place 1 is set: call 0.1 has returned, and calls 0.0 and 0.2 haven't
abbrev sample_mark : ℕ → Bool
sample_mark nth = mark_at (false ∷ true ∷ false ∷ []) (sample_place nth)

sample_unmarked : sample_mark 0 ≡ false
sample_unmarked = refl

sample_marked : sample_mark 1 ≡ true
sample_marked = refl

sample_no_mark : sample_mark 2 ≡ false
sample_no_mark = refl
