-- What a closed object is.
use Rattle.std.specs.Prelude.{◌≡◌, ℕ, List, length}
use Rattle.seq_object.specs.Sequential.{Sequential}
use Rattle.uni_any.specs.Final.{IsKnownVersion, KnownCalls}
use Rattle.uni_any.specs.Execution.{Execution, all_acts, opened_moment}
use Rattle.uni_any.specs.News.{found_in, told_by}
use Rattle.uni_any.specs.declared.close.LastVersion.{LastVersion}
use Rattle.uni_any.specs.declared.view.Version.{Version}

-- the last version: of those that a process told, the one that is found where it has brought in the version of this number
abbrev pub last_version : {I S R : Type 0} → LastVersion I S R → Version S R
last_version last = found_in (told_by last.news) last.number

-- The version has the state after a history with the known calls (`IsKnownVersion`). All calls of this history are in the
-- version of its number, and its acts are those that the steps of an execution from the opening make.
abbrev pub HasRunTo : {S I R : Type 0} → Sequential S I R → (n : ℕ) → (known : List (KnownCalls I R)) → Version S R → Type 0
HasRunTo object n known version =
    (final : IsKnownVersion object n known version.image)
    × (final.history.calls_in_version version.number ≡ length final.history.atomic.agreed)
    × (e : Execution object n (opened_moment object n)) × (all_acts object n e ≡ final.history.acts)
