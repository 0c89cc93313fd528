-- What a version of an object is, to a seat that has found it.
use Rattle.std.specs.Prelude.{◌≡◌, ℕ, ◌<◌, ◌≤◌, List, Some, Contains, map, slice_get, take}
use Rattle.seq_object.specs.History.{state_after}
use Rattle.seq_object.specs.Sequential.{Sequential}
use Rattle.uni_model.specs.AtomicObject.{Invoked}
use Rattle.uni_any.specs.Batch.{inv_of}
use Rattle.uni_any.specs.Content.{applied_in}
use Rattle.uni_any.specs.Final.{HasHistory, KnownCalls, calls_among}
use Rattle.uni_any.specs.declared.view.Image.{Image}
use Rattle.uni_any.specs.declared.view.Returned.{Returned}

-- There is a history that the atomic object accepts, with the known calls, each in its version. The version of this number
-- has the state after the calls of that history that are in it, in the order in which they took effect; its rows say how
-- many of each process these are; and each known call that has returned is in it.
pub record IsVersionOf {S I R : Type 0} (object : Sequential S I R) (n : ℕ) (known : List (KnownCalls I R)) (number : ℕ)
    (version : Image S R) : Type 0 where
  pub last : S
  pub history : HasHistory object n known last
  pub calls : List (Invoked I)
  pub calls_are : calls ≡ take (history.calls_in_version number) history.atomic.agreed
  pub state_is : state_after object object.initial (map inv_of calls) ≡ version.state
  pub rows : (q : ℕ) → q < n → applied_in version q ≡ calls_among q calls
  pub within : (its : KnownCalls I R) → Contains known its
      → (k : ℕ) (call : Returned I R) → slice_get its.own k ≡ Some call → call.version ≤ number
