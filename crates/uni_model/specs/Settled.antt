-- What stays in an era, and what a step leaves alone.
use Rattle.std.specs.Prelude.{◌≡◌, ◌≢◌, ℕ, ◌≤◌, List, Option, Some, IfSome}
use Rattle.std.specs.List.{AllByRecursion}
use Rattle.seq_object.specs.Sequential.{Sequential}
use Rattle.uni_model.specs.Places.{Name, Place, Content, Memory, inv_of, seq_of, after_of, new_of, before_of}
use Rattle.uni_model.specs.Places.Place.{InvOf, SeqOf, AfterOf, NewOf, BeforeOf}
use Rattle.uni_model.specs.Stages.{Stage}
use Rattle.uni_model.specs.Transition.{places_beside, content_after, response_after}
use Rattle.uni_model.specs.Worlds.{WorldOf}
use Rattle.uni_model.specs.Invariant.{Has}

-- m' is m at a later time of one era: a written number, a settled `after` or `new`, a written `before` and an invocation stay
pub record Grows {S I R : Type 0} (m m' : Memory S I R) : Type 0 where
  pub seq : (x : Name) → 1 ≤ seq_of m x → seq_of m' x ≡ seq_of m x
  pub after : (x y : Name) → after_of m x ≡ Some y → after_of m' x ≡ Some y
  pub new : (x : Name) (v : S × Option R) → new_of m x ≡ Some v → new_of m' x ≡ Some v
  pub before : (x y : Name) → before_of m x ≡ Some y → before_of m' x ≡ Some y
  pub inv : (x : Name) (i : I) → inv_of m x ≡ Some i → inv_of m' x ≡ Some i

-- of the shared places only this one changes, and of the processes only p
pub record ChangesOnly {S I R : Type 0} (place : Place) (p : ℕ) (w w' : WorldOf S I R) : Type 0 where
  pub n : w'.n ≡ w.n
  pub places : (x : Place) → x ≢ place → w'.memory x ≡ w.memory x
  pub calls : (q : ℕ) → q ≢ p → w'.call q ≡ w.call q
  pub begun : w'.begun ≡ w.begun
  pub first : w'.first ≡ w.first
  pub among : w'.among ≡ w.among
  pub steps : (q : ℕ) → q ≢ p → w'.steps q ≡ w.steps q
  pub turns : (q : ℕ) → q ≢ p → w'.turns q ≡ w.turns q

-- what a place contains can't change again in its era: an invocation, a written number or `before`, a settled `after` or `new`
abbrev pub IsSettledPlace : {S I R : Type 0} → Memory S I R → Place → Type 0
IsSettledPlace m (InvOf x) = Has (inv_of m x)
IsSettledPlace m (SeqOf x) = 1 ≤ seq_of m x
IsSettledPlace m (AfterOf x) = Has (after_of m x)
IsSettledPlace m (NewOf x) = Has (new_of m x)
IsSettledPlace m (BeforeOf x) = Has (before_of m x)
IsSettledPlace m _ = ⊥

abbrev pub AreSettledPlaces : {S I R : Type 0} → Memory S I R → List Place → Type 0
AreSettledPlaces m places = AllByRecursion (IsSettledPlace m) places

-- the places that the next step of a process reads beside its own one are settled
abbrev pub PlacesBesideAreSettled : {S I R : Type 0} → WorldOf S I R → ℕ → Type 0
PlacesBesideAreSettled w p = IfSome (w.call p) (λ call. AreSettledPlaces w.memory (places_beside call.mine call.stage))

-- what a step does, where its place contains v, is told by these places
abbrev pub SeesOnly : {S I R : Type 0} → Sequential S I R → Memory S I R → Memory S I R → Name → Stage → Type 0
SeesOnly {S} {I} {R} object m m' mine stage =
    AllByRecursion (λ place. m' place ≡ m place) (places_beside mine stage)
    → ((v : Content S I R) → content_after object mine stage v m' ≡ content_after object mine stage v m)
    × (response_after mine stage m' ≡ response_after mine stage m)
