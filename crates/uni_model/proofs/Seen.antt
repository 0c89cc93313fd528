-- What a step reads beside its one place is settled, and is told by the places that the definitions name.
use Rattle.uni_model.proofs.Vocabulary.{Announce, AreSettledPlaces, Content, DecideAfter, DecideNew, Finish, IfSome, Invariant, IsSound, Memory, Name, None, Option, Pending, ReadAnnounce, ReadHelpSeq, ScanHead, ScanSeq, SeesOnly, PlacesBesideAreSettled, Sequential, Settled, Some, Stage, Stands, Test, WorldOf, WriteBefore, WriteHead, WriteScan, WriteSeq, ap, inv_of, invocation_in, new_of, option_and_then, option_or, places_beside, refl, settled_in, subst, sym, value_after, ℕ, ◌∙◌, ◌≡◌, ◌≤◌}
use Rattle.uni_model.proofs.Steps.{head_number, linked_call}

module _ {S I R : Type 0} (object : Sequential S I R) (w : WorldOf S I R) (num : Name → ℕ) (last : ℕ) (sound : IsSound object w num last) (p : ℕ) (mine : Name) where
  settled_beside : (stage : Stage) → w.call p ≡ Some (record { mine = mine; stage = stage }) → Stands w.memory num w.n p mine stage → AreSettledPlaces w.memory (places_beside mine stage)
  settled_beside Announce is h = tt
  settled_beside (ScanHead q best s) is h = tt
  settled_beside (ScanSeq q best s x) is h = tt
  settled_beside (WriteScan best s) is h = tt
  settled_beside (Test c s) is h = tt
  settled_beside (ReadAnnounce c s) is h = tt
  settled_beside (ReadHelpSeq c s help) is h = tt
  settled_beside (DecideAfter c s prefer) is h = tt
  settled_beside (DecideNew c s d) is h = (
    linked_call object w num last sound p mine (DecideNew c s d) is c s d h.0 h.1,
    (sound.values.threaded c (head_number object w num last sound p mine (DecideNew c s d) is c s h.0).0, tt),
  )
  settled_beside (WriteBefore c s d) is h = tt
  settled_beside (WriteSeq c s d) is h = tt
  settled_beside (WriteHead c s d) is h = tt
  settled_beside (Finish s t) is h = (sound.values.threaded mine (subst (λ k. 1 ≤ k) (sym h.2) h.1), tt)

pub PlacesBesideAreSettled-held : {S I R : Type 0} (object : Sequential S I R) (w : WorldOf S I R) → Invariant object w → (p : ℕ) → PlacesBesideAreSettled w p
PlacesBesideAreSettled-held object w inv p = by_call (w.call p) refl where
  by_call : (o : Option Pending) → w.call p ≡ o → IfSome o (λ (c : Pending). AreSettledPlaces w.memory (places_beside c.mine c.stage))
  by_call None is = tt
  by_call (Some c) is = settled_beside object w inv.0 inv.1 inv.2 p c.mine c.stage is (inv.2.stands p c is)

pub SeesOnly-holds : {S I R : Type 0} (object : Sequential S I R) (m m' : Memory S I R) (mine : Name) (stage : Stage) → SeesOnly object m m' mine stage
SeesOnly-holds object m m' mine Announce same = (λ v. refl, refl)
SeesOnly-holds object m m' mine (ScanHead q best s) same = (λ v. refl, refl)
SeesOnly-holds object m m' mine (ScanSeq q best s x) same = (λ v. refl, refl)
SeesOnly-holds object m m' mine (WriteScan best s) same = (λ v. refl, refl)
SeesOnly-holds object m m' mine (Test c s) same = (λ v. refl, refl)
SeesOnly-holds object m m' mine (ReadAnnounce c s) same = (λ v. refl, refl)
SeesOnly-holds object m m' mine (ReadHelpSeq c s help) same = (λ v. refl, refl)
SeesOnly-holds object m m' mine (DecideAfter c s prefer) same = (λ v. refl, refl)
SeesOnly-holds {S} {I} {R} object m m' mine (DecideNew c s d) same = (
  (λ v. ap (λ o. let x : Content S I R = Settled (option_or (settled_in v) (value_after object o (inv_of m' d))) in x) (ap settled_in same.1.0)
      ∙ ap (λ o. let x : Content S I R = Settled (option_or (settled_in v) (value_after object (new_of m c) o)) in x) (ap invocation_in same.0)),
  refl,
)
SeesOnly-holds object m m' mine (WriteBefore c s d) same = (λ v. refl, refl)
SeesOnly-holds object m m' mine (WriteSeq c s d) same = (λ v. refl, refl)
SeesOnly-holds object m m' mine (WriteHead c s d) same = (λ v. refl, refl)
SeesOnly-holds {S} {I} {R} object m m' mine (Finish s t) same = (λ v. refl, ap (λ v. option_and_then (λ (new : S × Option R). new.1) (settled_in v)) same.0)
