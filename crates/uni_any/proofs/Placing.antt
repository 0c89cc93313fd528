-- A process keeps its place.
use Rattle.uni_any.proofs.Vocabulary.{HasBrought, HasLearned, Image, Letter, Local, Option, Reading, Sequential, View, Writing, ap, applied_in, arith, base_of, inl, inr, local_of, lt_cases, made_by, number_cases, stage_of, subst, sym, with_local, with_seen, ℕ, ◌+◌, ◌<◌, ◌∙◌, ◌≡◌}
use Rattle.triple_buffers.specs.Parties.{IsPartyOf, key_of, number_of, view_of}
use Rattle.triple_buffers.specs.declared.party.Party.{Party}
use Rattle.triple_buffers.specs.declared.rule.Buffers.{Buffers}
use Rattle.uni_any.specs.Standing.{IsPlaceOf}
use Rattle.uni_any.specs.declared.rule.Setup.{Setup}

pub place_kept : {O I S R P : Type 0} (buffers : Buffers (Letter I S R) (View O I S R) (Setup O S I R) P) (old new : Party (Letter I S R) (View O I S R)) → IsPlaceOf buffers old → IsPartyOf buffers new → number_of new ≡ number_of old
    → (l : Local I S R) → view_of new ≡ with_local (view_of old) l → IsPlaceOf buffers new
place_kept {O} {I} {S} {R} buffers old new was own number l is = record {
  own = own;
  layout = was.layout;
  object = ap (λ (v : View O I S R). v.object) is ∙ was.object;
  processes = ap (λ (v : View O I S R). v.known.processes) is ∙ was.processes;
  first = ap (λ (v : View O I S R). v.known.first) is ∙ was.first ∙ sym number;
  alone = ap (λ (v : View O I S R). v.known.count) is ∙ was.alone;
}

pub place_learned : {O I S R P : Type 0} (meaning : O → Sequential S I R) (buffers : Buffers (Letter I S R) (View O I S R) (Setup O S I R) P) (old new : Party (Letter I S R) (View O I S R)) → IsPlaceOf buffers old → IsPartyOf buffers new → number_of new ≡ number_of old
    → (from : ℕ) → from < (key_of buffers).processes → (inv : I) (tries : ℕ) → stage_of (view_of old) ≡ Reading inv tries from → (found : Option (Letter I S R)) → HasLearned meaning (view_of old) from found (view_of new) → IsPlaceOf buffers new
place_learned {O} {I} {S} {R} meaning buffers old new was own number from inside inv tries reads found told =
    let here : from < (view_of old).known.processes = subst (λ k. from < k) (sym was.processes) inside in
    let h = told inv tries reads here in
    elim (lt_cases (from + 1) (view_of old).known.processes) [
      | inl less ↦ place_kept buffers old new was own number _ (h.0 less.0)
      | inr more ↦
          let f = h.1 (let a = more.0 in omega (arith, here)) in
          elim (number_cases (applied_in (base_of (meaning (view_of old).object) (view_of old).known.processes (with_seen (local_of (view_of old)) from found)).image (view_of old).known.first) (made_by (with_seen (local_of (view_of old)) from found) + 1)) [
            | inl e ↦ place_kept buffers old new was own number _ (f.ends e.0).3
            | inr e ↦ place_kept buffers old new was own number _ (f.goes_on e.0).4
          ]
    ]

pub place_brought : {O I S R P : Type 0} (buffers : Buffers (Letter I S R) (View O I S R) (Setup O S I R) P) (old new : Party (Letter I S R) (View O I S R)) → IsPlaceOf buffers old → IsPartyOf buffers new → number_of new ≡ number_of old
    → (inv : I) (tries : ℕ) (image : Image S R) → stage_of (view_of old) ≡ Writing inv tries image (key_of buffers).processes → (found : ℕ) → HasBrought (view_of old) found (view_of new) → IsPlaceOf buffers new
place_brought {O} {I} {S} {R} buffers old new was own number inv tries image stage found told =
    let h = told inv tries image (stage ∙ ap (Writing inv tries image) (sym was.processes)) in
    elim (number_cases found (local_of (view_of old)).word) [
      | inl e ↦ place_kept buffers old new was own number _ (h.0 e.0).3
      | inr e ↦ place_kept buffers old new was own number _ (h.1 e.0)
    ]
