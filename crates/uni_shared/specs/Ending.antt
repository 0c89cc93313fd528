-- What a seat ends as, once the receipt that it lends is given back.
use Rattle.std.specs.Prelude.{Result, MatchResult, ⊤}
use Rattle.std.specs.Borrow.{Fml, RattleType, Bor, MutBor, follows_so}
use Rattle.seq_object.specs.declared.object.SeqObject as seq
use Rattle.std.specs.declared.cmp.PartialEq as eq
use mathlib.Core.Option.{none}
use Rattle.uni_shared.specs.Seat.{SeatOf, HasEnded, HasStopped, IsLeftByApply}
use Rattle.uni_shared.specs.declared.receipt.Receipt.{Receipt}
use Rattle.uni_shared.specs.declared.fault.ApplyFault.{ApplyFault}
use Rattle.uni_shared.specs.contracts.seat.Seat.{the_row}

module _ (O S I R : RattleType) (object : seq.Ghosts O.Denot S.Denot I.Denot R.Denot) (inv : eq.Ghosts I.Denot)
    (resp : eq.Ghosts R.Denot) where
  -- what a function that is asked for a receipt answers
  abbrev pub Answer : Type 0
  Answer = Result (Bor (Receipt I.Denot R.Denot)) ApplyFault

  -- This holds of the seat once the receipt that it lends is given back: so Rattle says "afterwards" of a borrowed
  -- value.
  abbrev pub GivenBack : MutBor (SeatOf I.Denot R.Denot) → (SeatOf I.Denot R.Denot → Type 0) → Fml
  GivenBack s Holds =
      let row = the_row O S I R object inv resp in follows_so row row s.ghost_name none (λ _ _. ⊤) Holds

  -- after apply: with one receipt more, which is answered; or as a refusal leaves it
  abbrev pub EndsApplied : I.Denot → MutBor (SeatOf I.Denot R.Denot) → Answer → Fml
  EndsApplied asked s r =
      GivenBack s (λ last.
      MatchResult r (λ x. HasEnded s.now x.now last) (λ fault. IsLeftByApply s.now asked fault last))

  -- after resume: with one receipt more, which is answered; or with the call pending that it had
  abbrev pub EndsResumed : MutBor (SeatOf I.Denot R.Denot) → Answer → Fml
  EndsResumed s r = GivenBack s (λ last. MatchResult r (λ x. HasEnded s.now x.now last) (λ _. HasStopped s.now last))
