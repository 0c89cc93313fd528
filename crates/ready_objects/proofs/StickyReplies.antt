-- The replies of the sticky register.
use Rattle.ready_objects.proofs.Vocabulary.{All, All-cons, Call, IfSome, IsLegal, List, None, Option, Read, Some, Stick, StickyInv, [], arith, refl, stick_replies, stick_reply, sticky, sticky_answer, sticky_next, ℕ, ◌++◌, ◌∷◌, ◌≡◌}
use Rattle.ready_objects.specs.declared.sticky.StickyResp.{StickyResp}
use Rattle.ready_objects.specs.declared.sticky.StickyResp.TheVariants.{Settled}

-- one more call, once a value is settled
stick_reply-settled : (v : ℕ) (i : StickyInv) (o : Option StickyResp) (later : List StickyResp) → IfSome o (λ r. r ≡ sticky_answer (Some v) i)
    → All (λ reply. reply ≡ Settled v) later → All (λ reply. reply ≡ Settled v) (stick_reply i o ++ later)
stick_reply-settled v (Stick w) None later legal alike = alike
stick_reply-settled v (Stick w) (Some r) later legal alike = All-cons (λ reply. reply ≡ Settled v) r later legal alike
stick_reply-settled v Read None later legal alike = alike
stick_reply-settled v Read (Some r) later legal alike = alike

-- a settled value stays
sticky_next-settled : (v : ℕ) (i : StickyInv) → sticky_next (Some v) i ≡ Some v
sticky_next-settled v (Stick w) = refl
sticky_next-settled v Read = refl

-- once a value is settled it is the reply to each proposal
stick_replies-settled : (v : ℕ) (calls : List (Call StickyInv StickyResp)) → IsLegal sticky (Some v) calls
    → All (λ reply. reply ≡ Settled v) (stick_replies calls)
stick_replies-settled v [] legal = λ k d below. absurd (omega arith)
stick_replies-settled v (call ∷ calls) legal =
    let later = rw (sticky_next-settled v call.inv) at legal.1 in
    stick_reply-settled v call.inv call.response (stick_replies calls) legal.0 (stick_replies-settled v calls later)

-- the replies to all proposals are one value
abbrev AreOneValue : List StickyResp → Type 0
AreOneValue replies = (v : ℕ) × All (λ reply. reply ≡ Settled v) replies

-- one more call, at the start
stick_reply-start : (i : StickyInv) (o : Option StickyResp) (calls : List (Call StickyInv StickyResp)) → IfSome o (λ r. r ≡ sticky_answer None i)
    → IsLegal sticky (sticky_next None i) calls
    → (IsLegal sticky None calls → AreOneValue (stick_replies calls)) → AreOneValue (stick_reply i o ++ stick_replies calls)
stick_reply-start (Stick v) None calls legal later rest = (v, stick_replies-settled v calls later)
stick_reply-start (Stick v) (Some r) calls legal later rest =
    (v, All-cons (λ reply. reply ≡ Settled v) r (stick_replies calls) legal (stick_replies-settled v calls later))
stick_reply-start Read None calls legal later rest = rest later
stick_reply-start Read (Some r) calls legal later rest = rest later

-- the replies to all proposals of a legal history are one value
pub stick_replies-start : (calls : List (Call StickyInv StickyResp)) → IsLegal sticky None calls
    → (v : ℕ) × All (λ reply. reply ≡ Settled v) (stick_replies calls)
stick_replies-start [] legal = (0, λ k d below. absurd (omega arith))
stick_replies-start (call ∷ calls) legal = stick_reply-start call.inv call.response calls legal.0 legal.1 (stick_replies-start calls)
