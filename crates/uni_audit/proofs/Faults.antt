-- The first fault, and when there is none.
use Rattle.uni_audit.proofs.Vocabulary.{Agrees, BadCall, BadReply, BadReturn, Bool, Missing, Twice, Verdict, false, first, if◌then◌else◌, refl, true, ◌≡◌, ◌≢◌}

pub first-agrees : (a b : Verdict) → first a b ≡ Agrees → (a ≡ Agrees) × (b ≡ Agrees)
first-agrees Agrees b e = (refl, e)
first-agrees (BadCall j) b e = absurd (cc)
first-agrees (BadReply j) b e = absurd (cc)
first-agrees (Missing call) b e = absurd (cc)
first-agrees (BadReturn call) b e = absurd (cc)
first-agrees (Twice call) b e = absurd (cc)

pub first-fault : (a b : Verdict) → a ≢ Agrees → first a b ≡ a
first-fault Agrees b fault = absurd (fault refl)
first-fault (BadCall j) b fault = refl
first-fault (BadReply j) b fault = refl
first-fault (Missing call) b fault = refl
first-fault (BadReturn call) b fault = refl
first-fault (Twice call) b fault = refl

pub first-last : (a : Verdict) → first a Agrees ≡ a
first-last Agrees = refl
first-last (BadCall j) = refl
first-last (BadReply j) = refl
first-last (Missing call) = refl
first-last (BadReturn call) = refl
first-last (Twice call) = refl

-- a test that says that there is no fault
pub passed : (t : Bool) (good fault : Verdict) → fault ≢ Agrees → (if t then good else fault) ≡ Agrees → (t ≡ true) × (good ≡ Agrees)
passed true good fault is e = (refl, e)
passed false good fault is e = absurd (is e)
