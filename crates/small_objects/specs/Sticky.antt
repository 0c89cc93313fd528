-- The sticky register of scripts in words: its state, a call and a reply are each an amount that may be missing.
use Rattle.std.specs.Prelude.{◌≡◌, ℕ, List, [], ◌∷◌, Option, None, Some, refl}
use Rattle.std.proofs.Common.{ap}
use Rattle.ready_objects.specs.Sticky.{sticky, sticky_next}
use Rattle.ready_objects.specs.declared.sticky.StickyInv.{StickyInv}
use Rattle.ready_objects.specs.declared.sticky.StickyInv.TheVariants.{Read, Stick}
use Rattle.ready_objects.specs.declared.sticky.StickyResp.{StickyResp}
use Rattle.ready_objects.specs.declared.sticky.StickyResp.TheVariants.{Settled, Unset}
use Rattle.small_objects.specs.Amount.{IsAmount, amount_fits, amount_in, amount_in-IsAmount, amount_words}
use Rattle.small_objects.specs.Encoding.{Fits, kept_by_calls}

-- the value that a call proposes, and the call that proposes one, or else reads
abbrev pub proposed_by : StickyInv → Option ℕ
proposed_by (Stick value) = Some value
proposed_by Read = None

abbrev pub proposal_of : Option ℕ → StickyInv
proposal_of (Some value) = Stick value
proposal_of None = Read

-- the value that a reply tells, and the reply that tells one, or that there is none
abbrev pub told_by : StickyResp → Option ℕ
told_by (Settled value) = Some value
told_by Unset = None

abbrev pub reply_of : Option ℕ → StickyResp
reply_of (Some value) = Settled value
reply_of None = Unset

abbrev pub call_words : StickyInv → List ℕ
call_words call = amount_words (proposed_by call)

abbrev pub call_in : List ℕ → StickyInv
call_in words = proposal_of (amount_in words)

abbrev pub reply_words : StickyResp → List ℕ
reply_words reply = amount_words (told_by reply)

abbrev pub reply_in : List ℕ → StickyResp
reply_in words = reply_of (amount_in words)

-- a call, and a reply, that a program has
abbrev pub IsCall : StickyInv → Type 0
IsCall call = IsAmount (proposed_by call)

abbrev pub IsReply : StickyResp → Type 0
IsReply reply = IsAmount (told_by reply)

pub call_fits : (call : StickyInv) → IsCall call → call_in (call_words call) ≡ call
call_fits (Stick value) is = ap proposal_of (amount_fits (Some value) is)
call_fits Read is = refl

pub reply_fits : (reply : StickyResp) → IsReply reply → reply_in (reply_words reply) ≡ reply
reply_fits (Settled value) is = ap reply_of (amount_fits (Some value) is)
reply_fits Unset is = refl

-- no call makes the state anything but an amount
pub sticky_fits : Fits sticky amount_words amount_in call_in
sticky_fits state was = amount_fits state (kept_by_calls sticky call_in IsAmount tt (λ before words is. keeps before (amount_in words) is (amount_in-IsAmount words)) state was) where
  keeps : (before proposed : Option ℕ) → IsAmount before → IsAmount proposed → IsAmount (sticky_next before (proposal_of proposed))
  keeps None None is new = tt
  keeps None (Some value) is new = new
  keeps (Some old) None is new = is
  keeps (Some old) (Some value) is new = is

sample_call : call_words (Stick 7) ≡ 1 ∷ 7 ∷ []
sample_call = refl

sample_read : call_in (0 ∷ 0 ∷ []) ≡ Read
sample_read = refl

sample_reply : reply_words (Settled 7) ≡ 1 ∷ 7 ∷ []
sample_reply = refl

sample_unset : reply_words Unset ≡ 0 ∷ 0 ∷ []
sample_unset = refl
