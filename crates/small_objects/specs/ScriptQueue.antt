-- The queue of scripts with a capacity, in words: its state is the list of its values, the first of them first.
use Rattle.std.specs.Prelude.{◌≡◌, ℕ, ◌≤◌, ◌==◌, ◌&&◌, List, [], ◌∷◌, ◌++◌, Option, None, Some, if◌then◌else◌, length, nat_lt, refl, slice_index}
use Rattle.std.proofs.Common.{ap}
use Rattle.seq_object.specs.Sequential.{Sequential}
use Rattle.uni_small.specs.Image.{IsSteady, Meaning}
use Rattle.ready_objects.specs.declared.queue.QueueInv.{QueueInv}
use Rattle.ready_objects.specs.declared.queue.QueueInv.TheVariants.{Deq, Enq}
use Rattle.ready_objects.specs.declared.queue.QueueResp.{QueueResp}
use Rattle.ready_objects.specs.declared.queue.QueueResp.TheVariants.{Added, Empty, Full, Taken}
use Rattle.small_objects.specs.Amount.{IsAmount, amount_fits, amount_in, amount_words, is_amount, is_amount-true}
use Rattle.small_objects.specs.Encoding.{in_words, steady_in_words}
use Rattle.small_objects.specs.Ring.{ring_queue, ring_steady}

-- the values after a call: as those of scripts, but at most so many
abbrev pub values_after : (capacity : ℕ) → List ℕ → QueueInv → List ℕ
values_after capacity values (Enq v) = if nat_lt (length values) capacity then values ++ v ∷ [] else values
values_after capacity [] Deq = []
values_after capacity (v ∷ values) Deq = values

-- the reply to it
abbrev pub reply_to : (capacity : ℕ) → List ℕ → QueueInv → QueueResp
reply_to capacity values (Enq v) = if nat_lt (length values) capacity then Added else Full
reply_to capacity [] Deq = Empty
reply_to capacity (v ∷ values) Deq = Taken v

abbrev pub queue_of : (capacity : ℕ) → Sequential (List ℕ) QueueInv QueueResp
queue_of capacity = record { initial = []; next = values_after capacity; answer = reply_to capacity }

-- the value that a call puts in, and the call that puts one in, or else takes one out
abbrev pub put_by : QueueInv → Option ℕ
put_by (Enq v) = Some v
put_by Deq = None

abbrev pub put_of : Option ℕ → QueueInv
put_of (Some v) = Enq v
put_of None = Deq

abbrev pub call_words : QueueInv → List ℕ
call_words call = amount_words (put_by call)

abbrev pub call_in : List ℕ → QueueInv
call_in words = put_of (amount_in words)

-- the words of a reply: which one it is, and its value
abbrev pub reply_words : QueueResp → List ℕ
reply_words Added = 0 ∷ 0 ∷ []
reply_words Full = 1 ∷ 0 ∷ []
reply_words (Taken v) = 2 ∷ v ∷ []
reply_words Empty = 3 ∷ 0 ∷ []

abbrev pub reply_in : List ℕ → QueueResp
reply_in words =
    if slice_index words 0 == 0 then Added
    else if slice_index words 0 == 1 then Full
    else if slice_index words 0 == 2 && is_amount (slice_index words 1) then Taken (slice_index words 1) else Empty

-- a call, and a reply, that a program has
abbrev pub IsCall : QueueInv → Type 0
IsCall call = IsAmount (put_by call)

abbrev pub IsReply : QueueResp → Type 0
IsReply (Taken v) = v ≤ 999999999999
IsReply _ = Unit {0}

pub call_fits : (call : QueueInv) → IsCall call → call_in (call_words call) ≡ call
call_fits (Enq v) is = ap put_of (amount_fits (Some v) is)
call_fits Deq is = refl

pub reply_long : (reply : QueueResp) → length (reply_words reply) ≡ 2
reply_long Added = refl
reply_long Full = refl
reply_long (Taken v) = refl
reply_long Empty = refl

pub reply_fits : (reply : QueueResp) → IsReply reply → reply_in (reply_words reply) ≡ reply
reply_fits Added is = refl
reply_fits Full is = refl
reply_fits (Taken v) is = rw (is_amount-true v is) refl
reply_fits Empty is = refl

-- the queue in a ring of words, and with its calls and replies in words
abbrev pub on_words : (capacity : ℕ) → Sequential (List ℕ) QueueInv QueueResp
on_words capacity = ring_queue capacity (queue_of capacity)

abbrev pub spelled : (capacity : ℕ) → Meaning
spelled capacity = record { object = in_words (on_words capacity) call_in reply_words; invocation = 2; reply = 2 }

pub queue_steady : (capacity : ℕ) → IsSteady (spelled capacity).object 2
queue_steady capacity = steady_in_words (on_words capacity) call_in reply_words 2
    (λ state call long. ring_steady capacity (queue_of capacity) state call) reply_long

-- behind the last slot comes the first one: 9 goes in there, and then 8 is taken out of the last
sample_put : (spelled 4).object.next (1 ∷ 3 ∷ 0 ∷ 0 ∷ 0 ∷ 8 ∷ []) (1 ∷ 9 ∷ []) ≡ 2 ∷ 3 ∷ 9 ∷ 0 ∷ 0 ∷ 8 ∷ []
sample_put = refl

sample_out : (spelled 4).object.next (2 ∷ 3 ∷ 9 ∷ 0 ∷ 0 ∷ 8 ∷ []) (0 ∷ 0 ∷ []) ≡ 1 ∷ 0 ∷ 9 ∷ 0 ∷ 0 ∷ 0 ∷ []
sample_out = refl

sample_full : (spelled 1).object.answer (1 ∷ 0 ∷ 8 ∷ []) (1 ∷ 9 ∷ []) ≡ 1 ∷ 0 ∷ []
sample_full = refl

sample_taken : (spelled 1).object.answer (1 ∷ 0 ∷ 8 ∷ []) (0 ∷ 0 ∷ []) ≡ 2 ∷ 8 ∷ []
sample_taken = refl

sample_empty : (spelled 1).object.answer (0 ∷ 0 ∷ 0 ∷ []) (0 ∷ 0 ∷ []) ≡ 3 ∷ 0 ∷ []
sample_empty = refl
