-- An object that tells the places of its calls.
use Rattle.std.proofs.Common.{ap, arith}
use Rattle.std.specs.Prelude.{◌≡◌, suc, ◌+◌, ◌%◌, ◌^◌, [], ◌∷◌, drop, slice_index, refl}
use Rattle.uni_small.specs.Image.{IsSteady, Meaning, sample_counter}

-- The object with a word before its state, which counts the calls. A reply tells in its first word how many calls came before, and
-- behind it the object's reply.
abbrev pub placed : Meaning → Meaning
placed meaning = record {
  object = record {
    initial = 0 ∷ meaning.object.initial;
    next = λ state inv. (slice_index state 0 + 1) % 2 ^ 64 ∷ meaning.object.next (drop 1 state) inv;
    answer = λ state inv. slice_index state 0 ∷ meaning.object.answer (drop 1 state) inv;
  };
  invocation = meaning.invocation;
  reply = suc meaning.reply;
}

pub placed_steady : (meaning : Meaning) → IsSteady meaning.object meaning.reply → IsSteady (placed meaning).object (suc meaning.reply)
placed_steady meaning steady (count ∷ state) inv long = (let s = steady state inv (omega (arith, long)) in (ap suc s.0, ap suc s.1))
placed_steady meaning steady [] inv long = absurd (omega (arith, long))

-- a counter's third call, and its reply: two calls came before it, and their sum is 8
abbrev sample : Meaning
sample = record { object = sample_counter; invocation = 1; reply = 1 }

sample_state : (placed sample).object.next (2 ∷ 8 ∷ []) (5 ∷ []) ≡ 3 ∷ 13 ∷ []
sample_state = refl

sample_reply : (placed sample).object.answer (2 ∷ 8 ∷ []) (5 ∷ []) ≡ 2 ∷ 8 ∷ []
sample_reply = refl
