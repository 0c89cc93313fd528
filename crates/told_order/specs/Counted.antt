-- An object that counts its calls, and tells their places.
use Rattle.std.specs.Prelude.{◌≡◌, ◌↔◌, ◌+◌, ◌%◌, ◌^◌, ◌==◌, ◌&&◌, ℕ, Bool, true, refl}
use Rattle.std.proofs.Common.{subst, ap, ◌∙◌, eqb-true, eq-eqb}
use Rattle.std.proofs.lemmas.Bool.{and_parts, and_from}
use Rattle.seq_object.specs.Sequential.{Sequential, counter}
use Rattle.told_order.specs.declared.counted.CountedState.{CountedState}
use Rattle.told_order.specs.declared.in_place.InPlace.{InPlace}

-- The object with the number of its calls, modulo 2^64, before its state. A reply tells how many calls came before, and the object's reply.
abbrev pub counted : {S I R : Type 0} → Sequential S I R → Sequential (CountedState S) I (InPlace R)
counted object = record {
  initial = record { calls = 0; state = object.initial };
  next = λ before inv. record { calls = (before.calls + 1) % 2 ^ 64; state = object.next before.state inv };
  answer = λ before inv. record { place = before.calls; reply = object.answer before.state inv };
}

-- `==` of replies with places tells whether they are the same, where that of replies does
pub exact_in_place : {R : Type 0} (eq : R → R → Bool) → ((r s : R) → (eq r s ≡ true) ↔ (r ≡ s))
    → (a b : InPlace R) → (((a.place == b.place) && eq a.reply b.reply) ≡ true) ↔ (a ≡ b)
exact_in_place {R} eq exact a b = (
  λ e.
      let parts = and_parts (a.place == b.place) (eq a.reply b.reply) e in
      ap (λ place. record { place = place; reply = a.reply }) (eqb-true a.place b.place parts.0)
      ∙ ap (λ reply. record { place = b.place; reply = reply }) ((exact a.reply b.reply).0 parts.1),
  λ e. subst (λ (x : InPlace R). ((a.place == x.place) && eq a.reply x.reply) ≡ true) e
      (and_from (a.place == a.place) (eq a.reply a.reply) (eq-eqb a.place a.place refl) ((exact a.reply a.reply).1 refl)),
)

-- a counter's third call, with 5, and its reply: two calls came before it, and their sum is 8
abbrev sample : CountedState ℕ
sample = record { calls = 2; state = 8 }

sample_state : (counted counter).next sample 5 ≡ record { calls = 3; state = 13 }
sample_state = refl

sample_reply : (counted counter).answer sample 5 ≡ record { place = 2; reply = 8 }
sample_reply = refl
