-- Calls as C tells them, and as the lists with which the low crate compares a log.
use Rattle.universal_c.proofs.Vocabulary.{List, [], ap, map, refl, replied, told_call, ℕ, ◌∷◌, ◌≡◌}
use Rattle.universal_c.specs.declared.Call.{Call}

abbrev pub pair : Call → ℕ × ℕ
pair call = (call.inv, call.answer.reply)

pub as_told : (calls : List Call) → map replied (map pair calls) ≡ map told_call calls
as_told [] = refl
as_told (c ∷ cs) = ap (λ l. told_call c ∷ l) (as_told cs)
