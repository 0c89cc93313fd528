use Rattle.uni_script.proofs.Vocabulary.{List, [], arith, length, refl, without, ℕ, ◌<◌, ◌∷◌, ◌≡◌}
use Rattle.uni_script.proofs.remarks.without.Goals as goal

without-none : (b : ℕ) (text : List ℕ) → length text < 1 → text ≡ without b text
without-none b [] short = refl
without-none b (c ∷ text) short = absurd (omega arith)

pub returns-in_default : goal.returns-in_default
returns-in_default c = without-none c.args.byte c.args.text.now c.in_default.len_below
