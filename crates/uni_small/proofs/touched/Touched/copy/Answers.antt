use Rattle.std.proofs.Common.{arith, inl, inr, ◌∙◌}
use Rattle.uni_model.proofs.Written.{lt_cases}
use Rattle.uni_small.proofs.touched.Touched.copy.Goals as goal

pub returns-clause-copied : goal.returns-clause-copied
returns-clause-copied c = λ i inside.
    let t = c.args.self in
    let second = c.copy_between-2.ensures in
    elim (lt_cases i t.head) [
      | inl head ↦ elim (lt_cases i t.from) [
        | inl before ↦ inr (second.beside i (inl before.0) ∙ c.copy_between.ensures.between i inside (omega arith) head.0)
        | inr from ↦ elim (lt_cases i t.to) [
          | inl within ↦ inr (second.between i (let l = c.copy_between.ensures.long in omega arith) from.0 within.0)
          | inr after ↦ inr (second.beside i (inr after.0) ∙ c.copy_between.ensures.between i inside (omega arith) head.0)
        ]
      ]
      | inr later ↦ elim (lt_cases i t.from) [
        | inl before ↦ inl (later.0, inl before.0)
        | inr from ↦ elim (lt_cases i t.to) [
          | inl within ↦ inr (second.between i (let l = c.copy_between.ensures.long in omega arith) from.0 within.0)
          | inr after ↦ inl (later.0, inr after.0)
        ]
      ]
    ]
