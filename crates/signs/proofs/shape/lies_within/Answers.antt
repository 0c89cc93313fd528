use Rattle.std.proofs.Common.{◌≡◌, inl, inr, subst}
use Rattle.svg_text.specs.declared.shape.Shape.{Shape}
use Rattle.signs.specs.Signs.{IsWithin, outline_of}
use Rattle.signs.specs.declared.sign.Span.{Span}
use Rattle.signs.proofs.shape.lies_within.Goals as goal

-- what is within as one of its shapes is within as this one
within_as : (wide high : Span) (shape it : Shape) → shape ≡ it → IsWithin wide high (outline_of shape) → IsWithin wide high (outline_of it)
within_as wide high shape it is = subst (λ (s : Shape). IsWithin wide high (outline_of s)) is

pub returns-in-Line-clause-off : goal.returns-in-Line-clause-off
returns-in-Line-clause-off c = λ off all. c.hold_two.ensures.off off (within_as c.args.wide c.args.high _ _ c.in-Line.is all)

pub returns-in-Tip-clause-off : goal.returns-in-Tip-clause-off
returns-in-Tip-clause-off c = λ off all. c.hold_three.ensures.off off (within_as c.args.wide c.args.high _ _ c.in-Tip.is all)

pub returns-in-Dot-clause-off : goal.returns-in-Dot-clause-off
returns-in-Dot-clause-off c = λ off all. elim c.in-Dot.is [
  | inl is ↦ c.hold_one.ensures.off off (within_as c.args.wide c.args.high _ _ is all)
  | inr it ↦ c.hold_one.ensures.off off (within_as c.args.wide c.args.high _ _ it.3 all)
]

pub returns-in-Rect-clause-off : goal.returns-in-Rect-clause-off
returns-in-Rect-clause-off c = λ off all. elim c.in-Rect.is [
  | inl it ↦ c.holds_box.ensures.off off (within_as c.args.wide c.args.high _ _ it.1 all)
  | inr more ↦ elim more [
    | inl it ↦ c.holds_box.ensures.off off (within_as c.args.wide c.args.high _ _ it.2 all)
    | inr it ↦ c.holds_box.ensures.off off (within_as c.args.wide c.args.high _ _ it.1 all)
  ]
]
