use Rattle.run_picture.proofs.Vocabulary.{Drawing, IsDrawingOf, IsSvgOf, List, PlacedRemark, RunMarks, subst, svg_text, ℕ, ◌∙◌, ◌≡◌}
use Rattle.run_picture.proofs.picture.svg_of_subject.Goals as goal

-- the text of a drawing is that of what it shows
svg_of_drawing : (marks marks' : RunMarks) (remarks remarks' : List PlacedRemark) (d : Drawing) (svg : List ℕ) → IsDrawingOf marks remarks d → marks ≡ marks' → remarks ≡ remarks' → svg ≡ svg_text d → IsSvgOf marks' remarks' svg
svg_of_drawing marks marks' remarks remarks' d svg drawn same same' text =
    record { picture = d; drawn = subst (λ r. IsDrawingOf marks' r d) same' (subst (λ m. IsDrawingOf m remarks d) same drawn); text = text }

pub returns-clause-svg : goal.returns-clause-svg
returns-clause-svg c = svg_of_drawing _ _ _ _ _ _ c.in_ok-drawing.ensures.shown c.in_ok-part.ensures.marks (c.deref-2.ensures.value ∙ c.in_ok-part.ensures.remarks) c.in_ok-svg_of.ensures
