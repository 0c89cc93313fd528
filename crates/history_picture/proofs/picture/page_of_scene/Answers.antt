use Rattle.std.proofs.Common.{List, ap, ℕ, ◌++◌, ◌∙◌}
use Rattle.std.proofs.lemmas.List.{append_assoc}
use Rattle.history_picture.specs.Picture.{page_foot, page_head}
use Rattle.history_picture.proofs.picture.page_of_scene.Goals as goal

pub returns-clause-page : goal.returns-clause-page
returns-clause-page c = (
  c.in_ok-svg.svg.items,
  c.in_ok-svg.ensures.picture,
  c.in_ok-extend_from_slice-2.ensures.items
      ∙ ap (λ (bytes : List ℕ). bytes ++ c.as_bytes-2.result.now)
      (c.in_ok-extend_from_slice.ensures.items ∙ (ap (λ (bytes : List ℕ). bytes ++ c.deref.result.now) (c.in_ok-page.ensures.items ∙ c.as_bytes.ensures.value) ∙ ap (λ (bytes : List ℕ). page_head ++ bytes) c.deref.ensures.value))
      ∙ ap (λ (bytes : List ℕ). (page_head ++ c.in_ok-svg.svg.items) ++ bytes) c.as_bytes-2.ensures.value
      ∙ append_assoc page_head c.in_ok-svg.svg.items page_foot,
)
