use Rattle.svg_text.proofs.Vocabulary.{◌∙◌}
use Rattle.svg_text.proofs.Trees.{plain_parts}
unfoldable use Rattle.svg_text.specs.Svg.{shape_text}
use Rattle.std.proofs.lemmas.Result.{on_ok_weaker}
use Rattle.svg_text.proofs.svg.push_shape.Goals as goal

pub returns-in-Rect : goal.returns-in-Rect
unfolding shape_text
returns-in-Rect c = on_ok_weaker c.write.result (λ h. h ∙ rw c.in-Rect.is (simp plain_parts)) c.write.ensures.bytes

pub returns-in_ok-push_escaped-in-Titled : goal.returns-in_ok-push_escaped-in-Titled
unfolding shape_text
returns-in_ok-push_escaped-in-Titled c =
    on_ok_weaker c.write-in-Titled-2.result (λ h. h ∙ rw (c.in_ok-push_escaped-in-Titled.ensures, c.in_ok-write-in-Titled.ensures.bytes, c.deref.ensures.value, c.in-Titled.is) (simp plain_parts)) c.write-in-Titled-2.ensures.bytes

pub returns-in-Line : goal.returns-in-Line
unfolding shape_text
returns-in-Line c = on_ok_weaker c.write-in-Line.result (λ h. h ∙ rw c.in-Line.is (simp plain_parts)) c.write-in-Line.ensures.bytes

pub returns-in-Dot : goal.returns-in-Dot
unfolding shape_text
returns-in-Dot c = on_ok_weaker c.write-in-Dot.result (λ h. h ∙ rw c.in-Dot.is (simp plain_parts)) c.write-in-Dot.ensures.bytes

pub returns-in-Tip : goal.returns-in-Tip
unfolding shape_text
returns-in-Tip c = on_ok_weaker c.write-in-Tip.result (λ h. h ∙ rw c.in-Tip.is (simp plain_parts)) c.write-in-Tip.ensures.bytes

pub returns-in_ok-push_escaped-in-Text : goal.returns-in_ok-push_escaped-in-Text
unfolding shape_text
returns-in_ok-push_escaped-in-Text c =
    on_ok_weaker c.write-in-Text-2.result (λ h. h ∙ rw (c.in_ok-push_escaped-in-Text.ensures, c.in_ok-write-in-Text.ensures.bytes, c.deref-in-Text.ensures.value, c.in-Text.is) (simp plain_parts)) c.write-in-Text-2.ensures.bytes

pub returns-in_ok-write-in-View : goal.returns-in_ok-write-in-View
unfolding shape_text
returns-in_ok-write-in-View c =
    on_ok_weaker c.write-in-View-2.result (λ h. h ∙ rw (c.in_ok-write-in-View.ensures.bytes, c.in-View.is) (simp plain_parts)) c.write-in-View-2.ensures.bytes
