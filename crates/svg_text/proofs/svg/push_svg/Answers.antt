use Rattle.svg_text.proofs.Vocabulary.{ap, sym, ◌++◌, ◌∙◌}
use Rattle.svg_text.proofs.Trees.{gathered, picture_text}
use Rattle.std.proofs.lemmas.Result.{on_ok_weaker}
use Rattle.svg_text.proofs.svg.push_svg.Goals as goal

pub returns : goal.returns
returns c =
    on_ok_weaker c.write-3.result (λ h. h ∙ rw (c.in_ok-push_shapes-2.ensures, c.in_ok-push_words-3.ensures, c.in_ok-push_shapes.ensures, c.in_ok-write-2.ensures.bytes, c.in_ok-push_escaped-2.ensures, c.in_ok-push_words-2.ensures, c.in_ok-push_escaped.ensures, c.in_ok-push_words.ensures, c.in_ok-write.ensures.bytes, c.deref.ensures.value, c.deref-2.ensures.value, c.deref-3.ensures.value, c.deref-4.ensures.value) (gathered c.args.svg.now.items _ _ _ _ _ _ _ _ _ _ ∙ ap (λ t. c.args.svg.now.items ++ t) (sym (picture_text c.args.drawing.now)))) c.write-3.ensures.bytes
