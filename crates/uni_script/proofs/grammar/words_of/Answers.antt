use Rattle.uni_script.proofs.Vocabulary.{[], ap, append_assoc, bytes_of, drop, drop-drop, length, map-append, sym, take, words_of_text, ◌+◌, ◌++◌, ◌-◌, ◌∙◌, ◌∷◌, ◌≡◌}
use Rattle.std.proofs.lemmas.List.{take_rest}
use Rattle.uni_script.proofs.Splitting.{words-none, words-some}
use Rattle.uni_script.proofs.grammar.words_of.Goals as goal

pub loop-at-preserved : goal.loop-at-preserved
loop-at-preserved c =
    let rest = c.loop-at.rest.now in
    let at = c.in-Some.at in
    let words = c.loop-at.words.items in
    let tail = take (length rest - at) (drop at rest) in
    let left : take (length tail - 1) (drop 1 tail) ≡ drop (at + 1) rest = take_rest tail 1 ∙ ap (λ l. drop 1 l) (take_rest rest at) ∙ drop-drop 1 at rest in
    let more : bytes_of c.push.new.self.items ≡ bytes_of words ++ take at rest ∷ [] = ap bytes_of c.in_ok-push.ensures.ok ∙ map-append (λ w. w.now) words _ in
    c.loop-at.invariant
    ∙ ap (λ l. bytes_of words ++ l) (words-some rest at (sym c.in-Some.is ∙ c.space_in.ensures) ∙ ap (λ l. take at rest ∷ words_of_text l) (sym left))
    ∙ sym (append_assoc (bytes_of words) (take at rest ∷ []) (words_of_text (take (length tail - 1) (drop 1 tail))))
    ∙ ap (λ l. l ++ words_of_text (take (length tail - 1) (drop 1 tail))) (sym more)

pub returns : goal.returns
returns c =
    ap bytes_of c.in_ok-push-2.ensures.ok ∙ map-append (λ w. w.now) c.loop-at.words.items _
    ∙ ap (λ l. bytes_of c.loop-at.words.items ++ l) (sym (words-none c.loop-at.rest.now (sym c.in_default.is ∙ c.space_in.ensures))) ∙ sym c.loop-at.invariant
