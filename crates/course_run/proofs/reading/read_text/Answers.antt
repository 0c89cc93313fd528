use Rattle.std.proofs.Common.{IfSome, List, None, Option, Some, [], ap, subst, take, ℕ, ◌++◌, ◌∙◌, ◌≡◌}
use Rattle.std.specs.Prelude.{option_map}
use Rattle.course_run.proofs.reading.read_text.Goals as goal

-- what is read of the first bytes of a reader is the first bytes that it has
first_of : (left : Option (List ℕ)) (n most : ℕ) (before text : List ℕ) → n ≡ most → before ≡ []
    → IfSome (option_map (take n) left) (λ bytes. text ≡ before ++ bytes) → IfSome left (λ bytes. text ≡ take most bytes)
first_of None n most before text same none is = tt
first_of (Some bytes) n most before text same none is =
    is ∙ ap (λ b. b ++ take n bytes) none ∙ ap (λ k. take k bytes) same

pub returns-in-Ok-clause-text : goal.returns-in-Ok-clause-text
returns-in-Ok-clause-text g c =
    let left = g.R.Read.remaining in
    let text = c.read_to_end.new.buf.items in
    subst (λ input. IfSome (left input) (λ bytes. text ≡ take 20100001 bytes)) c.take.ensures.inner
    (first_of (left c.take.result.inner) c.take.result.limit 20100001 _ text c.take.ensures.limit c.new-text.ensures.items
    c.in-Ok.ensures.bytes)
