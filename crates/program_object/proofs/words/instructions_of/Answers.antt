use Rattle.program_object.proofs.Vocabulary.{Instruction, List, Some, [], ap, arith, length, slice_get, subst, sym, ◌+◌, ◌++◌, ◌∙◌, ◌∷◌, ◌≡◌}
use Rattle.program_object.proofs.Lists.{pushed_each}
use Rattle.program_object.specs.Words.{spelled_at}
use Rattle.std.proofs.Common.{length-append}
use Rattle.program_object.proofs.words.instructions_of.Goals as goal

pub loop-number-preserved : goal.loop-number-preserved
loop-number-preserved c =
    let words = c.args.words.now in
    let before = c.loop-number.instructions.items in
    let i = c.in-Some.instruction in
    let pushed : c.push.new.self.items ≡ before ++ i ∷ [] = c.in_ok-push.ensures.items in
    let many : length before ≡ c.loop-number.number = c.loop-number.invariant.made in
    let last : spelled_at words (length before) ≡ Some i = ap (spelled_at words) many ∙ sym c.spelled_at.ensures ∙ c.in-Some.is in
    let more : length (before ++ i ∷ []) ≡ length before + 1 = length-append before (i ∷ []) in
    record {
      made = ap length pushed ∙ more ∙ ap (λ n. n + 1) many;
      each = λ k below. subst (λ (is : List Instruction). spelled_at words k ≡ slice_get is k) (sym pushed)
          (pushed_each before i (spelled_at words) (λ j b. c.loop-number.invariant.each j (omega arith)) last k (omega arith));
    }
