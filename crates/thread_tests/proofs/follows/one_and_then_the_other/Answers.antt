use Rattle.std.proofs.Common.{rules, ◌≡◌, ◌∙◌, ◌++◌, ◌∷◌, [], ℕ, ◌≤◌, length, subst, arith}
use Rattle.uni_model.specs.Eras.{StandsAt}
use Rattle.uni_words.specs.Belongs.{calls_made, calls_of, log_in, own_calls, process_of, seen_by}
use Rattle.uni_words.specs.View.{seen_of, up_to}
use Rattle.thread_tests.proofs.Before.{stands_before}
use Rattle.thread_tests.proofs.follows.one_and_then_the_other.Goals as goal

pub returns : goal.returns
returns g c =
    let first = c.args.first in
    let second = c.args.second in
    let call = c.in_ok-answer.answer.call in
    let process : call.process ≡ process_of first = search rules in
    let nth : call.nth ≡ calls_made first = search rules in
    let there : seen_by c.follows.new.self ≡ seen_by second ++ seen_of (calls_of second) (up_to call ∷ []) = search rules in
    let counted = c.requires.1.counted in
    let begun : length (own_calls second) ≤ calls_made second = omega (arith, counted) in
    record {
      order = λ place stands.
          let h = stands_before (log_in c.close_with.result) call (calls_of second) (seen_by second) _ (c.apply-2.ensures.seen ∙ there) c.close_with.ensures.order (calls_made second) place begun stands in
          (h.0, h.1, subst (λ p. StandsAt (log_in c.close_with.result) p (calls_made first) h.0) process (subst (λ k. StandsAt (log_in c.close_with.result) call.process k h.0) nth h.2));
    }
