use Rattle.uni_audit.proofs.Vocabulary.{[], ap, arith, if◌then◌else◌, length, length-map, map-append, row_of, subst, sym, ℕ, ◌++◌, ◌==◌, ◌∙◌, ◌∷◌, ◌≡◌}
use Rattle.uni_audit.proofs.Table.{table_more}
use Rattle.uni_audit.proofs.checker.check_entry.Goals as goal

pub returns-clause-gone_over : goal.returns-clause-gone_over
returns-clause-gone_over g c = λ earlier over _.
    let entry = c.args.entry.now in
    let calls = c.args.check.now.calls in
    let after = c.push.new.self in
    let items : length c.args.check.now.replies.items ≡ length earlier = ap length over.replies ∙ length-map earlier _ in
    let len = c.args.check.now.replies.ok.0 in
    let place : c.len-place.result ≡ length earlier = omega (arith, items, len) in
    let grown : (q : ℕ) → row_of after q ≡ (if entry.call.process == q then row_of calls q ++ length earlier ∷ [] else row_of calls q) =
    subst (λ n. (q : ℕ) → row_of after q ≡ (if entry.call.process == q then row_of calls q ++ n ∷ [] else row_of calls q)) place
    (c.in_ok-is_next.ensures.rows c.if-not-is_next.false) in
    record {
      table = table_more earlier entry calls after over.table (c.in_ok-is_next.ensures.next.0 c.if-not-is_next.false) grown;
      replies = c.in_ok-push.ensures.items ∙ ap (λ rs. rs ++ entry.reply ∷ []) over.replies ∙ sym (map-append _ earlier (entry ∷ []));
    }
