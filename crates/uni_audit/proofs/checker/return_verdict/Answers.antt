use Rattle.uni_audit.proofs.Vocabulary.{Agrees, BadReturn, None, Some, ap, entry_place, false, if◌then◌else◌, not-false, not-true, sym, true, ◌∙◌, ◌≡◌}
use Rattle.uni_audit.proofs.Table.{marked_more, verdict_unmarked, verdict_unplaced}
use Rattle.uni_audit.proofs.checker.return_verdict.Goals as goal

pub returns-in_default-clause-verdict : goal.returns-in_default-clause-verdict
returns-in_default-clause-verdict g c = λ entries earlier over are.
    let call = c.args.returned.now.call in
    let none : entry_place call entries ≡ None = sym (over.table.placed call) ∙ sym c.place.ensures ∙ c.in_default.is in
    verdict_unplaced g.O.Resp.PartialEq.eq entries earlier c.args.marks.now c.args.returned.now are none

pub returns-in_default-index-clause-verdict : goal.returns-in_default-index-clause-verdict
returns-in_default-index-clause-verdict g c = λ entries earlier over are.
    let call = c.args.returned.now.call in
    let at : entry_place call entries ≡ Some c.in-Some.place = sym (over.table.placed call) ∙ sym c.place.ensures ∙ c.in-Some.is in
    let is = rw c.in_default-index.is at c.index.ensures in
    verdict_unmarked entries earlier c.args.marks.now c.args.returned.now are c.in-Some.place at g.O.Resp.PartialEq.eq
    c.args.check.now.replies.items None over.replies is c.if-marks-place.false

pub returns-then-ne-clause-verdict : goal.returns-then-ne-clause-verdict
returns-then-ne-clause-verdict g c = λ entries earlier over are.
    let call = c.args.returned.now.call in
    let at : entry_place call entries ≡ Some c.in-Some.place = sym (over.table.placed call) ∙ sym c.place.ensures ∙ c.in-Some.is in
    let is = rw c.in-Some-index.is at c.index.ensures in
    let test : g.O.Resp.PartialEq.eq c.in-Some-index.reply c.args.returned.now.reply ≡ false = not-true _ (sym c.ne.ensures ∙ c.if-ne.true) in
    ap (λ t. if t then Agrees else BadReturn call) (sym test) ∙ verdict_unmarked entries earlier c.args.marks.now c.args.returned.now are c.in-Some.place at g.O.Resp.PartialEq.eq
    c.args.check.now.replies.items (Some c.in-Some-index.reply) over.replies is c.if-marks-place.false

pub returns-clause-verdict : goal.returns-clause-verdict
returns-clause-verdict g c = λ entries earlier over are.
    let call = c.args.returned.now.call in
    let at : entry_place call entries ≡ Some c.in-Some.place = sym (over.table.placed call) ∙ sym c.place.ensures ∙ c.in-Some.is in
    let is = rw c.in-Some-index.is at c.index.ensures in
    let test : g.O.Resp.PartialEq.eq c.in-Some-index.reply c.args.returned.now.reply ≡ true = not-false _ (sym c.ne.ensures ∙ c.if-ne.false) in
    ap (λ t. if t then Agrees else BadReturn call) (sym test) ∙ verdict_unmarked entries earlier c.args.marks.now c.args.returned.now are c.in-Some.place at g.O.Resp.PartialEq.eq
    c.args.check.now.replies.items (Some c.in-Some-index.reply) over.replies is c.if-marks-place.false

pub returns-clause-marked : goal.returns-clause-marked
returns-clause-marked g c = λ entries earlier over are _.
    let call = c.args.returned.now.call in
    let at : entry_place call entries ≡ Some c.in-Some.place = sym (over.table.placed call) ∙ sym c.place.ensures ∙ c.in-Some.is in
    marked_more entries earlier c.args.marks.now c.args.returned.now are c.in-Some.place at
