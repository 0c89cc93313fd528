use Rattle.unibench_run.proofs.Vocabulary.{All, Audit, CallsTooMany, IfOk, IsClosed, IsPromised, NoSuchObject, OnOk, SeatOf, Write, length, subst, ◌*◌, ◌≡◌}
use Rattle.unibench_run.proofs.Locked.{on_ok}
use Rattle.unibench_run.proofs.lock.close_and_audit.Goals as goal

pub returns-in-Err-clause-audited : goal.returns-in-Err-clause-audited
returns-in-Err-clause-audited g c = λ verdict is. let same : c.closing_fault.result ≡ Audit verdict = cc in c.closing_fault.ensures.audited verdict same

pub returns-in-Agrees-clause-replies : goal.returns-in-Agrees-clause-replies
returns-in-Agrees-clause-replies g c =
    subst (λ seats. IfOk c.count_receipts-replies.result (λ replies. replies ≡ length seats * c.args.calls)) c.deref.ensures.value c.count_receipts-replies.ensures.receipts

pub returns-in-Agrees-clause-each : goal.returns-in-Agrees-clause-each
returns-in-Agrees-clause-each g c =
    subst (λ seats. OnOk c.count_receipts-replies.result (All (λ (seat : SeatOf g.row.O-Inv.Denot g.row.O-Resp.Denot). length seat.receipts ≡ c.args.calls) seats))
    c.deref.ensures.value c.count_receipts-replies.ensures.each

pub returns-in-Agrees-clause-closed : goal.returns-in-Agrees-clause-closed
returns-in-Agrees-clause-closed g c =
    let sequential = g.O.SeqObject.sequential in
    on_ok c.count_receipts-replies.result (
      c.in-Ok.closed.recorded,
      subst (IsClosed sequential c.in-Ok.closed.recorded) c.in-Ok.ensures.seats c.in-Ok.ensures.closed,
      subst (IsPromised sequential) c.recorded.ensures c.promise.ensures.promised,
    )

pub returns-in-Agrees-clause-others : goal.returns-in-Agrees-clause-others
returns-in-Agrees-clause-others g c = (
  (λ is. let same = (c.count_receipts-replies.ensures.lacks NoSuchObject is).3 in cc),
  (λ is. let same = (c.count_receipts-replies.ensures.lacks CallsTooMany is).3 in cc),
  (λ is. let same = (c.count_receipts-replies.ensures.lacks Write is).3 in cc),
)

pub returns-in-Agrees-clause-audited : goal.returns-in-Agrees-clause-audited
returns-in-Agrees-clause-audited g c = λ verdict is. let same = (c.count_receipts-replies.ensures.lacks (Audit verdict) is).3 in cc
