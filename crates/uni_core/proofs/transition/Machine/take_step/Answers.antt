use Rattle.std.proofs.Common.{refl, inl, inr}
use Rattle.uni_core.proofs.Transitions.{Takes-finish, Takes-scan_head, Takes-scan_seq, Takes-test, Takes-read_announce, Takes-read_help_seq, Takes-decide_after}
use Rattle.uni_core.proofs.transition.Machine.take_step.Goals as goal
use Rattle.uni_core.proofs.transition.Machine.take_step.Goals.{then-c_seq-mine_seq, else-c_seq-mine_seq, in-Announce, in-ScanHead, in-ScanSeq, in-WriteScan, in-Test, in-ReadAnnounce, in-ReadHelpSeq, in-DecideAfter, in-DecideNew+in_ok-settle_new-in-DecideNew, in-WriteBefore, in-WriteSeq, in-WriteHead}

pub returns-in-Finish-clause-taken : goal.returns-in-Finish-clause-taken
returns-in-Finish-clause-taken g c =
    rw c.in-Finish.is (Takes-finish _ c.args.p _ c.in-Finish.c_seq c.in-Finish.mine_seq c.args.self.now.shared c.if-c_seq-mine_seq.self.shared _ c.response-response.ensures
    (elim c.if-c_seq-mine_seq.branch [
      | then-c_seq-mine_seq w ↦ inl (w.if-c_seq-mine_seq.true, rw w.self-is (w.set_head-then-c_seq-mine_seq.ensures.shape), rw w.self-is w.set_head-then-c_seq-mine_seq.ensures.memory)
      | else-c_seq-mine_seq w ↦ inr (w.if-c_seq-mine_seq.false, rw w.self-is refl)
    ]))

pub returns-clause-taken : goal.returns-clause-taken
returns-clause-taken g c =
    elim c.match-from.branch [
      | in-Announce w ↦ rw (w.in-Announce.is, w.self-is, w.stage-is, w.anchor.ensures)
          (record { shape = w.announce.ensures.shape; memory = w.announce.ensures.memory; stage = refl; told = refl })
      | in-ScanHead w ↦ rw (w.in-ScanHead.is, w.self-is, w.stage-is) (Takes-scan_head _ c.args.p _ c.args.self.now.shared _ _ _ _ w.head.ensures)
      | in-ScanSeq w ↦ rw (w.in-ScanSeq.is, w.self-is, w.stage-is)
          (Takes-scan_seq _ c.args.p _ c.args.self.now.shared _ _ _ _ c.processes-n.result w.seq.result w.after_comparing.result c.processes-n.ensures w.after_comparing.ensures w.seq.ensures)
      | in-WriteScan w ↦ rw (w.in-WriteScan.is, w.self-is, w.stage-is)
          (record { shape = w.set_head.ensures.shape; memory = w.set_head.ensures.memory; stage = refl; told = refl })
      | in-Test w ↦ rw (w.in-Test.is, w.self-is, w.stage-is)
          (Takes-test _ c.args.p _ c.args.self.now.shared w.in-Test.c _ w.seq-in-Test.result w.after_test.result w.after_test.ensures w.seq-in-Test.ensures)
      | in-ReadAnnounce w ↦ rw (w.in-ReadAnnounce.is, w.self-is, w.stage-is)
          (Takes-read_announce _ c.args.p _ c.args.self.now.shared w.in-ReadAnnounce.c w.in-ReadAnnounce.c_seq _ c.processes-n.result c.processes-n.ensures w.announced.ensures)
      | in-ReadHelpSeq w ↦ rw (w.in-ReadHelpSeq.is, w.self-is, w.stage-is)
          (Takes-read_help_seq _ c.args.p _ c.args.self.now.shared w.in-ReadHelpSeq.c _ w.in-ReadHelpSeq.help c.args.mine w.seq-in-ReadHelpSeq.result w.preferred.result refl w.preferred.ensures w.seq-in-ReadHelpSeq.ensures)
      | in-DecideAfter w ↦ rw (w.in-DecideAfter.is, w.self-is, w.stage-is)
          (Takes-decide_after _ c.args.p _ c.args.self.now.shared w.in-DecideAfter.c _ w.in-DecideAfter.prefer _ _ w.decide_after.ensures.shape w.decide_after.ensures.memory w.decide_after.ensures.answer)
      | in-DecideNew+in_ok-settle_new-in-DecideNew w ↦ rw (w.in-DecideNew.is, w.self-is, w.stage-is)
          (record { shape = w.settle_new.ensures.shape; memory = w.in_ok-settle_new-in-DecideNew.ensures.memory; stage = refl; told = refl })
      | in-WriteBefore w ↦ rw (w.in-WriteBefore.is, w.self-is, w.stage-is)
          (record { shape = w.set_before.ensures.shape; memory = w.set_before.ensures.memory; stage = refl; told = refl })
      | in-WriteSeq w ↦ rw (w.in-WriteSeq.is, w.self-is, w.stage-is)
          (record { shape = w.set_seq.ensures.shape; memory = w.set_seq.ensures.memory; stage = refl; told = refl })
      | in-WriteHead w ↦ rw (w.in-WriteHead.is, w.self-is, w.stage-is)
          (record { shape = w.set_head-in-WriteHead.ensures.shape; memory = w.set_head-in-WriteHead.ensures.memory; stage = refl; told = refl })
    ]
