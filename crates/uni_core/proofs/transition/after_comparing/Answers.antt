use Rattle.uni_core.proofs.Vocabulary.{le-ltb, lt-ltb, refl}
use Rattle.uni_core.proofs.transition.after_comparing.Goals as goal
use Rattle.uni_core.proofs.transition.after_comparing.Goals.{then-best-head, else-best-head}

pub returns-then-q-n : goal.returns-then-q-n
returns-then-q-n c name =
    elim c.if-best-head.branch [
      | then-best-head w ↦ rw (w.best-is, lt-ltb _ _ c.if-q-n.true, lt-ltb _ _ w.if-best-head.true) refl
      | else-best-head w ↦ rw (w.best-is, lt-ltb _ _ c.if-q-n.true, le-ltb _ _ w.if-best-head.false) refl
    ]

pub returns-else-q-n : goal.returns-else-q-n
returns-else-q-n c name =
    elim c.if-best-head.branch [
      | then-best-head w ↦ rw (w.best-is, le-ltb _ _ c.if-q-n.false, lt-ltb _ _ w.if-best-head.true) refl
      | else-best-head w ↦ rw (w.best-is, le-ltb _ _ c.if-q-n.false, le-ltb _ _ w.if-best-head.false) refl
    ]
