use Rattle.uni_shared.proofs.Vocabulary.{All, SeatAgrees, arith, below_more, get_or, refl, subst, ◌<◌, ◌≡◌}
use Rattle.uni_shared.proofs.agreement.first_mismatch.Goals as goal

pub loop-p-preserved : goal.loop-p-preserved
loop-p-preserved g c = below_more (λ q. All (λ s. s.process ≡ q → SeatAgrees g.O.SeqObject.sequential c.args.recorded.now s) c.args.seats.now) c.loop-p.p c.loop-p.invariant (c.mismatch_of_process.ensures.none c.in_default.is)

pub returns-in-Some-clause-first : goal.returns-in-Some-clause-first
returns-in-Some-clause-first g c =
    let found = c.in-Some.ensures.first in
    record {
      seat = found.1.0;
      there = found.1.1;
      mismatch = found.1.2;
      before = λ k d there less. let process = (get_or c.args.seats.now k d).process in
          c.loop-p.invariant process (subst (λ q. process < q) found.0 less) k d there refl;
    }

pub returns-clause-none : goal.returns-clause-none
returns-clause-none g c = λ none q less. c.loop-p.invariant q (omega arith)
