use Rattle.std.proofs.Common.{take, ◌/◌}
use Rattle.std.proofs.lemmas.List.{take_all}
use Rattle.lin_check.proofs.Vocabulary.{IsLinearizableHistory, [], acts_of, arith, at_start, length, refl, subst, sym, ◌+◌, ◌-◌, ◌≢◌, ◌≡◌, ◌≤◌}
use Rattle.lin_check.proofs.prefixes.good_prefix.Goals as goal
use Rattle.lin_check.proofs.prefixes.good_prefix.Goals.{in-Linearizable, in-NotLinearizable}

pub loop-good-init : goal.loop-good-init
loop-good-init g c = record {
  order = omega arith;
  within = omega arith;
  good_is = ([], ([], at_start (g.O.SeqObject.sequential c.args.object.now).initial, refl, refl, refl));
  bad_is = subst (λ xs. ¬ (IsLinearizableHistory (g.O.SeqObject.sequential c.args.object.now) (g.O.SeqObject.sequential c.args.object.now).initial (acts_of xs)))
      (sym (take_all (length c.args.history.now) c.args.history.now (omega arith))) c.requires;
}

pub loop-good-preserved : goal.loop-good-preserved
loop-good-preserved g c = elim c.match-branch-2.branch [
  | in-Linearizable w ↦
      let told = rw w.in-Linearizable.is at c.in_ok-check.ensures in
      let a : c.match-branch-2.good ≡ c.loop-good.good + (c.loop-good.bad - c.loop-good.good) / 2 = w.good-is in
      let b : c.match-branch-2.bad ≡ c.loop-good.bad = w.bad-is in
      let o : c.loop-good.good ≤ c.loop-good.bad = c.loop-good.invariant.order in
      let i : c.loop-good.bad ≤ length c.args.history.now = c.loop-good.invariant.within in
      record {
        order = omega arith;
        within = omega arith;
        good_is = subst (λ k. IsLinearizableHistory (g.O.SeqObject.sequential c.args.object.now) (g.O.SeqObject.sequential c.args.object.now).initial (acts_of (take k c.args.history.now))) (sym w.good-is) (told.0, told.1);
        bad_is = subst (λ k. ¬ (IsLinearizableHistory (g.O.SeqObject.sequential c.args.object.now) (g.O.SeqObject.sequential c.args.object.now).initial (acts_of (take k c.args.history.now)))) (sym w.bad-is) c.loop-good.invariant.bad_is;
      }
  | in-NotLinearizable w ↦
      let told = rw w.in-NotLinearizable.is at c.in_ok-check.ensures in
      let a : c.match-branch-2.good ≡ c.loop-good.good = w.good-is in
      let b : c.match-branch-2.bad ≡ c.loop-good.good + (c.loop-good.bad - c.loop-good.good) / 2 = w.bad-is in
      let o : c.loop-good.good ≤ c.loop-good.bad = c.loop-good.invariant.order in
      let i : c.loop-good.bad ≤ length c.args.history.now = c.loop-good.invariant.within in
      record {
        order = omega arith;
        within = omega arith;
        good_is = subst (λ k. IsLinearizableHistory (g.O.SeqObject.sequential c.args.object.now) (g.O.SeqObject.sequential c.args.object.now).initial (acts_of (take k c.args.history.now))) (sym w.good-is) c.loop-good.invariant.good_is;
        bad_is = subst (λ k. ¬ (IsLinearizableHistory (g.O.SeqObject.sequential c.args.object.now) (g.O.SeqObject.sequential c.args.object.now).initial (acts_of (take k c.args.history.now)))) (sym w.bad-is) told;
      }
]

pub loop-good-preserved-after-branch-2 : goal.loop-good-preserved-after-branch-2
loop-good-preserved-after-branch-2 g c = elim c.match-branch-2.branch [
  | in-Linearizable w ↦
      let told = rw w.in-Linearizable.is at c.in_ok-check.ensures in
      let a : c.match-branch-2.good ≡ c.loop-good.good + (c.loop-good.bad - c.loop-good.good) / 2 = w.good-is in
      let b : c.match-branch-2.bad ≡ c.loop-good.bad = w.bad-is in
      let o : c.loop-good.good ≤ c.loop-good.bad = c.loop-good.invariant.order in
      let i : c.loop-good.bad ≤ length c.args.history.now = c.loop-good.invariant.within in
      record {
        order = omega arith;
        within = omega arith;
        good_is = subst (λ k. IsLinearizableHistory (g.O.SeqObject.sequential c.args.object.now) (g.O.SeqObject.sequential c.args.object.now).initial (acts_of (take k c.args.history.now))) (sym w.good-is) (told.0, told.1);
        bad_is = subst (λ k. ¬ (IsLinearizableHistory (g.O.SeqObject.sequential c.args.object.now) (g.O.SeqObject.sequential c.args.object.now).initial (acts_of (take k c.args.history.now)))) (sym w.bad-is) c.loop-good.invariant.bad_is;
      }
  | in-NotLinearizable w ↦
      let told = rw w.in-NotLinearizable.is at c.in_ok-check.ensures in
      let a : c.match-branch-2.good ≡ c.loop-good.good = w.good-is in
      let b : c.match-branch-2.bad ≡ c.loop-good.good + (c.loop-good.bad - c.loop-good.good) / 2 = w.bad-is in
      let o : c.loop-good.good ≤ c.loop-good.bad = c.loop-good.invariant.order in
      let i : c.loop-good.bad ≤ length c.args.history.now = c.loop-good.invariant.within in
      record {
        order = omega arith;
        within = omega arith;
        good_is = subst (λ k. IsLinearizableHistory (g.O.SeqObject.sequential c.args.object.now) (g.O.SeqObject.sequential c.args.object.now).initial (acts_of (take k c.args.history.now))) (sym w.good-is) c.loop-good.invariant.good_is;
        bad_is = subst (λ k. ¬ (IsLinearizableHistory (g.O.SeqObject.sequential c.args.object.now) (g.O.SeqObject.sequential c.args.object.now).initial (acts_of (take k c.args.history.now)))) (sym w.bad-is) told;
      }
]

pub returns-clause-within : goal.returns-clause-within
returns-clause-within g c =
    let apart : c.loop-good.good ≢ c.loop-good.bad = λ e. c.loop-good.invariant.bad_is (subst (λ k. IsLinearizableHistory (g.O.SeqObject.sequential c.args.object.now) (g.O.SeqObject.sequential c.args.object.now).initial (acts_of (take k c.args.history.now))) e c.loop-good.invariant.good_is) in
    let o : c.loop-good.good ≤ c.loop-good.bad = c.loop-good.invariant.order in
    let i : c.loop-good.bad ≤ length c.args.history.now = c.loop-good.invariant.within in
    omega arith

pub returns-clause-bad : goal.returns-clause-bad
returns-clause-bad g c =
    let apart : c.loop-good.good ≢ c.loop-good.bad = λ e. c.loop-good.invariant.bad_is (subst (λ k. IsLinearizableHistory (g.O.SeqObject.sequential c.args.object.now) (g.O.SeqObject.sequential c.args.object.now).initial (acts_of (take k c.args.history.now))) e c.loop-good.invariant.good_is) in
    let o : c.loop-good.good ≤ c.loop-good.bad = c.loop-good.invariant.order in
    let i : c.loop-good.bad ≤ length c.args.history.now = c.loop-good.invariant.within in
    let t : c.loop-good.bad ≤ c.loop-good.good + 1 = c.loop-good-test.false in
    let next : c.loop-good.bad ≡ c.loop-good.good + 1 = omega arith in
    subst (λ k. ¬ (IsLinearizableHistory (g.O.SeqObject.sequential c.args.object.now) (g.O.SeqObject.sequential c.args.object.now).initial (acts_of (take k c.args.history.now)))) next c.loop-good.invariant.bad_is
