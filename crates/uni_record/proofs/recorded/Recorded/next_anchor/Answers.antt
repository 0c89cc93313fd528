use Rattle.uni_record.proofs.Vocabulary.{CanEnd, IsEndRefused, arith, false, last_number, refl, standing_of, subst, true, world_of, ◌≡◌}
use Rattle.uni_record.specs.declared.fault.RecordTrimFault.TheVariants.{SeqFull, HistoryFull}
use Rattle.uni_record.proofs.recorded.Recorded.next_anchor.Goals as goal

pub returns-in_default-next_number-clause-refused : goal.returns-in_default-next_number-clause-refused
returns-in_default-next_number-clause-refused g c = subst (λ r. IsEndRefused (standing_of r) c.args.m SeqFull) c.self.view_is
    (c.in_default.ensures.none.0 refl, λ fit. (let f : false ≡ true = c.in_default-next_number.ensures.fits.1 fit in cc))

pub returns-then-len-self-clause-refused : goal.returns-then-len-self-clause-refused
returns-then-len-self-clause-refused g c =
    let len = c.len.ensures in
    let past = c.if-len-self.true in
    subst (λ r. IsEndRefused (standing_of r) c.args.m HistoryFull) c.self.view_is
    (c.in_default.ensures.none.0 refl, c.in-Some-next_number.ensures.fits.0 refl, omega (arith, len, past))

pub returns-clause-allowed : goal.returns-clause-allowed
returns-clause-allowed g c =
    let len = c.len.ensures in
    let fits = c.if-len-self.false in
    subst (λ r. CanEnd (standing_of r) c.args.m) c.self.view_is (c.in_default.ensures.none.0 refl, c.in-Some-next_number.ensures.fits.0 refl, omega (arith, len, fits))

pub returns-clause-number : goal.returns-clause-number
returns-clause-number g c = subst (λ r. c.in-Some-next_number.number ≡ last_number (world_of r.world)) c.self.view_is c.in-Some-next_number.ensures.number
