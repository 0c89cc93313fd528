use Rattle.universal_c.proofs.small_left.universal_small_leave.Goals as goal

pub invariant_of-left : goal.invariant_of-left
invariant_of-left c = record { fits = c.leave-orphan.ensures.orphan c.in-Place.field-0.shared.value c.in-Place.field-0.fits }
