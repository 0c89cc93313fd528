-- What a handle owns.
use Rattle.std.specs.Prelude.{◌≡◌}
use base.Fml.{Fml, ftrue, fsep, fex}
use denote.RattleType.{RattleType}
use denote.RawPtr.{Ptr, block_ptr, null_ptr}
use Rattle.std.specs.declared.option.Option.{Option}
use Rattle.std.specs.declared.option.Option.TheVariants.{None, Some}
use Rattle.std.specs.declared.alloc.Global.{Global}
use Rattle.std.specs.contracts.impls.GlobalAllocator.TheImpl.{ghosts}
use Rattle.std_alloc.specs.Box.Ownership.{box_owns}

-- the value x in the box at p, and the right to free it
abbrev pub boxed : (R : RattleType) → Global → Ptr → R.Denot → Fml
boxed R heap = box_owns (ghosts.dealloc_token heap) R

-- At null there is no value, and nothing is owned. Elsewhere there is one, and its box is owned.
abbrev pub owned : (R : RattleType) → Global → Ptr → Option R.Denot → Fml
owned R heap null_ptr value = fex (value ≡ None) (λ _. ftrue)
owned R heap (block_ptr b o) value = fex R.Denot (λ x. fsep (fex (value ≡ Some x) (λ _. ftrue)) (boxed R heap (block_ptr b o) x))
