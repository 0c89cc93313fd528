-- What every world that is reached keeps of a call with a floor.
use Rattle.uni_model.proofs.Vocabulary.{Anchor, Announce, HelpingInvariant, Name, Of, OfConsidered, Pending, Sequential, Some, WorldOf, ℕ, ◌%◌, ◌+◌, ◌<◌, ◌≡◌, ◌≢◌, ◌≤◌}

-- A process may link y after the cell with the number s: as long as x isn't linked, and where it is p's turn to be helped and
-- y is another cell than x, s isn't past the floor.
abbrev pub IsBelowFloor : (num : Name → ℕ) → (n p : ℕ) → (x : Name) → (floor s : ℕ) → (y : Name) → Type 0
IsBelowFloor num n p x floor s y = num x ≡ 0 → y ≢ x → s % n ≡ p → s ≤ floor

-- Of p's cell x: as long as it isn't linked, no number whose remainder is p, of a cell that another one is linked after or may
-- be, is past the floor.
pub record Waits {S I R : Type 0} (w : WorldOf S I R) (num : Name → ℕ) (last p : ℕ) (x : Name) (floor : ℕ) : Type 0 where
  pub anchor : num Anchor ≤ floor
  pub unlinked : num x ≡ 0 → (s : ℕ) → s % w.n ≡ p → num Anchor ≤ s → s < last → s ≤ floor
  pub fair : (o : ℕ) (d : Pending) → w.call o ≡ Some d → OfConsidered d.stage (IsBelowFloor num w.n p x floor)

-- the call of the cell Of p k was begun, and this is its floor
pub record HasFloor {S I R : Type 0} (w : WorldOf S I R) (num : Name → ℕ) (last p k floor : ℕ) : Type 0 where
  pub begun : k < w.begun p
  pub linked : num (Of p k) ≤ floor + w.n + 1
  pub waits : (c : Pending) → w.call p ≡ Some c → c.mine ≡ Of p k → Waits w num last p (Of p k) floor

-- while its call is pending, a cell has been announced
abbrev pub IsAnnounced : {S I R : Type 0} → WorldOf S I R → (p k : ℕ) → Type 0
IsAnnounced w p k = (c : Pending) → w.call p ≡ Some c → c.mine ≡ Of p k → c.stage ≢ Announce

-- the invariant, with the floor of a call
abbrev pub FloorInvariant : {S I R : Type 0} → Sequential S I R → WorldOf S I R → (p k floor : ℕ) → Type 0
FloorInvariant object w p k floor =
    (inv : HelpingInvariant object w) × HasFloor w inv.0 inv.1 p k floor × IsAnnounced w p k
