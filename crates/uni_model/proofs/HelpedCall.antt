-- A call that is begun is helped from its start on.
use Rattle.uni_model.proofs.Vocabulary.{Anchor, Announce, AtHead, DecideAfter, DecideNew, Finish, Has, Helps, IsCellOf, IsFair, IsFairToAll, IsHelped, IsSound, Name, None, Of, OfConsidered, Pending, ReadAnnounce, ReadHelpSeq, ScanHead, ScanSeq, Sequential, Some, SomeHead, Stage, Stands, Test, WorldOf, WriteBefore, WriteHead, WriteScan, WriteSeq, announce_of, ap, arith, head_of, head_seq, inl, inr, inv_of, refl, set_at, subst, sym, world_after_call, ℕ, ◌<◌, ◌∙◌, ◌≡◌, ◌≢◌, ◌≤◌, ◌⊎◌}
use Rattle.uni_model.proofs.Written.{number_cases}
use Rattle.uni_model.proofs.Begun.{fresh, not_linked, Grows-begun}
use Rattle.uni_model.proofs.Grows.{head_seq-at}
use Rattle.uni_model.proofs.Helped.{OfConsidered-map}
use Rattle.uni_model.proofs.Later.{heads_later, IsFair-later, Finds-waiting, IsHelped-waiting}

module _ {S I R : Type 0} (object : Sequential S I R) (w : WorldOf S I R) (num : Name → ℕ) (last : ℕ) (sound : IsSound object w num last) where
  -- x is there, and some process has a head with at least the number s
  abbrev pub IsThere : (s : ℕ) → (x : Name) → Type 0
  IsThere s x = SomeHead w.memory w.n 0 s × ((x ≡ Anchor) ⊎ Has (inv_of w.memory x))

  -- a process considers to link a cell that is there, after its head
  considered : (Holds : ℕ → Name → Type 0) (o : ℕ) (d : Pending) → w.call o ≡ Some d → OfConsidered d.stage Holds → OfConsidered d.stage (λ s x. Holds s x × IsThere s x)
  considered Holds o d pending held = at_stage d.stage (sound.stands o d pending) held where
    after_head : (c : Name) (s : ℕ) → AtHead w.memory o c s → SomeHead w.memory w.n 0 s
    after_head c s h = let number : head_seq w.memory o ≡ s = head_seq-at w.memory o c s h in (o, omega arith, sound.calls.process o d pending, omega arith)

    there : (q : ℕ) (x : Name) → IsCellOf w.memory q x → Has (inv_of w.memory x)
    there q x cell = subst (λ y. Has (inv_of w.memory y)) (sym cell.1) cell.2

    own : Has (inv_of w.memory d.mine)
    own = let its = sound.calls.mine o d pending in subst (λ y. Has (inv_of w.memory y)) (sym its.1) its.3

    at_stage : (stage : Stage) → Stands w.memory num w.n o d.mine stage → OfConsidered stage Holds → OfConsidered stage (λ s x. Holds s x × IsThere s x)
    at_stage Announce h was = tt
    at_stage (ScanHead q best s) h was = tt
    at_stage (ScanSeq q best s x) h was = tt
    at_stage (WriteScan best s) h was = tt
    at_stage (Test c s) h was = tt
    at_stage (ReadAnnounce c s) h was = tt
    at_stage (ReadHelpSeq c s help) h was = (was, (after_head c s h.0, elim h.2 [ inl anchor ↦ inl anchor | inr cell ↦ inr (there _ help cell) ]))
    at_stage (DecideAfter c s prefer) h was = (was, (after_head c s h.0, elim h.2 [ inl mine ↦ inr (subst (λ y. Has (inv_of w.memory y)) (sym mine) own) | inr cell ↦ inr (there _ prefer cell) ]))
    at_stage (DecideNew c s d) h was = tt
    at_stage (WriteBefore c s d) h was = tt
    at_stage (WriteSeq c s d) h was = tt
    at_stage (WriteHead c s d) h was = tt
    at_stage (Finish s k) h was = tt

  module _ (helps : Helps w num last) (p : ℕ) (i : I) (inside : p < w.n) (idle : w.call p ≡ None) where
    -- the new cell isn't one that was there
    apart : (x : Name) → (x ≡ Anchor) ⊎ Has (inv_of w.memory x) → x ≢ Of p (w.begun p)
    apart x known same = elim known [
      | inl anchor ↦ (let e : Anchor ≡ Of p (w.begun p) = sym anchor ∙ same in cc)
      | inr made ↦
          let none : inv_of w.memory x ≡ None = ap (inv_of w.memory) same ∙ fresh object w num last sound p i inside idle in
          let some = made.1 in cc
    ]

    first_head : SomeHead w.memory w.n 0 (num Anchor)
    first_head =
        let threaded : 1 ≤ head_seq w.memory p = sound.calls.head p inside in
        let number : head_seq w.memory p ≡ num (head_of w.memory p) = sound.numbered.seq (head_of w.memory p) threaded in
        let least : num Anchor ≤ num (head_of w.memory p) = sound.numbered.least (head_of w.memory p) (omega arith) in
        (p, omega arith, inside, omega arith)

    own : IsHelped (world_after_call w p i).memory num last w.n p (Of p (w.begun p)) Announce 0
    own = record {
      announced = λ same. elim (sound.calls.announced p inside) [
        | inl anchor ↦ apart (announce_of w.memory p) (inl anchor) same
        | inr cell ↦ apart (announce_of w.memory p) (inr (subst (λ y. Has (inv_of w.memory y)) (sym cell.1) cell.2)) same
      ];
      own_head = tt;
      ahead = tt;
      anchor = first_head;
      unlinked = λ none s its_turn from below. helps.heads s from below;
      linked = (num Anchor, first_head, (let none : num (Of p (w.begun p)) ≡ 0 = not_linked object w num last sound p i inside idle in omega arith));
    }

    own_fair : (s : ℕ) (x : Name) → IsThere s x → IsFair (world_after_call w p i).memory num w.n p (Of p (w.begun p)) Announce 0 s x
    own_fair s x known = record { unknown = λ first. apart x known.1; help = λ none other its_turn. known.0 }

    rise : (r : ℕ) → r < w.n → head_seq w.memory r ≤ head_seq (world_after_call w p i).memory r
    rise r below = omega arith

    waiting : (q : ℕ) (c : Pending) → w.call q ≡ Some c → IsHelped (world_after_call w p i).memory num last w.n q c.mine c.stage (w.turns q)
    waiting q c was = IsHelped-waiting object w num last sound helps (world_after_call w p i).memory num last (inl (refl, refl)) (Grows-begun object w num last sound p i inside idle)
        rise (λ x. inl refl) q c was refl refl

    each_later : (q : ℕ) (c : Pending) → set_at w.call p (Some (record { mine = Of p (w.begun p); stage = Announce })) q ≡ Some c
        → IsHelped (world_after_call w p i).memory num last w.n q c.mine c.stage (set_at w.turns p 0 q)
    each_later q c e = elim (number_cases q p) [
      | inl here ↦
          let same : record { mine = Of p (w.begun p); stage = Announce } ≡ c = (let f = rw here.1 at e in cc) in
          rw here.1 (subst (λ r. IsHelped (world_after_call w p i).memory num last w.n r c.mine c.stage 0) (sym here.0)
          (subst (λ (x : Pending). IsHelped (world_after_call w p i).memory num last w.n p x.mine x.stage 0) same own))
      | inr other ↦ rw other.1 (waiting q c (rw other.1 at e))
    ]

    all_fair_later : (s : ℕ) (x : Name) → IsFairToAll w num s x × IsThere s x → IsFairToAll (world_after_call w p i) num s x
    all_fair_later s x fair q c e = elim (number_cases q p) [
      | inl here ↦
          let same : record { mine = Of p (w.begun p); stage = Announce } ≡ c = (let f = rw here.1 at e in cc) in
          rw here.1 (subst (λ r. IsFair (world_after_call w p i).memory num w.n r c.mine c.stage 0 s x) (sym here.0)
          (subst (λ (y : Pending). IsFair (world_after_call w p i).memory num w.n p y.mine y.stage 0 s x) same (own_fair s x fair.1)))
      | inr other ↦ rw other.1 (
          let was : w.call q ≡ Some c = rw other.1 at e in
          IsFair-later object w num last sound helps (world_after_call w p i).memory num last (inl (refl, refl)) q c was c.stage (w.turns q)
          (Finds-waiting object w num last sound helps (world_after_call w p i).memory num last (inl (refl, refl)) (Grows-begun object w num last sound p i inside idle) rise (λ y. inl refl) q c was)
          (λ first. first) s x (fair.0 q c was))
    ]

    fair_later : (o : ℕ) (c : Pending) → set_at w.call p (Some (record { mine = Of p (w.begun p); stage = Announce })) o ≡ Some c
        → OfConsidered c.stage (λ s x. IsFairToAll (world_after_call w p i) num s x)
    fair_later o c e = elim (number_cases o p) [
      | inl here ↦
          let same : record { mine = Of p (w.begun p); stage = Announce } ≡ c = (let f = rw here.1 at e in cc) in
          subst (λ (y : Pending). OfConsidered y.stage (λ s x. IsFairToAll (world_after_call w p i) num s x)) same tt
      | inr other ↦
          let was : w.call o ≡ Some c = rw other.1 at e in
          OfConsidered-map c.stage (λ s x. IsFairToAll w num s x × IsThere s x) _ all_fair_later (considered (λ s x. IsFairToAll w num s x) o c was (helps.fair o c was))
    ]

    pub Helps-begun : Helps (world_after_call w p i) num last
    Helps-begun = record {
      each = each_later;
      fair = fair_later;
      heads = heads_later object w num last sound helps (world_after_call w p i).memory num last (inl (refl, refl)) rise;
      returned = λ q e. elim (number_cases q p) [
        | inl here ↦ rw here.1 (omega arith)
        | inr other ↦ rw other.1 (helps.returned q (rw other.1 at e))
      ];
    }
