-- Each event that ends no era does the same in a world and in one with its cells renamed.
use Rattle.uni_model.proofs.Vocabulary.{Announce, CountsSteps, Finds, HelpingInvariant, Memory, Name, None, Of, Option, Pending, Sequential, Some, SomeHead, Stage, WorldOf, ap, arith, call_after, cases_lt, effect_of, head_seq, inl, inr, option_map, place_of, refl, seq_of, set_at, subst, sym, turn_of, world_after_call, world_after_step, ℕ, ◌+◌, ◌<◌, ◌∙◌, ◌≡◌, ◌≤◌}
use Rattle.uni_model.proofs.Written.{set_at-cases, number_cases}
use Rattle.uni_model.proofs.Moves.{was_pending}
use Rattle.uni_model.proofs.Steps.{leads}
use Rattle.uni_model.proofs.Begun.{not_linked, Grows-begun}
use Rattle.uni_model.proofs.Counted.{IsCounted-pending}
use Rattle.uni_model.proofs.Helped.{SomeHead-grows, Finds-grows}
use Rattle.uni_model.proofs.Advanced.{AdvancesTo, advances, head_rises}
use Rattle.uni_model.proofs.HelpedStep.{rise}
use Rattle.uni_model.proofs.Reached.{ReachesOwn, ReachesOwn-moved, finished}
use Rattle.uni_model.proofs.Renamed.{stage_renamed, pending_renamed, IsNew, IsRenamed, IsRenamed-inv}
use Rattle.uni_model.proofs.RenamedStep.{StepsAlike, steps_alike}

-- the world u with its cells renamed, over this memory; its era has begun with these calls
abbrev pub world_renamed : {S I R : Type 0} → WorldOf S I R → Memory S I R → (first : ℕ → ℕ) → (Name → Name) → (base : ℕ) → WorldOf S I R
world_renamed u m first rename base = record u { memory = m; first = first; call = λ p. option_map (pending_renamed rename base) (u.call p) }

-- What a world keeps whose cells are renamed: some head has come to the end of the ended eras, each pending call's cell is new,
-- and its scan finds that number.
pub record KeepsNames {S I R : Type 0} (u : WorldOf S I R) (m : Memory S I R) (rename : Name → Name) (base : ℕ) : Type 0 where
  pub memory : IsRenamed m u.memory u.n rename base
  pub heads : (p : ℕ) → p < u.n → SomeHead u.memory u.n 0 base
  pub mine : (p : ℕ) (c : Pending) → u.call p ≡ Some c → IsNew u.memory base c.mine
  pub finds : (p : ℕ) (c : Pending) → u.call p ≡ Some c → Finds u.memory u.n c.stage (u.turns p) base

call_after-renamed : (rename : Name → Name) (base : ℕ) (mine : Name) (o : Option Stage)
    → call_after mine (option_map (stage_renamed rename base) o) ≡ option_map (pending_renamed rename base) (call_after mine o)
call_after-renamed rename base mine None = refl
call_after-renamed rename base mine (Some k) = refl

set_at-map : {A B : Type 0} (f : A → B) (g : ℕ → A) (p : ℕ) (v : A) (q : ℕ) → set_at (λ r. f (g r)) p (f v) q ≡ f (set_at g p v q)
set_at-map f g p v q = elim (number_cases q p) [ inl here ↦ rw here.1 refl | inr other ↦ rw other.1 refl ]

module _ {S I R : Type 0} (object : Sequential S I R) (u : WorldOf S I R) (inv : HelpingInvariant object u) (m : Memory S I R) (first : ℕ → ℕ) (rename : Name → Name) (base : ℕ)
    (keeps : KeepsNames u m rename base) where
  module _ (counts : CountsSteps u) (p : ℕ) (c : Pending) (is : u.call p ≡ Some c) where
    abbrev later : WorldOf S I R
    later = world_after_step object u p (Some c)

    abbrev pub later_renamed : WorldOf S I R
    later_renamed = world_after_step object (world_renamed u m first rename base) p (Some (pending_renamed rename base c))

    pub alike : StepsAlike object m u.memory u.n rename base keeps.memory p c.mine c.stage
    alike = steps_alike object m u.memory u.n rename base keeps.memory p c.mine inv.0 inv.1 inv.2.numbered (inv.2.calls.process p c is) (keeps.mine p c is) (u.turns p)
        c.stage (inv.2.stands p c is) (keeps.finds p c is) (IsCounted-pending u counts p c is).1

    -- the step leaves the later world with its cells renamed
    pub step_renamed : later_renamed ≡ world_renamed later later_renamed.memory first rename base
    step_renamed =
        let calls : later_renamed.call ≡ (λ q. option_map (pending_renamed rename base) (later.call q))
        = (λ i q. (ap (λ o. set_at (λ r. option_map (pending_renamed rename base) (u.call r)) p (call_after c.mine o) q) alike.stage_same
        ∙ ap (λ v. set_at (λ r. option_map (pending_renamed rename base) (u.call r)) p v q) (call_after-renamed rename base c.mine _)
        ∙ set_at-map (option_map (pending_renamed rename base)) u.call p _ q) i) in
        let turns : later_renamed.turns ≡ later.turns = ap (λ t. set_at u.turns p (u.turns p + t)) alike.turn in
        ap (λ f. let x : WorldOf S I R = record later_renamed { call = f } in x) calls
        ∙ ap (λ f. let x : WorldOf S I R = record later_renamed { call = λ q. option_map (pending_renamed rename base) (later.call q); turns = f } in x) turns

    rises : (r : ℕ) → r < u.n → head_seq u.memory r ≤ head_seq later.memory r
    rises =
        let moved = leads object u inv.0 inv.1 inv.2 p c.mine c.stage is c.stage (inv.2.stands p c is) in
        let own = IsCounted-pending u counts p c is in
        let place = place_of u.n p c.mine c.stage in
        let e = effect_of object u.n c.mine c.stage (u.memory place) u.memory in
        let inside = inv.2.calls.process p c is in
        let threaded = inv.2.calls.head p inside in
        let helped = inv.3.each p c is in
        rise object u inv.0 inv.1 inv.2 inv.3 p c.mine c.stage is later.memory moved.0 moved.1 e.stage moved.3 moved.2
        (head_rises object u inv.0 inv.1 inv.2 inv.3 p c.mine threaded c.stage (inv.2.stands p c is) helped.own_head moved.3.grows)
        (u.turns p + turn_of c.stage (u.memory place))
        (advances object u inv.0 inv.1 inv.2 inv.3 p c.mine inside threaded moved.0 moved.3.numbers c.stage is (inv.2.stands p c is) helped own.1)

    own_finds : (o : Option Stage) (t : ℕ) (num' : Name → ℕ) → AdvancesTo u inv.0 p c.mine c.stage later.memory num' o t
        → (d : Pending) → call_after c.mine o ≡ Some d → Finds later.memory u.n d.stage t base
    own_finds None t num' on d e = cc
    own_finds (Some k) t num' on d e =
        let same : record { mine = c.mine; stage = k } ≡ d = cc in
        subst (λ (x : Pending). Finds later.memory u.n x.stage t base) same (on.finds base (keeps.finds p c is))

    pub KeepsNames-step : KeepsNames later later_renamed.memory rename base
    KeepsNames-step =
        let moved = leads object u inv.0 inv.1 inv.2 p c.mine c.stage is c.stage (inv.2.stands p c is) in
        let own = IsCounted-pending u counts p c is in
        let place = place_of u.n p c.mine c.stage in
        let e = effect_of object u.n c.mine c.stage (u.memory place) u.memory in
        let inside = inv.2.calls.process p c is in
        let on = advances object u inv.0 inv.1 inv.2 inv.3 p c.mine inside (inv.2.calls.head p inside) moved.0 moved.3.numbers c.stage is (inv.2.stands p c is) (inv.3.each p c is) own.1 in
        record {
          memory = alike.memory;
          heads = λ q below. SomeHead-grows u.memory later.memory u.n rises 0 base (keeps.heads q below);
          mine = λ q d pending.
              let was = was_pending object u inv.0 inv.1 inv.2 p c.mine c.stage is later.memory moved.0 moved.1 e.stage moved.3 q d pending in
              subst (λ x. IsNew later.memory base x) (sym was.2) (alike.still_new was.0.mine (keeps.mine q was.0 was.1));
          finds = λ q d pending. elim (number_cases q p) [
            | inl here ↦ rw here.1 (own_finds e.stage _ moved.0 on d (rw here.1 at pending))
            | inr other ↦ rw other.1 (
                let was : u.call q ≡ Some d = rw other.1 at pending in
                Finds-grows u.memory later.memory u.n rises moved.3.grows inv.0 q d.mine d.stage (u.turns q) base (inv.2.stands q d was) (keeps.finds q d was))
          ];
        }

    pub ReachesOwn-step : ReachesOwn u → ReachesOwn later
    ReachesOwn-step reaches =
        let moved = leads object u inv.0 inv.1 inv.2 p c.mine c.stage is c.stage (inv.2.stands p c is) in
        let place = place_of u.n p c.mine c.stage in
        let e = effect_of object u.n c.mine c.stage (u.memory place) u.memory in
        ReachesOwn-moved object u inv.0 inv.1 inv.2 reaches p c.mine c.stage is later.memory moved.0 moved.1 e.stage moved.3 rises
        (finished object u.memory inv.0 u.n p c.mine c.stage (inv.2.stands p c is))

  module _ (p : ℕ) (i : I) (inside : p < u.n) (idle : u.call p ≡ None) where
    abbrev begun_world : WorldOf S I R
    begun_world = world_after_call u p i

    abbrev pub begun_renamed : WorldOf S I R
    begun_renamed = world_after_call (world_renamed u m first rename base) p i

    pub call_renamed : begun_renamed ≡ world_renamed begun_world begun_renamed.memory first rename base
    call_renamed =
        let calls : begun_renamed.call ≡ (λ q. option_map (pending_renamed rename base) (begun_world.call q))
        = (λ j q. set_at-map (option_map (pending_renamed rename base)) u.call p (Some (record { mine = Of p (u.begun p); stage = Announce })) q j) in
        ap (λ f. let x : WorldOf S I R = record begun_renamed { call = f } in x) calls

    new_cell : seq_of u.memory (Of p (u.begun p)) ≡ 0
    new_cell = elim (cases_lt 0 (seq_of u.memory (Of p (u.begun p)))) [
      | inl some ↦ absurd (let number = inv.2.numbered.seq (Of p (u.begun p)) some in let none = not_linked object u inv.0 inv.1 inv.2 p i inside idle in omega arith)
      | inr none ↦ omega arith
    ]

    pub KeepsNames-call : KeepsNames begun_world begun_renamed.memory rename base
    KeepsNames-call = record {
      memory = IsRenamed-inv m u.memory u.n rename base keeps.memory (Of p (u.begun p)) (Some i);
      heads = keeps.heads;
      mine = λ q d pending. elim (set_at-cases u.call p (Some (record { mine = Of p (u.begun p); stage = Announce })) q) [
        | inl here ↦
            let same : record { mine = Of p (u.begun p); stage = Announce } ≡ d = (let e = sym here.1 ∙ pending in cc) in
            subst (λ (x : Pending). IsNew u.memory base x.mine) same (inl new_cell)
        | inr other ↦ keeps.mine q d (sym other.1 ∙ pending)
      ];
      finds = λ q d pending. elim (number_cases q p) [
        | inl here ↦ rw here.1 (
            let same : record { mine = Of p (u.begun p); stage = Announce } ≡ d = (let e : Some (record { mine = Of p (u.begun p); stage = Announce }) ≡ Some d = (rw here.1 at pending) in cc) in
            subst (λ (x : Pending). Finds begun_world.memory u.n x.stage 0 base) same (keeps.heads p inside))
        | inr other ↦ rw other.1 (
            let was : u.call q ≡ Some d = rw other.1 at pending in
            Finds-grows u.memory begun_world.memory u.n (λ r below. omega arith) (Grows-begun object u inv.0 inv.1 inv.2 p i inside idle) inv.0 q d.mine d.stage (u.turns q) base
            (inv.2.stands q d was) (keeps.finds q d was))
      ];
    }
