-- What the readers of a world answer.
use Rattle.uni_core.proofs.Vocabulary.{Anchor, Has, IfSome, IsThere, IsWorld, Name, None, Of, Option, Sequential, Some, WorldParts, after_of, ap, arith, before_of, chain, first_of, head_of, index_of, inv_of, length, length-chain, memory_of, name_from-index_of, named, option_map, processes_of, seq_of, subst, sym, world_of, ℕ, ◌+◌, ◌-◌, ◌<◌, ◌^◌, ◌∙◌, ◌≡◌, ◌≤◌}
use Rattle.uni_core.proofs.Begin.{inside_view}
use Rattle.uni_core.proofs.Steppable.{last_small, there_seq, there_inv}

-- what every world keeps, of the world as a contract has it
module _ {O S I R : Type 0} (v now : WorldParts O S I R) (view : v ≡ now) (sequential : O → Sequential S I R) where
  pub IsWorld-now : IsWorld (sequential v.object) v → IsWorld (sequential now.object) now
  IsWorld-now is = subst (λ (x : WorldParts O S I R). IsWorld (sequential x.object) x) view is

-- cells that are there
module _ {O S I R : Type 0} (object : Sequential S I R) (v now : WorldParts O S I R) (view : v ≡ now) (is : IsWorld object v) where
  -- the one that a head entry names
  pub head_there : (p id : ℕ) → p < processes_of now.shared.cells → named v.shared id ≡ head_of (memory_of v.shared) p → IsThere v.shared id
  head_there p id below named =
      let inside = inside_view v now p view below in
      there_seq v.shared (omega (arith, inside)) id (subst (λ x. 1 ≤ seq_of (memory_of v.shared) x) (sym named) (is.sound.2.calls.head p inside))

  -- the one that is linked after a cell
  pub linked_there : 1 ≤ processes_of now.shared.cells → (x : Name) (o : Option ℕ) → option_map (named v.shared) o ≡ after_of (memory_of v.shared) x
      → IfSome o (λ id. IsThere now.shared id)
  linked_there positive x None link = tt
  linked_there positive x (Some id) link =
      let at_v = subst (λ (y : WorldParts O S I R). 1 ≤ processes_of y.shared.cells) (sym view) positive in
      let step = is.sound.2.numbered.link x (named v.shared id) (sym link) in
      let least : is.sound.0 Anchor ≤ is.sound.0 x = is.sound.2.numbered.least x step.0 in
      let number = step.1 in
      subst (λ (y : WorldParts O S I R). IsThere y.shared id) view (there_inv v.shared at_v id (has_inv (named v.shared id) (omega arith))) where
        has_inv : (y : Name) → is.sound.0 Anchor < is.sound.0 y → Has (inv_of (memory_of v.shared) y)
        has_inv Anchor past = absurd (omega arith)
        has_inv (Of p k) past = is.sound.2.calls.linked p k (omega arith)

-- the number of a process's first call of the era, by the process as it was read
pub first_now : {O S I R : Type 0} (v now : WorldParts O S I R) → v ≡ now → (p q b : ℕ) → b ≡ first_of v.shared q → q ≡ p → b ≡ first_of now.shared p
first_now {O} {S} {I} {R} v now view p q b b_is process = b_is ∙ ap (first_of v.shared) process ∙ ap (λ (x : WorldParts O S I R). first_of x.shared p) view

-- the name of a cell whose index was counted
pub named-counted : {O S I R : Type 0} (v now : WorldParts O S I R) → v ≡ now → (j p q k b id : ℕ) → b ≡ first_of v.shared q → b ≤ k → id ≡ index_of j q (k - b)
    → j ≡ processes_of now.shared.cells → q ≡ p → p < processes_of now.shared.cells → named now.shared id ≡ Of p k
named-counted {O} {S} {I} {R} v now view j p q k b id b_is since counted processes process below =
    let first = first_now v now view p q b b_is process in
    let nth : first_of now.shared p + (k - b) ≡ k = omega arith in
    ap (named now.shared) (counted ∙ ap (λ i. index_of i q (k - b)) processes ∙ ap (λ i. index_of (processes_of now.shared.cells) i (k - b)) process)
    ∙ name_from-index_of (processes_of now.shared.cells) (first_of now.shared) p (k - b) below ∙ ap (Of p) nth

-- the cells of a world have numbers that fit
pub numbers_fit : {O S I R : Type 0} (object : Sequential S I R) (v : WorldParts O S I R) → IsWorld object v → seq_of (memory_of v.shared) Anchor + length (chain (world_of v)) < 2 ^ 48
numbers_fit object v is =
    let end : is.sound.0 Anchor + length (chain (world_of v)) ≡ is.sound.1 = length-chain object (world_of v) is.sound.0 is.sound.1 is.sound.2 in
    let anchor : is.sound.0 Anchor ≡ seq_of (memory_of v.shared) Anchor = is.sound.2.numbered.anchor in
    let small = last_small object v is in
    omega arith

-- the cell before a cell is there
pub before_there : {O S I R : Type 0} (object : Sequential S I R) (v now : WorldParts O S I R) → v ≡ now → IsWorld object v → 1 ≤ processes_of now.shared.cells → (x : Name) (o : Option ℕ)
    → option_map (named v.shared) o ≡ before_of (memory_of v.shared) x → IfSome o (λ id. IsThere now.shared id)
before_there object v now view is positive x None read = tt
before_there {O} {S} {I} {R} object v now view is positive x (Some id) read =
    let at_v = subst (λ (y : WorldParts O S I R). 1 ≤ processes_of y.shared.cells) (sym view) positive in
    let y : Name = named v.shared id in
    let linked = is.sound.2.numbered.link y x (is.sound.2.back.link y x (sym read)) in
    let top : is.sound.0 x ≤ is.sound.1 = is.sound.2.numbered.greatest x in
    let n : is.sound.0 x ≡ is.sound.0 y + 1 = linked.1 in
    let number : seq_of (memory_of v.shared) y ≡ is.sound.0 y = is.sound.2.numbered.threaded y linked.0 (omega arith) in
    subst (λ (u : WorldParts O S I R). IsThere u.shared id) view (there_seq v.shared at_v id (let h = linked.0 in omega arith))
