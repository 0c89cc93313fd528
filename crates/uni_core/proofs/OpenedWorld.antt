-- The world that is shown when no process has called yet.
use Rattle.uni_core.proofs.Vocabulary.{Anchor, CountsNone, CountsSteps, CountsSteps-opened_world, HelpingInvariant, HelpingInvariant-opened_world, IsWorld, List, Local, Memory, None, Option, Sequential, SharedEntries, Some, WorldParts, WorldOf, anchor_memory, ap, arith, call_at, first_of, length, length-replicate, made_of, memory_of, name_from, new_local, opened_world, option_map_or, processes_of, refl, replicate, seq_of, slice_get, slice_index_or, subst, suc, sym, world_at, world_of, zero, ℕ, ◌*◌, ◌+◌, ◌<◌, ◌^◌, ◌∙◌, ◌≡◌, ◌≤◌}
use Rattle.uni_core.proofs.NoCalls.{CountsNone-opened_world}

-- a function of what a process keeps says of copies what it says where there is none, if it says so of what is copied
of_copies : {A B : Type 0} (f : Option A → B) (a : A) → f (Some a) ≡ f None → (n p : ℕ) → f (slice_get (replicate n a) p) ≡ f None
of_copies f a e zero p = refl
of_copies f a e (suc n) zero = e
of_copies f a e (suc n) (suc p) = of_copies f a e n p

pub world_at-copies : {S I R : Type 0} (n count : ℕ) (m : Memory S I R) (s : S) (number : ℕ) → m ≡ anchor_memory s number
    → world_at n (λ p. 0) m (replicate count new_local) ≡ opened_world n s number
world_at-copies n count m s number is i =
    record {
      n = n;
      memory = is i;
      call = λ p. of_copies (call_at (name_from n (λ p. 0))) new_local refl count p i;
      begun = λ p. of_copies (λ l. option_map_or (λ (x : Local). x.begun) l 0) new_local refl count p i;
      first = λ p. 0;
      among = λ p. of_copies (λ l. option_map_or (λ (x : Local). x.among) l 0) new_local refl count p i;
      steps = λ p. of_copies (λ l. option_map_or (λ (x : Local). x.steps) l 0) new_local refl count p i;
      turns = λ p. of_copies (λ l. option_map_or (λ (x : Local). x.turns) l 0) new_local refl count p i;
    }

module _ {O S I R : Type 0} (sequential : Sequential S I R) (object : O) (a : SharedEntries S I R) (n k : ℕ) (s : S) (number : ℕ) (locals : List Local)
    (copied : locals ≡ replicate n new_local) (memory : memory_of a ≡ anchor_memory s number)
    (shape : (processes_of a.cells ≡ n) × (a.cells.row ≡ k)) (firsts : a.first ≡ replicate n 0) where
  abbrev pub first : WorldParts O S I R
  first = record { object = object; row = k; shared = a; locals = locals }

  none_first : (p : ℕ) → first_of a p ≡ 0
  none_first p = ap (λ fs. slice_index_or fs p 0) firsts ∙ none_in n p where
    none_in : (m q : ℕ) → ◌≡◌ {A = ℕ} (slice_index_or (replicate m 0) q 0) 0
    none_in zero q = refl
    none_in (suc m) zero = refl
    none_in (suc m) (suc q) = none_in m q

  pub world_of-first : world_of first ≡ opened_world n s number
  world_of-first = ap (world_at (processes_of a.cells) (first_of a) (memory_of a)) copied
      ∙ (λ i. world_at (processes_of a.cells) (λ p. none_first p i) (memory_of a) (replicate n new_local))
      ∙ world_at-copies (processes_of a.cells) n (memory_of a) s number memory
      ∙ ap (λ j. opened_world j s number) shape.0

  pub IsWorld-first : n ≤ 64 → ((p : ℕ) → made_of a.cells p ≡ 0) → 1 ≤ number → number + n * k < 2 ^ 48 → IsWorld sequential first
  IsWorld-first few made positive fits =
      record {
        locals = let same : length locals ≡ n = ap length copied ∙ length-replicate n new_local in let count = shape.0 in omega arith;
        firsts = ap length firsts ∙ length-replicate n 0 ∙ sym (ap length copied ∙ length-replicate n new_local);
        few = subst (λ j. j ≤ 64) (sym shape.0) few;
        row = sym shape.1;
        made = λ p. let since = none_first p in let none : (world_of first).begun p ≡ 0 = ap (λ (w : WorldOf S I R). w.begun p) world_of-first in let empty = made p in omega arith;
        room = λ p. let none : (world_of first).begun p ≡ 0 = ap (λ (w : WorldOf S I R). w.begun p) world_of-first in omega arith;
        early = λ p. let since = none_first p in omega arith;
        numbers = subst (λ (m : Memory S I R). seq_of m Anchor + processes_of a.cells * k < 2 ^ 48) (sym memory) (subst (λ j. number + j * k < 2 ^ 48) (sym shape.0) fits);
        sound = subst (λ w. HelpingInvariant sequential w) (sym world_of-first) (HelpingInvariant-opened_world sequential n s number positive);
        counts = subst CountsSteps (sym world_of-first) (CountsSteps-opened_world sequential n s number);
        none = subst CountsNone (sym world_of-first) (CountsNone-opened_world I R n s number);
      }
