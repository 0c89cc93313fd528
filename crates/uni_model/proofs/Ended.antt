-- What the end of an era leaves: the state after its calls, and the last number.
use Rattle.uni_model.proofs.Vocabulary.{AllByRecursion, Anchor, Has, Invoked, IsQuiescent, IsSound, List, Memory, Name, None, Option, Sequential, Some, WorldOf, [], anchor_memory, ap, arith, chain, entries_from, era_calls, invocations_of, invoked_at, last_cell, last_of, length, length-map, log, map, new_of, option_map_or, refl, seq_of, slice_get, state_after, sym, take, take_all, world_after_era, ℕ, ◌+◌, ◌∙◌, ◌∷◌, ◌≡◌, ◌≤◌}
use Rattle.uni_model.proofs.Chains.{calls_at}
use Rattle.uni_model.proofs.Simulation.{enough, calls_of-calls_at}
use Rattle.uni_model.proofs.Logged.{state_after-from}
use Rattle.uni_model.proofs.OneLists.{length-chain, number-last_of}
use Rattle.uni_model.proofs.Growing.{all_invoked}
use Rattle.uni_model.proofs.Kept.{last_cell_threaded}

slice_get-last_of : {A : Type 0} (x : A) (xs : List A) → slice_get (x ∷ xs) (length xs) ≡ Some (last_of x xs)
slice_get-last_of x [] = refl
slice_get-last_of x (y ∷ ys) = slice_get-last_of y ys

module _ {S I R : Type 0} (m : Memory S I R) where
  length-calls_at-le : (xs : List Name) → length (calls_at m xs) ≤ length xs
  length-calls_at-le [] = omega arith
  length-calls_at-le (x ∷ xs) = by_call (length-calls_at-le xs) (invoked_at m x) where
    by_call : length (calls_at m xs) ≤ length xs → (o : Option (Invoked I)) → length (option_map_or (λ call. call ∷ calls_at m xs) o []) ≤ length (x ∷ xs)
    by_call rest None = omega arith
    by_call rest (Some call) = omega arith

  length-entries_from : (k : ℕ) (xs : List Name) → AllByRecursion (λ x. Has (invoked_at m x)) xs → length (entries_from m k xs) ≡ length xs
  length-entries_from k [] all = refl
  length-entries_from k (x ∷ xs) all = rw all.0.1 (let rest = length-entries_from (k + 1) xs all.1 in omega arith)

module _ {S I R : Type 0} (object : Sequential S I R) (w : WorldOf S I R) (num : Name → ℕ) (last : ℕ) (sound : IsSound object w num last) where
  pub length-log : length (log w) ≡ length (chain w)
  length-log = length-entries_from w.memory (seq_of w.memory Anchor + 1) (chain w) (all_invoked object w num last sound (era_calls w) Anchor sound.numbered.first)

  module _ (quiet : IsQuiescent w) where
    seq_of-last_cell : seq_of w.memory (last_cell w) ≡ seq_of w.memory Anchor + length (log w)
    seq_of-last_cell =
        let own : seq_of w.memory (last_cell w) ≡ num (last_cell w) = sound.numbered.seq (last_cell w) (last_cell_threaded object w num last sound quiet) in
        let top : num (last_cell w) ≡ last = number-last_of object w num last sound (era_calls w) Anchor sound.numbered.first (enough object w num last sound) in
        let all : num Anchor + length (chain w) ≡ last = length-chain object w num last sound in
        let first : num Anchor ≡ seq_of w.memory Anchor = sound.numbered.anchor in
        let long : length (log w) ≡ length (chain w) = length-log in
        omega arith

    module _ (start : S) (anchor : new_of w.memory Anchor ≡ Some (start, None)) where
      new_of-last_cell : (v : S × Option R) × (new_of w.memory (last_cell w) ≡ Some v) × (v.0 ≡ state_after object start (invocations_of w))
      new_of-last_cell =
          let settled = sound.values.threaded (last_cell w) (last_cell_threaded object w num last sound quiet) in
          let invs : List I = map (λ (c : Invoked I). c.inv) (calls_at w.memory (chain w)) in
          let short : length (calls_at w.memory (chain w)) ≤ length (chain w) = length-calls_at-le w.memory (chain w) in
          let same : length invs ≡ length (calls_at w.memory (chain w)) = length-map (calls_at w.memory (chain w)) (λ (c : Invoked I). c.inv) in
          let state : settled.0.0 ≡ state_after object start (take (length (chain w)) invs)
          = state_after-from object w num last sound (era_calls w) Anchor (last_cell w) (length (chain w)) (start, None) settled.0 sound.numbered.first
          (slice_get-last_of Anchor (chain w)) anchor settled.1 in (
            settled.0,
            settled.1,
            state ∙ ap (state_after object start) (take_all (length (chain w)) invs (omega arith))
                ∙ ap (λ cs. state_after object start (map (λ (c : Invoked I). c.inv) cs)) (sym (calls_of-calls_at w)),
          )

      -- the world after the end of an era
      pub world_after_era-quiet : (n : ℕ)
          → world_after_era w n ≡ record w { n = n; first = w.begun; memory = anchor_memory (state_after object start (invocations_of w)) (seq_of w.memory Anchor + length (log w)) }
      world_after_era-quiet n =
          let v = new_of-last_cell in
          rw v.1 (ap (λ s. let x : WorldOf S I R = record w { n = n; first = w.begun; memory = anchor_memory s (seq_of w.memory (last_cell w)) } in x) v.2
          ∙ ap (λ t. let x : WorldOf S I R = record w { n = n; first = w.begun; memory = anchor_memory (state_after object start (invocations_of w)) t } in x) seq_of-last_cell)
