-- What a process that takes no further step leaves behind.
use Rattle.std.specs.Prelude.{◌≡◌, ◌≢◌, ℕ, ◌+◌, List, length}
use Rattle.seq_object.specs.Sequential.{Sequential}
use Rattle.uni_model.specs.Executions.Execution.{Ends, Takes}
use Rattle.uni_small.specs.View.Stage.{Last}
use Rattle.uni_small.specs.Execution.{Execution, Moment, access_of, after_access, all_acts, last_moment}
use Rattle.uni_small.specs.Execution.Next.{Reply}
use Rattle.uni_small.specs.declared.sizes.Sizes.{Sizes}

module _ (object : Sequential (List ℕ) (List ℕ) (List ℕ)) (sizes : Sizes) where
  -- process p takes no step in an execution
  abbrev pub Rests : (p : ℕ) → {m : Moment} → Execution object sizes m → Type 0
  Rests p Ends = Unit {0}
  Rests p (Takes q inside next rest) = (q ≢ p) × Rests p rest

  -- Two executions make the same acts and end with the same words and all processes at the same places, but for process
  -- p, which takes no step in the second one.
  pub record AreAlikeBut (p : ℕ) {m m' : Moment} (e : Execution object sizes m) (e' : Execution object sizes m') : Type 0 where
    pub acts : all_acts object sizes e' ≡ all_acts object sizes e
    pub words : (last_moment object sizes e').words ≡ (last_moment object sizes e).words
    pub others : (q : ℕ) → q ≢ p → (last_moment object sizes e').local q ≡ (last_moment object sizes e).local q
    pub rests : Rests p e'
    pub own : (last_moment object sizes e').local p ≡ m'.local p

  -- Where a process, at the end of an execution, can load the last word of its reply, and after that takes no further
  -- step: all that goes on then goes on without this load as well. So by the words nobody can tell whether the call of
  -- a process that stopped there has returned.
  abbrev pub LeavesNoTrace : {m : Moment} → Execution object sizes m → Type 0
  LeavesNoTrace e = let m = last_moment object sizes e in
      (p s : ℕ) (loaded : List ℕ) (at : (m.local p).stage ≡ Last s loaded) (last : length loaded + 1 ≡ sizes.reply)
      (more : Execution object sizes (after_access object sizes m p (access_of object sizes p (m.local p) (Reply s loaded at last)))) → Rests p more
      → (without : Execution object sizes m) × AreAlikeBut p more without
