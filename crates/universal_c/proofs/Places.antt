-- What a handle owns: nothing at null, and elsewhere a box, of which the pointer may be compared with null. Assumes `Logic`.
use Rattle.universal_c.proofs.Vocabulary.{Global, Goal, Item, List, Logic, None, Option, Ptr, RattleType, Seq, Some, Testable, Ura, block_ptr, boxed, drop, ent, fact_use, fpick, fsplit, full_share, ghosts, given, guard, guard_i, learn, lies_at, lone, null_ptr, owned, refl, sem, snd∗, use1, via, ‵, ℕ, ◌$◌, ◌∷◌, ◌≡◌}
use mir.Raw.{raw as bare}
use Rattle.std.proofs.GlobalToken.{dealloc_token-Testable}

module _ (R : RattleType) (heap : Global) where
  module _ {M : Type 1} {𝓤 : Ura M} (𝓛 : Logic 𝓤) (p : Ptr) (x : R.Denot) where
    testable : ent 𝓤 (sem 𝓛 (boxed R heap p x)) (guard 𝓤 (Testable p) (sem 𝓛 (boxed R heap p x)))
    testable = let right = sem 𝓛 (ghosts.dealloc_token heap (bare (lone R.mir)) p) in
        fact_use 𝓤 (Testable p) (via 𝓤 right (snd∗ 𝓤 (sem 𝓛 (lies_at R full_share p x)) right) (dealloc_token-Testable 𝓛 heap (bare (lone R.mir)) p))
        (guard_i 𝓤 (Testable p) (sem 𝓛 (boxed R heap p x)))

  module _ {M : Type 1} {𝓤 : Ura M} {𝓛 : Logic 𝓤} {K : Type 0} {Γ : List (Item 𝓤)} {G : Goal 𝓤 𝓛.H} where
    -- the two cases of what a handle owns
    pub by_place : K → (p : Ptr) (value : Option R.Denot) → (p ≡ null_ptr → value ≡ None → Seq K 𝓛 Γ G)
        → ((b o : ℕ) (x : R.Denot) → p ≡ block_ptr b o → value ≡ Some x → Testable (block_ptr b o) → Seq K 𝓛 (‵ (boxed R heap (block_ptr b o) x) ∷ Γ) G)
        → Seq K 𝓛 (‵ (owned R heap p value) ∷ Γ) G
    by_place t null_ptr value none one = fpick t (λ e. drop t $ none refl e)
    by_place t (block_ptr b o) value none one = fpick t (λ x. fsplit t $ fpick t (λ e. drop t $
        use1 𝓛 (given (Testable (block_ptr b o)) (‵ (boxed R heap (block_ptr b o) x))) (testable 𝓛 (block_ptr b o) x) $ learn t (λ may. one b o x refl e may)))
