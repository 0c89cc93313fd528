-- A struct of a pointer and of the allocator that frees what lies there: what it owns, by its machine value. Assumes `Logic`.
use Rattle.universal_c.proofs.Vocabulary.{Al, Goal, Good, Item, Laws, List, Logic, Ptr, RattleType, RawPtr, Seq, Step, Struct, Ura, Val, Valss, WT, [], and_tt, block_ptr, dnil, drop, feq_i, feq_l, fjoin, fpack, fpick, fsplit, ftrue, handle_tells, has_ty, impl, layout, move, nothing, null_ptr, of_list, ptr_val, refl, step, tnil, true, vcons, vnil, vstruct, within, ‵, ◌$◌, ◌&&◌, ◌++◌, ◌∙◌, ◌∷◌, ◌≡◌}
use lib.Dec.{T, lit<}

-- the machine value of such a struct
abbrev pub pointing : Ptr → Val → Val
pointing p heap = vstruct (vcons (ptr_val p) (vcons heap vnil))

module _ (Z : RattleType) (L : Laws Z) where
  abbrev heap : Al
  heap = record { row = Z; laws = L; g = record { dealloc_token = λ a τ p. ftrue }; d = impl [] tnil dnil; drops = impl [] tnil dnil }

  abbrev pub Fields : RattleType
  Fields = Struct (record { name = []; args = []; types = []; fields = RawPtr ∷ Z ∷ [] })

  pub fits_at : (p : Ptr) (h : Val) → Good (layout Z) h → T (has_ty (layout Z) h && true) × WT (pointing p h)
  fits_at null_ptr h fits = (and_tt (has_ty (layout Z) h) fits.0, (record { fits = lit< tt }, (fits.1, tt)))
  fits_at (block_ptr b o) h fits = (and_tt (has_ty (layout Z) h) fits.0, (tt, (fits.1, tt)))

  module _ {M : Type 1} {𝓤 : Ura M} {𝓛 : Logic 𝓤} {K : Type 0} {Γ : List (Item 𝓤)} {G : Goal 𝓤 𝓛.H} where
    pub fields_out : K → (p : Ptr) (a : Z.Denot) (vs : List Val)
        → ((h : Val) → vs ≡ pointing p h ∷ [] → Good (layout Z) h → Seq K 𝓛 (‵ (Z.own_val a (h ∷ [])) ∷ Γ) G)
        → Seq K 𝓛 (‵ (Fields.own_val (p, (a, tt)) vs) ∷ Γ) G
    fields_out t p a vs k =
        fpick t (λ vss. fsplit t $ feq_l t (λ whole. fsplit t $ feq_l t (λ first. fsplit t $
        handle_tells heap t a vss.1.0 (λ h second fits. move t (1 ∷ []) $ drop t $
        k h (whole ∙ (λ i. vstruct (of_list (first i ++ (second i ++ []))) ∷ [])) fits))))

    pub fields_in : K → (p : Ptr) (a : Z.Denot) (h : Val)
        → Step K 𝓛 (‵ (Fields.own_val (p, (a, tt)) (pointing p h ∷ [])) ∷ Γ) G (‵ (Z.own_val a (h ∷ [])) ∷ Γ) G
    fields_in t p a h = step (λ rest. let v : Val = pointing p h in
        nothing t $ move t (1 ∷ 0 ∷ []) $ fjoin t $ feq_i t (List Val) (ptr_val p ∷ []) (ptr_val p ∷ []) refl $ fjoin t $
        feq_i t (List Val) (v ∷ []) (v ∷ []) refl $ fjoin t $
        fpack t (Valss (RawPtr ∷ Z ∷ [])) (within (record { name = []; args = []; types = []; fields = RawPtr ∷ Z ∷ [] }) (p, (a, tt)) (v ∷ []))
        (ptr_val p ∷ [], (h ∷ [], tt)) $ rest)
