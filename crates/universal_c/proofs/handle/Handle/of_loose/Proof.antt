-- `of_loose`: the same pointer, and what it owned.
use Rattle.universal_c.proofs.Vocabulary.{ !, Goes-dropped, List, Ptr, RattleType, SProp, Some, Stays, Val, WpFn, [], agg, alive, alloc_all, and_then, block_ptr, boxed, by, emp, ent, enter, fact, fact_i, fex, fjoin, fld, fpack, free_all, fsep, fsplit, fst∗, ftrue, get, get_in, ghosts, id⊢, in_a_block, keep, leaves, lone, look_at, move, never, no_more, nothing, null_ptr, of_opd, owns, pass_all, plain, proved_at, qed, raw, refl, returns, sem, sets, split, stay_dropped, stop, sub, subst, suffices, sym, tables, types_at, use0, walk_of, whole, yes, ‵, ◌$◌, ◌++◌, ◌∵◌, ◌∷◌, ◌≡◌, ◌⊛◌}
use mir.Raw.{raw as bare}
use Rattle.std.specs.contracts.alloc.Global as global
use Rattle.std.proofs.alloc.Global.TheLaws as global_laws
use Rattle.universal_c.proofs.Pointers.{fields_in, fields_out, fits_at, pointing}
use Rattle.universal_c.specs.contracts.held.Held as held
use Rattle.universal_c.specs.contracts.loose.Loose as loose
use Rattle.universal_c.specs.contracts.handle.Handle as handle
use Rattle.universal_c.specs.contracts.handle.Handle.of_loose.{ended, clauses}
use Rattle.universal_c.specs.contracts.handle.Handle.of_loose.Key.{name as #self}
use Rattle.universal_c.proofs.handle.Handle.of_loose.Statement.{statement}
use Rattle.universal_c.proofs.handle.Handle.of_loose.Code as code

pub of_loose_spec : {M : Type 1} → statement M
of_loose_spec 𝓤 𝓛 𝓜 𝓡 wired =
    let R : RattleType = held.the_row in let Z : RattleType = global.the_row in let LZ = global_laws.the_row_laws in
    let Lo : RattleType = loose.the_row R Z ghosts in let Out : RattleType = handle.the_row in
    let fn = code.function in let c = clauses 𝓛 𝓜.mem 𝓡.returns in let 𝓣 = tables 𝓤 𝓛.H 𝓜 𝓡 𝓡.env in
    let hs : Stays ended.signature.params ended.kept = (stay_dropped (plain (λ _. Lo)) yes, tt) in
    proved_at 𝓛 ended hs c 𝓜 𝓡 (Goes-dropped 𝓛 0 (plain (λ _. Lo)) yes (λ κs x f. refl), tt) #self fn (code.unfolded 𝓤 𝓛.H 𝓜 𝓡 wired) (λ z are.
    let κs = z.0.0 in let v = z.0.3.0 in
    let Post : Val → SProp 𝓤 = (walk_of 𝓛 ended hs c).post z in let Run : List Val → SProp 𝓤 = λ us. WpFn 𝓤 𝓛.H 𝓣.C 𝓣.Λ fn us Post in
    qed 𝓛 ((raw (alive 𝓛 ended.signature κs z.0.1) ⊛ ‵ (owns (types_at ended.signature.params κs) z.0.3 z.0.4)) ∷ raw ((c κs z.0.3).requires z.1) ∷ []) ∵
    split ! $ move ! (1 ∷ []) $ fsplit ! $ fsplit ! $ fields_out Z LZ ! v.at v.heap z.0.4.0 (λ h is fits. move ! (1 ∷ []) $
    in_a_block ! v.at (λ p. boxed R v.heap p v.value) (fst∗ 𝓤 (never 𝓤) (sem 𝓛 (ghosts.dealloc_token v.heap (bare (lone R.mir)) null_ptr))) (λ b o place.
    -- [what the box owns; the allocator; nothing; the tokens; the requires]
    let w : Val = pointing (block_ptr b o) h in let typed = fits_at Z LZ (block_ptr b o) h fits in
    let word : z.0.4.0 ≡ w ∷ [] = subst (λ (p : Ptr). z.0.4.0 ≡ pointing p h ∷ []) place is in
    let made : Out.Denot = record { at = block_ptr b o; heap = v.heap; value = Some v.value } in
    nothing ! $ fpack ! (made.value ≡ Some v.value) (λ _. ftrue) refl $ fjoin ! $
    fpack ! R.Denot (λ x. fsep (fex (made.value ≡ Some x) (λ _. ftrue)) (boxed R v.heap (block_ptr b o) x)) v.value $
    move ! (1 ∷ 0 ∷ []) $ fields_in Z LZ ! (block_ptr b o) v.heap h $ fjoin ! $
    -- [the handle; nothing; the tokens; the requires]
    suffices ! (Run (w ∷ [])) (subst (λ (us : List Val). ent 𝓤 (Run (w ∷ [])) (Run us)) (sym (λ i. word i ++ [])) (id⊢ 𝓤 (Run (w ∷ [])))) $
    enter ! 𝓣.C 𝓣.Λ fn (w ∷ []) Post $ alloc_all ! (λ l. pass_all ! refl (typed, tt) $
    sets ! (of_opd ! (get_in ! (fld ! refl (stop !)) (sub ! 0 refl (whole !)))) refl (tt, tt) $ sets ! (of_opd ! (get_in ! (fld ! refl (stop !)) (sub ! 1 refl (whole !)))) refl fits $
    sets ! (agg ! (and_then ! (get ! refl) (and_then ! (get ! refl) (no_more !)))) refl typed $
    use0 𝓛 (raw (fact 𝓤 (made.value ≡ Some v.value))) (fact_i 𝓤 (made.value ≡ Some v.value) (emp 𝓤) refl) $ nothing ! $ nothing ! $ fjoin ! $
    returns ! (look_at ! 0 refl) $ free_all ! refl $ keep ! (4 ∷ 0 ∷ 2 ∷ 1 ∷ []) $
    by ! (leaves 𝓛 ended hs c z w made (tt, tt) (tt, tt))))))
