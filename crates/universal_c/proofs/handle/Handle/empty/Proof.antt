-- `empty`: null, beside the allocator.
use Rattle.universal_c.proofs.Vocabulary.{ !, Goes-dropped, List, None, RattleType, SProp, Stays, Val, WpFn, [], agg, alive, alloc_all, and_then, by, emp, ent, enter, fact, fact_i, fjoin, fpack, free_all, fsplit, ftrue, get, id⊢, keep, layout, leaves, lit, look_at, move, no_more, nothing, null_ptr, one, owns, pass_all, plain, proved_at, qed, raw, refl, returns, rewrite, sets, split, stay_dropped, subst, suffices, sym, tables, types_at, use0, walk_of, yes, ‵, ◌$◌, ◌++◌, ◌∵◌, ◌∷◌, ◌≡◌, ◌⊛◌}
use Rattle.std.specs.contracts.alloc.Global as global
use Rattle.std.proofs.alloc.Global.TheLaws as global_laws
use Rattle.universal_c.proofs.Pointers.{fields_in, fits_at, pointing}
use Rattle.universal_c.specs.contracts.handle.Handle as handle
use Rattle.universal_c.specs.contracts.handle.Handle.empty.{ended, clauses}
use Rattle.universal_c.specs.contracts.handle.Handle.empty.Key.{name as #self}
use Rattle.universal_c.proofs.handle.Handle.empty.Statement.{statement}
use Rattle.universal_c.proofs.handle.Handle.empty.Code as code

pub empty_spec : {M : Type 1} → statement M
empty_spec 𝓤 𝓛 𝓜 𝓡 wired =
    let Z : RattleType = global.the_row in let LZ = global_laws.the_row_laws in let Out : RattleType = handle.the_row in
    let fn = code.function in let c = clauses 𝓛 𝓜.mem 𝓡.returns in let 𝓣 = tables 𝓤 𝓛.H 𝓜 𝓡 𝓡.env in
    let hs : Stays ended.signature.params ended.kept = (stay_dropped (plain (λ _. Z)) yes, tt) in
    proved_at 𝓛 ended hs c 𝓜 𝓡 (Goes-dropped 𝓛 0 (plain (λ _. Z)) yes (λ κs x f. refl), tt) #self fn (code.unfolded 𝓤 𝓛.H 𝓜 𝓡 wired) (λ z are.
    let κs = z.0.0 in let a = z.0.3.0 in
    let Post : Val → SProp 𝓤 = (walk_of 𝓛 ended hs c).post z in let Run : List Val → SProp 𝓤 = λ us. WpFn 𝓤 𝓛.H 𝓣.C 𝓣.Λ fn us Post in
    let h = one (layout Z) z.0.4.0 ((LZ.lawful 𝓛).typed a z.0.4.0 are.0) in let made : Out.Denot = record { at = null_ptr; heap = a; value = None } in
    qed 𝓛 ((raw (alive 𝓛 ended.signature κs z.0.1) ⊛ ‵ (owns (types_at ended.signature.params κs) z.0.3 z.0.4)) ∷ raw ((c κs z.0.3).requires z.1) ∷ []) ∵
    split ! $ move ! (1 ∷ []) $ fsplit ! $ rewrite ! 0 (λ (us : List Val). ‵ (Z.own_val a us)) h.1 refl $
    -- [the allocator; nothing; the tokens; the requires]
    fields_in Z LZ ! null_ptr a h.0 $ nothing ! $ fpack ! (made.value ≡ None) (λ _. ftrue) refl $ move ! (1 ∷ 0 ∷ []) $ fjoin ! $
    suffices ! (Run (h.0 ∷ [])) (subst (λ (us : List Val). ent 𝓤 (Run (h.0 ∷ [])) (Run us)) (sym (λ i. h.1 i ++ [])) (id⊢ 𝓤 (Run (h.0 ∷ [])))) $
    enter ! 𝓣.C 𝓣.Λ fn (h.0 ∷ []) Post $ alloc_all ! (λ l. pass_all ! refl (h.2, tt) $
    sets ! (agg ! (and_then ! (lit ! tt) (and_then ! (get ! refl) (no_more !)))) refl (fits_at Z LZ null_ptr h.0 h.2) $
    use0 𝓛 (raw (fact 𝓤 (made.value ≡ None))) (fact_i 𝓤 (made.value ≡ None) (emp 𝓤) refl) $ nothing ! $ nothing ! $ fjoin ! $
    returns ! (look_at ! 0 refl) $ free_all ! refl $ keep ! (4 ∷ 0 ∷ 2 ∷ 1 ∷ []) $
    by ! (leaves 𝓛 ended hs c z (pointing null_ptr h.0) made (tt, tt) (tt, tt))))
