-- `into_loose`: the pointer is null where the handle owns nothing, and else that of its box.
use Rattle.universal_c.proofs.Vocabulary.{ !, Goes-dropped, Good, List, None, Ptr, Ptr-Good, RattleType, SProp, Some, Stays, Val, WpFn, [], after, agg, alive, alloc_all, and_then, and_tt, at_ret, bin, block_ptr, branches, by, emp, ent, enter, env, exec, fact, fact_i, first, fjoin, fld, free_all, fsplit, get, get_in, ghosts, id⊢, keep, layout, leaves, lit, look_at, move, no_more, nothing, null_ptr, of_opd, owns, pass_all, plain, proved_at, qed, raw, refl, returns, sets, sets_last, split, stay_dropped, stop, sub, subst, suffices, sym, tables, tests_null, type_at, types_at, use0, use1, vcons, vnil, walk_of, whole, yes, ‵, ◌$◌, ◌++◌, ◌∵◌, ◌∷◌, ◌≡◌, ◌⊛◌}
use Rattle.std.proofs.Common.{lit<}
use types.Match.{live}
use Rattle.core.proofs.option.Made.{Some-of, none_of}
use Rattle.std.specs.contracts.alloc.Global as global
use Rattle.std.proofs.alloc.Global.TheLaws as global_laws
use Rattle.universal_c.proofs.Places.{by_place}
use Rattle.universal_c.proofs.Pointers.{fields_in, fields_out, fits_at, pointing}
use Rattle.universal_c.specs.contracts.held.Held as held
use Rattle.universal_c.specs.contracts.loose.Loose as loose
use Rattle.universal_c.specs.contracts.handle.Handle as handle
use Rattle.universal_c.specs.contracts.handle.Handle.into_loose.{ended, clauses}
use Rattle.universal_c.specs.contracts.handle.Handle.into_loose.Key.{name as #self}
use Rattle.universal_c.proofs.handle.Handle.into_loose.Statement.{statement}
use Rattle.universal_c.proofs.handle.Handle.into_loose.Code as code

pub into_loose_spec : {M : Type 1} → statement M
into_loose_spec 𝓤 𝓛 𝓜 𝓡 wired =
    let R : RattleType = held.the_row in let Z : RattleType = global.the_row in let LZ = global_laws.the_row_laws in
    let Lo : RattleType = loose.the_row R Z ghosts in let Own : RattleType = handle.the_row in
    let fn = code.function in let c = clauses 𝓛 𝓜.mem 𝓡.returns in let 𝓣 = tables 𝓤 𝓛.H 𝓜 𝓡 𝓡.env in
    let hs : Stays ended.signature.params ended.kept = (stay_dropped (plain (λ _. Own)) yes, tt) in
    proved_at 𝓛 ended hs c 𝓜 𝓡 (Goes-dropped 𝓛 0 (plain (λ _. Own)) yes (λ κs x f. refl), tt) #self fn (code.unfolded 𝓤 𝓛.H 𝓜 𝓡 wired) (λ z are.
    let κs = z.0.0 in let v = z.0.3.0 in let Out : RattleType = type_at ended.signature.result κs in
    let Post : Val → SProp 𝓤 = (walk_of 𝓛 ended hs c).post z in let Run : List Val → SProp 𝓤 = λ us. WpFn 𝓤 𝓛.H 𝓣.C 𝓣.Λ fn us Post in
    qed 𝓛 ((raw (alive 𝓛 ended.signature κs z.0.1) ⊛ ‵ (owns (types_at ended.signature.params κs) z.0.3 z.0.4)) ∷ raw ((c κs z.0.3).requires z.1) ∷ []) ∵
    split ! $ move ! (1 ∷ []) $ fsplit ! $ fsplit ! $ fields_out Z LZ ! v.at v.heap z.0.4.0 (λ h is fits. move ! (1 ∷ []) $
    let word : (p : Ptr) → v.at ≡ p → z.0.4.0 ≡ pointing p h ∷ [] = λ p at. subst (λ (q : Ptr). z.0.4.0 ≡ pointing q h ∷ []) at is in
    by_place R v.heap ! v.at v.value
    (λ at none. let w : Val = pointing null_ptr h in let nil : Val = live 0 vnil in
    -- [the allocator; nothing; the tokens; the requires]
    suffices ! (Run (w ∷ [])) (subst (λ (us : List Val). ent 𝓤 (Run (w ∷ [])) (Run us)) (sym (λ i. word null_ptr at i ++ [])) (id⊢ 𝓤 (Run (w ∷ [])))) $
    enter ! 𝓣.C 𝓣.Λ fn (w ∷ []) Post $ alloc_all ! (λ l. pass_all ! refl (fits_at Z LZ null_ptr h fits, tt) $ let Ev = env fn.locals l in
    sets ! (of_opd ! (get_in ! (fld ! refl (stop !)) (sub ! 0 refl (whole !)))) refl (Ptr-Good null_ptr) $ sets ! (of_opd ! (get_in ! (fld ! refl (stop !)) (sub ! 1 refl (whole !)))) refl fits $
    sets ! (bin ! (get ! refl) (lit ! tt) tt) refl (tt, tt) $ first ! $ branches ! (get ! refl)
    (λ _. sets_last ! (agg ! (and_then ! (lit ! tt) (no_more !))) refl (tt, (record { fits = lit< tt }, tt)) $ exec ! 𝓣.C 𝓣.Λ Ev (after 4 fn.body) (at_ret Ev Post) $
    sets ! (of_opd ! (get ! refl)) refl (tt, (record { fits = lit< tt }, tt)) $ use0 𝓛 (‵ (Out.own_val None (nil ∷ []))) (none_of 𝓛 Lo) $
    use0 𝓛 (raw (fact 𝓤 (v.value ≡ None))) (fact_i 𝓤 (v.value ≡ None) (emp 𝓤) none) $ nothing ! $ nothing ! $ fjoin ! $
    returns ! (look_at ! 0 refl) $ free_all ! refl $ keep ! (5 ∷ 0 ∷ 2 ∷ 1 ∷ []) $ by ! (leaves 𝓛 ended hs c z nil None (tt, tt) (tt, tt)))
    (λ wrong. absurd wrong)))
    (λ b o x at one may. let w : Val = pointing (block_ptr b o) h in let typed = fits_at Z LZ (block_ptr b o) h fits in
    let made : Lo.Denot = record { at = block_ptr b o; heap = v.heap; value = x } in let some : Val = live 1 (vcons w vnil) in
    let good : Good (layout Out) some = (and_tt _ typed.0, (record { fits = lit< tt }, (typed.1, tt))) in
    -- [what the box owns; the allocator; nothing; the tokens; the requires]
    suffices ! (Run (w ∷ [])) (subst (λ (us : List Val). ent 𝓤 (Run (w ∷ [])) (Run us)) (sym (λ i. word (block_ptr b o) at i ++ [])) (id⊢ 𝓤 (Run (w ∷ [])))) $
    enter ! 𝓣.C 𝓣.Λ fn (w ∷ []) Post $ alloc_all ! (λ l. pass_all ! refl (typed, tt) $ let Ev = env fn.locals l in
    sets ! (of_opd ! (get_in ! (fld ! refl (stop !)) (sub ! 0 refl (whole !)))) refl (tt, tt) $ sets ! (of_opd ! (get_in ! (fld ! refl (stop !)) (sub ! 1 refl (whole !)))) refl fits $
    sets ! (bin ! (get ! refl) (lit ! tt) (tests_null (block_ptr b o) may)) refl (tt, tt) $ first ! $ branches ! (get ! refl) (λ wrong. absurd wrong)
    (λ _. sets ! (agg ! (and_then ! (get ! refl) (and_then ! (get ! refl) (no_more !)))) refl typed $ sets_last ! (agg ! (and_then ! (lit ! tt) (and_then ! (get ! refl) (no_more !)))) refl good $
    exec ! 𝓣.C 𝓣.Λ Ev (after 4 fn.body) (at_ret Ev Post) $ sets ! (of_opd ! (get ! refl)) refl good $
    move ! (1 ∷ 0 ∷ []) $ fields_in Z LZ ! (block_ptr b o) v.heap h $ fjoin ! $ use1 𝓛 (‵ (Out.own_val (Some made) (some ∷ []))) (Some-of 𝓛 Lo made w) $
    use0 𝓛 (raw (fact 𝓤 (v.value ≡ Some x))) (fact_i 𝓤 (v.value ≡ Some x) (emp 𝓤) one) $ nothing ! $ nothing ! $ fjoin ! $
    returns ! (look_at ! 0 refl) $ free_all ! refl $ keep ! (4 ∷ 0 ∷ 2 ∷ 1 ∷ []) $ by ! (leaves 𝓛 ended hs c z some (Some made) (tt, tt) (tt, tt)))))))
