-- `into_box`: what the struct owns is the box's again.
use Rattle.universal_c.proofs.Vocabulary.{ !, Goes-blank, Good, List, Ptr, RattleType, SProp, Stays, Val, WpFn, [], a_type, after, alloc_all, and_then, ap, at_ret, await, block_ptr, blocks, bounded, box_in, box_out, box_owns, by, calls_at_last, dcons, dnil, drop, ent, enter, env, exec, fact, feq_i, first, fjoin, fld, flft, fm, free_all, fsplit, fst∗, ftrue, get, get_in, id⊢, in_a_block, inst_fn, join, keep, lands_last, later, layout, leaves, look_at, move, never, no, no_more, nothing, null_ptr, of_opd, only, owns, param, param_laws, pass_all, pick, plain, proved_at, qed, raw, refl, returns, rewrite, sem, sets, some, split, split3, stay_dropped, stop, sub, subst, suffices, sym, tables, triple_of, types_at, use1, vptr, walk_of, whole, ‵, ◌$◌, ◌++◌, ◌∵◌, ◌∷◌, ◌≡◌, ◌⊛◌}
use mir.Raw.{raw as bare}
use contract.BorrowLft.{◌⊑◌}
use denote.Triple.Clauses.{Lasts, lasts}
use Rattle.std_alloc.proofs.BoxSteps.Form as box
use Rattle.std_alloc.specs.contracts.boxed.Box.from_raw as made
use Rattle.std_alloc.proofs.boxed.Box.from_raw.Met.{met}
use Rattle.universal_c.proofs.Pointers.{fields_out, fits_at, pointing}
use Rattle.universal_c.specs.contracts.loose.Loose as loose
use Rattle.universal_c.specs.contracts.loose.Loose.into_box.{ended, clauses}
use Rattle.universal_c.specs.contracts.loose.Loose.into_box.Key.{name as #self}
use Rattle.universal_c.proofs.loose.Loose.into_box.Statement.{statement}
use Rattle.universal_c.proofs.loose.Loose.into_box.Code as code

pub into_box_spec : {M : Type 1} → statement M
into_box_spec 𝓤 𝓛 𝓜 𝓡 wired T A L LA g d dx dd allocator glue glued =
    let R : RattleType = param 0 T in let Z : RattleType = param 1 A in let LZ = param_laws 1 A LA in let Lo : RattleType = loose.the_row R Z g in
    let E : box.Bx = record { row = T; laws = L; al = record { row = A; laws = LA; g = g; d = d; drops = dd } } in let B : RattleType = box.B E in
    let over = bounded (a_type ∷ a_type ∷ []) (T, (A, tt)) (dcons d (dcons dx (dcons dd dnil))) in let fn = inst_fn over code.function in
    let ends = ended T A g d dx dd in let c = clauses T A g d dx dd 𝓛 𝓜.mem 𝓡.returns in let 𝓣 = tables 𝓤 𝓛.H 𝓜 𝓡 𝓡.env in
    let hs : Stays ends.signature.params ends.kept = (stay_dropped (plain (λ _. Lo)) no, tt) in
    let call = triple_of 𝓛 (made.signature T A g d dd) (made.spec T A g d dd 𝓛 𝓜.mem 𝓡.returns) in
    proved_at 𝓛 ends hs c 𝓜 𝓡 (Goes-blank 𝓛 2 (plain (λ _. Lo)) no (λ κs x f. tt), tt) (#self over) fn (code.unfolded 𝓤 𝓛.H 𝓜 𝓡 wired (T, (A, tt)) d dx dd) (λ z are.
    let κs = z.0.0 in let qs = z.0.1 in let v = z.0.3.0 in
    let Post : Val → SProp 𝓤 = (walk_of 𝓛 ends hs c).post z in let Run : List Val → SProp 𝓤 = λ us. WpFn 𝓤 𝓛.H 𝓣.C 𝓣.Λ fn us Post in
    let toks = ‵ (flft κs.0 qs.0) ⊛ ‵ (flft κs.1.0 qs.1.0) ⊛ ‵ ftrue in
    qed 𝓛 ((toks ⊛ ‵ (owns (types_at ends.signature.params κs) z.0.3 z.0.4)) ∷ raw ((c κs z.0.3).requires z.1) ∷ []) ∵
    split ! $ move ! (1 ∷ []) $ fsplit ! $ fsplit ! $ fields_out Z LZ ! v.at v.heap z.0.4.0 (λ h is fits. move ! (1 ∷ []) $
    in_a_block ! v.at (λ p. box_owns (g.dealloc_token v.heap) R p v.value) (fst∗ 𝓤 (never 𝓤) (sem 𝓛 (g.dealloc_token v.heap (bare (layout T)) null_ptr))) (λ b o place.
    -- [what the box owns; the allocator; nothing; the tokens; the requires]
    let w : Val = pointing (block_ptr b o) h in let typed = fits_at Z LZ (block_ptr b o) h fits in
    let word : z.0.4.0 ≡ w ∷ [] = subst (λ (p : Ptr). z.0.4.0 ≡ pointing p h ∷ []) place is in
    let y : call.Ghost = ((κs, qs, tt, (v.heap, (block_ptr b o, tt)), (h ∷ [], (vptr b o ∷ [], tt))), v.value) in
    move ! (4 ∷ []) $ use1 𝓛 (raw (fact 𝓤 (κs.0 ⊑ T.lives)) ⊛ raw (fact 𝓤 (κs.1.0 ⊑ A.lives)) ⊛ ‵ ftrue) (id⊢ 𝓤 _) $ split3 ! $
    -- [the two facts; nothing; what the box owns; the allocator; nothing; the tokens]
    move ! (2 ∷ []) $ drop ! $ move ! (1 ∷ 2 ∷ []) $ join ! $ move ! (1 ∷ 0 ∷ []) $ join ! $
    -- [the requires of the call; the allocator; nothing; the tokens]
    move ! (2 ∷ []) $ feq_i ! (List Val) (vptr b o ∷ []) (vptr b o ∷ []) refl $ fjoin ! $ move ! (2 ∷ 0 ∷ []) $ fjoin ! $
    move ! (2 ∷ 0 ∷ []) $ join ! $ join ! $ use1 𝓛 (raw (call.pre y)) (id⊢ 𝓤 _) $
    suffices ! (Run (w ∷ [])) (subst (λ (us : List Val). ent 𝓤 (Run (w ∷ [])) (Run us)) (sym (λ i. word i ++ [])) (id⊢ 𝓤 (Run (w ∷ [])))) $
    enter ! 𝓣.C 𝓣.Λ fn (w ∷ []) Post $ alloc_all ! (λ l. pass_all ! refl (typed, tt) $ let Ev = env fn.locals l in
    sets ! (of_opd ! (get_in ! (fld ! refl (stop !)) (sub ! 0 refl (whole !)))) refl (tt, tt) $ sets ! (of_opd ! (get_in ! (fld ! refl (stop !)) (sub ! 1 refl (whole !)))) refl fits $
    first ! $ blocks ! $ sets ! (of_opd ! (get ! refl)) refl fits $
    calls_at_last ! (fm 𝓛 𝓜 𝓡) call (met 𝓤 𝓛 𝓜 𝓡 (code.calls-std_alloc::boxed::Box::from_raw 𝓡.env wired) T A L LA g d dd allocator glued) y (and_then ! (get ! refl) (and_then ! (get ! refl) (no_more !))) (λ u.
    use1 𝓛 (later (some (λ (r : B.Denot). (toks ⊛ ‵ (B.own_val r (u ∷ [])))
    ⊛ some (λ (ls : Lasts (made.ended T A g d dd) κs y.0.3). ‵ (lasts (made.ended T A g d dd) κs y.0.3 ls) ⊛ (raw (fact 𝓤 (r.value ≡ v.value)) ⊛ raw (fact 𝓤 (r.alloc ≡ v.heap))))))) (id⊢ 𝓤 (call.post y u)) $
    await ! tt $ pick ! (λ r. split ! $ move ! (1 ∷ []) $ pick ! (λ _. split3 ! $ drop ! $ move ! (2 ∷ []) $ split ! $ move ! (1 ∷ []) $
    -- [the box; the tokens; its value; its allocator]
    box_out E ! r (u ∷ []) (λ b' o' h' e' told fits'. box_in E ! r b' o' r.value e' refl $ rewrite ! 0 (λ (us : List Val). ‵ (B.own_val r us)) (sym told) refl $
    let good : Good (layout B) u = subst (Good (layout B)) (sym (ap only told)) (fits_at Z LZ (block_ptr b' o') h' fits') in
    lands_last ! refl good $ exec ! 𝓣.C 𝓣.Λ Ev (after 3 fn.body) (at_ret Ev Post) $ sets ! (of_opd ! (get ! refl)) refl good $ nothing ! $ nothing ! $ fjoin ! $
    returns ! (look_at ! 0 refl) $ free_all ! refl $ keep ! (2 ∷ 0 ∷ 1 ∷ 3 ∷ []) $
    by ! (leaves 𝓛 ends hs c z u r ((tt, (tt, tt)), tt) (tt, tt))))))))))
