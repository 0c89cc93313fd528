-- `of`: what the box owned goes into the struct with its pointer.
use Rattle.universal_c.proofs.Vocabulary.{ !, Goes-blank, List, Ptr, RattleType, RawPtr, SProp, Stays, Val, WpFn, [], a_type, agg, alloc_all, and_then, ap, await, block_ptr, bounded, box_in, box_out, box_owns, by, calls_at, dcons, dnil, drop, emp, ent, enter, fact, fact_i, fjoin, fld, flft, fm, free_all, fsep, fsplit, fst∗, ftrue, get, get_in, heard, id⊢, in_a_block, inst_fn, join, keep, lands_as, later, layout, leaves, look_at, move, never, no, no_more, nothing, null_ptr, of_opd, only, owns, param, param_laws, pass_all, pick, plain, proved_at, qed, raw, refl, returns, rewrite, sem, sets, some, split, split3, stay_dropped, stop, sub, subst, suffices, sym, tables, triple_of, types_at, use0, use1, walk_of, whole, ‵, ◌$◌, ◌++◌, ◌∙◌, ◌∵◌, ◌∷◌, ◌≡◌, ◌⊛◌}
use mir.Raw.{raw as bare}
use denote.Struct.Tuple.{Tuple}
use Rattle.std_alloc.proofs.BoxSteps.Form as box
use Rattle.std_alloc.specs.contracts.boxed.Box.into_raw_with_allocator as taken
use Rattle.std_alloc.proofs.boxed.Box.into_raw_with_allocator.Met.{met}
use Rattle.universal_c.proofs.Pointers.{fields_in, fields_out, fits_at, pointing}
use Rattle.universal_c.specs.contracts.loose.Loose.of.{ended, clauses}
use Rattle.universal_c.specs.contracts.loose.Loose.of.Key.{name as #self}
use Rattle.universal_c.proofs.loose.Loose.of.Statement.{statement}
use Rattle.universal_c.proofs.loose.Loose.of.Code as code

pub of_spec : {M : Type 1} → statement M
of_spec 𝓤 𝓛 𝓜 𝓡 wired T A L LA g d dx dd allocator glue glued =
    let R : RattleType = param 0 T in let Z : RattleType = param 1 A in let LZ = param_laws 1 A LA in
    let E : box.Bx = record { row = T; laws = L; al = record { row = A; laws = LA; g = g; d = d; drops = dd } } in
    let over = bounded (a_type ∷ a_type ∷ []) (T, (A, tt)) (dcons d (dcons dx (dcons dd dnil))) in let fn = inst_fn over code.function in
    let ends = ended T A g d dx dd in let c = clauses T A g d dx dd 𝓛 𝓜.mem 𝓡.returns in let 𝓣 = tables 𝓤 𝓛.H 𝓜 𝓡 𝓡.env in
    let hs : Stays ends.signature.params ends.kept = (stay_dropped (plain (λ _. box.B E)) no, tt) in
    let call = triple_of 𝓛 (taken.signature T A g d dd dx) (taken.spec T A g d dd dx 𝓛 𝓜.mem 𝓡.returns) in let Pair = Tuple (RawPtr ∷ Z ∷ []) in
    proved_at 𝓛 ends hs c 𝓜 𝓡 (Goes-blank 𝓛 2 (plain (λ _. box.B E)) no (λ κs x f. tt), tt) (#self over) fn (code.unfolded 𝓤 𝓛.H 𝓜 𝓡 wired (T, (A, tt)) d dx dd) (λ z are.
    let κs = z.0.0 in let qs = z.0.1 in let v = z.0.3.0 in let owns_at : Ptr → base.Fml.Fml = λ p. box_owns (g.dealloc_token v.alloc) R p v.value in
    let Post : Val → SProp 𝓤 = (walk_of 𝓛 ends hs c).post z in let Run : List Val → SProp 𝓤 = λ us. WpFn 𝓤 𝓛.H 𝓣.C 𝓣.Λ fn us Post in
    let toks = ‵ (flft κs.0 qs.0) ⊛ ‵ (flft κs.1.0 qs.1.0) ⊛ ‵ ftrue in
    qed 𝓛 ((toks ⊛ ‵ (owns (types_at ends.signature.params κs) z.0.3 z.0.4)) ∷ raw ((c κs z.0.3).requires z.1) ∷ []) ∵
    split ! $ move ! (1 ∷ []) $ fsplit ! $ box_out E ! v z.0.4.0 (λ b o h e is fits. box_in E ! v b o v.value e refl $
    -- [the box; nothing; the tokens; the requires]
    let w : Val = box.word E h b o in let typed = fits_at Z LZ (block_ptr b o) h fits in
    let y : call.Ghost = ((κs, qs, tt, (v, tt), (w ∷ [], tt)), tt) in
    fjoin ! $ move ! (1 ∷ 0 ∷ []) $ join ! $ join ! $ use1 𝓛 (raw (call.pre y)) (id⊢ 𝓤 _) $
    suffices ! (Run (w ∷ [])) (subst (λ (us : List Val). ent 𝓤 (Run (w ∷ [])) (Run us)) (sym (λ i. is i ++ [])) (id⊢ 𝓤 (Run (w ∷ [])))) $
    enter ! 𝓣.C 𝓣.Λ fn (w ∷ []) Post $ alloc_all ! (λ l. pass_all ! refl (typed, tt) $ sets ! (of_opd ! (get ! refl)) refl typed $
    calls_at ! (fm 𝓛 𝓜 𝓡) call (met 𝓤 𝓛 𝓜 𝓡 (code.calls-std_alloc::boxed::Box::into_raw_with_allocator 𝓡.env wired) T A L LA g d dd dx allocator glued glue) y (and_then ! (get ! refl) (no_more !)) (λ u.
    use1 𝓛 (later (some (λ (r : Ptr × A.Denot). (toks ⊛ ‵ (Pair.own_val r (u ∷ [])))
    ⊛ some (λ (_ : (Unit {0} × (Unit {0} × Unit {0})) × Unit {0}). ‵ (fsep (fsep ftrue (fsep ftrue ftrue)) ftrue) ⊛ (raw (fact 𝓤 (r.1 ≡ v.alloc)) ⊛ ‵ (owns_at r.0)))))) (id⊢ 𝓤 _) $
    await ! tt $ pick ! (λ r. split ! $ move ! (1 ∷ []) $ pick ! (λ _. split3 ! $ drop ! $ heard ! (r.1 ≡ v.alloc) (λ same.
    -- [what the box owned; the tokens with the pair]
    in_a_block ! r.0 owns_at (fst∗ 𝓤 (never 𝓤) (sem 𝓛 (g.dealloc_token v.alloc (bare (layout T)) null_ptr))) (λ b' o' place.
    move ! (1 ∷ []) $ split ! $ move ! (1 ∷ []) $ fields_out Z LZ ! r.0 r.1 (u ∷ []) (λ h' told fits'.
    rewrite ! 0 (λ (a : A.Denot). ‵ (Z.own_val a (h' ∷ []))) same refl $ let made = fits_at Z LZ (block_ptr b' o') h' fits' in
    -- [the allocator; the tokens; what the box owned]
    lands_as ! (ap only told ∙ ap (λ (p : Ptr). pointing p h') place) refl made $
    sets ! (of_opd ! (get_in ! (fld ! refl (stop !)) (sub ! 0 refl (whole !)))) refl (tt, tt) $ sets ! (of_opd ! (get_in ! (fld ! refl (stop !)) (sub ! 1 refl (whole !)))) refl fits' $
    sets ! (of_opd ! (get ! refl)) refl fits' $ sets ! (agg ! (and_then ! (get ! refl) (and_then ! (get ! refl) (no_more !)))) refl made $
    fields_in Z LZ ! (block_ptr b' o') v.alloc h' $ move ! (0 ∷ 2 ∷ []) $ fjoin ! $
    use0 𝓛 (raw (fact 𝓤 (v.value ≡ v.value))) (fact_i 𝓤 (v.value ≡ v.value) (emp 𝓤) refl) $ nothing ! $ nothing ! $ fjoin ! $
    returns ! (look_at ! 0 refl) $ free_all ! refl $ keep ! (3 ∷ 0 ∷ 2 ∷ 1 ∷ []) $
    by ! (leaves 𝓛 ends hs c z (pointing (block_ptr b' o') h') (record { at = block_ptr b' o'; heap = v.alloc; value = v.value }) ((tt, (tt, tt)), tt) (tt, tt)))))))))))
