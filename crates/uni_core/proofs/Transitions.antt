-- Single steps over the shared places.
use Rattle.uni_core.proofs.Vocabulary.{AfterOf, CellName, Content, HasShapeOf, HeadOf, IsSome, Link, Name, NewOf, None, Option, Sequential, Settled, SharedEntries, Some, Stage, Takes, after_of, announce_of, ap, arith, effect_at, false, head_of, if◌then◌else◌, inl, inr, is_some, lt_cases, memory_of, memory_with, named, new_of, option_copied, option_or, place_of, processes_of, refl, response_after, response_in, seq_of, stage_after_scan, stage_of, subst, sym, true, unwrap_or, value_after, written_same, ℕ, ◌%◌, ◌<◌, ◌==◌, ◌∙◌, ◌≡◌, ◌≤◌, ◌⊎◌}
use Rattle.std.specs.Borrow.{Bor}
use Rattle.uni_model.specs.Stages.{Stage as at}

module _ {S I R : Type 0} (a : SharedEntries S I R) (d : Name) where
  -- what is settled stays, whatever is proposed
  pub settled_kept : (proposal : Option (S × Option R)) → IsSome (new_of (memory_of a) d)
      → memory_of a ≡ memory_with (memory_of a) (NewOf d) (Settled (option_or (new_of (memory_of a) d) proposal))
  settled_kept proposal some = by_new (new_of (memory_of a) d) refl some where
    by_new : (o : Option (S × Option R)) → new_of (memory_of a) d ≡ o → IsSome o → memory_of a ≡ memory_with (memory_of a) (NewOf d) (Settled (option_or (new_of (memory_of a) d) proposal))
    by_new None e h = absurd (let f : false ≡ true = h in cc)
    by_new (Some v) e h =
        subst (λ x. memory_of a ≡ memory_with (memory_of a) (NewOf d) (Settled (option_or x proposal))) (sym e)
        (subst (λ x. memory_of a ≡ memory_with (memory_of a) (NewOf d) x) (ap (λ (x : Option (S × Option R)). let c : Content S I R = Settled x in c) e) (sym (written_same (memory_of a) (NewOf d))))

-- the object applied to what is there
pub applied_there : {S I R : Type 0} (object : Sequential S I R) (new_c : Option (S × Option R)) (inv_d : Option I) (before : S × Option R) (inv : I) (state : S) (response : R)
    → new_c ≡ Some before → inv_d ≡ Some inv → state ≡ object.next before.0 inv → response ≡ object.answer before.0 inv → value_after object new_c inv_d ≡ Some (state, Some response)
applied_there object new_c inv_d before inv state response ec ed es er = rw (ec, ed, es, er) refl

pub copied_some : {A : Type 0} (r : Option (Bor A)) → is_some r ≡ true → IsSome (option_copied r)
copied_some None e = absurd (let f : false ≡ true = e in cc)
copied_some (Some x) e = refl

-- one proposal for another that is the same
pub proposed_same : {S I R : Type 0} (a a' : SharedEntries S I R) (d : Name) (p q : Option (S × Option R)) → p ≡ q
    → memory_of a' ≡ memory_with (memory_of a) (NewOf d) (Settled (option_or (new_of (memory_of a) d) q))
    → memory_of a' ≡ memory_with (memory_of a) (NewOf d) (Settled (option_or (new_of (memory_of a) d) p))
proposed_same a a' d p q e h = subst (λ x. memory_of a' ≡ memory_with (memory_of a) (NewOf d) (Settled (option_or (new_of (memory_of a) d) x))) (sym e) h

-- the shape of what is unchanged
pub HasShapeOf-same : {S I R : Type 0} (a : SharedEntries S I R) → HasShapeOf a a
HasShapeOf-same a = record { processes = refl; row = refl; made = λ p. refl; first = refl }

-- a step that only reads its place
pub Takes-read : {S I R : Type 0} (object : Sequential S I R) (p : ℕ) (mine : Name) (from : at) (a : SharedEntries S I R) (to : Option at) (response : Option R)
    → (effect_at object a p mine from).content ≡ memory_of a (place_of (processes_of a.cells) p mine from)
    → to ≡ (effect_at object a p mine from).stage → response ≡ response_after mine from (memory_of a) → Takes object p mine from a a to response
Takes-read object p mine from a to response same stage told = record {
  shape = HasShapeOf-same a;
  memory = subst (λ v. memory_of a ≡ memory_with (memory_of a) (place_of (processes_of a.cells) p mine from) v) (sym same) (sym (written_same (memory_of a) (place_of (processes_of a.cells) p mine from)));
  stage = stage;
  told = told;
}

-- what the last step writes
pub Takes-finish : {S I R : Type 0} (object : Sequential S I R) (p : ℕ) (mine : Name) (s t : ℕ) (a a' : SharedEntries S I R) (r : R) → response_in (memory_of a) mine ≡ Some r
    → ((s < t) × HasShapeOf a a' × (memory_of a' ≡ memory_with (memory_of a) (HeadOf p) (CellName mine))) ⊎ ((t ≤ s) × (a' ≡ a))
    → Takes object p mine (at.Finish s t) a a' None (Some r)
Takes-finish object p mine s t a a' r responds (inl wrote) = record {
  shape = wrote.1;
  memory = elim (lt_cases s t) [ inl less ↦ rw less.1 wrote.2 | inr more ↦ absurd (let x = more.0 in let y = wrote.0 in omega arith) ];
  stage = refl;
  told = sym responds;
}
Takes-finish object p mine s t a a' r responds (inr kept) = elim (lt_cases s t) [
  | inl less ↦ absurd (let x = less.0 in let y = kept.0 in omega arith)
  | inr more ↦ subst (λ b. Takes object p mine (at.Finish s t) a b None (Some r)) (sym kept.1) (Takes-read object p mine (at.Finish s t) a None (Some r) (rw more.1 refl) refl (sym responds))
]

-- Each step that only reads its place, of n processes.
module _ {S I R : Type 0} (object : Sequential S I R) (p : ℕ) (mine : Name) (a : SharedEntries S I R) where
  pub Takes-scan_head : (q : ℕ) (best : Name) (s head : ℕ) → named a head ≡ head_of (memory_of a) q
      → Takes object p mine (at.ScanHead q best s) a a (Some (at.ScanSeq q best s (named a head))) None
  Takes-scan_head q best s head e = Takes-read object p mine (at.ScanHead q best s) a _ None refl (ap (λ x. Some (at.ScanSeq q best s x)) e) refl

  pub Takes-scan_seq : (q best s head : ℕ) (k seq : ℕ) (r : Stage) → k ≡ processes_of a.cells → ((name : ℕ → Name) → stage_of name r ≡ stage_after_scan k q (name best) s (name head) seq)
      → seq ≡ seq_of (memory_of a) (named a head)
      → Takes object p mine (at.ScanSeq q (named a best) s (named a head)) a a (Some (stage_of (named a) r)) None
  Takes-scan_seq q best s head k seq r count e is_seq =
      Takes-read object p mine (at.ScanSeq q (named a best) s (named a head)) a _ None refl
      (ap Some (subst (λ j. stage_of (named a) r ≡ stage_after_scan j q (named a best) s (named a head) seq) count (e (named a))
      ∙ ap (λ t. stage_after_scan (processes_of a.cells) q (named a best) s (named a head) t) is_seq)) refl

  pub Takes-test : (c s seq : ℕ) (r : Stage) → ((name : ℕ → Name) → stage_of name r ≡ (if seq == 0 then at.ReadAnnounce (name c) s else at.Finish s seq))
      → seq ≡ seq_of (memory_of a) mine → Takes object p mine (at.Test (named a c) s) a a (Some (stage_of (named a) r)) None
  Takes-test c s seq r e is_seq =
      Takes-read object p mine (at.Test (named a c) s) a _ None refl
      (ap Some (e (named a) ∙ ap (λ t. if t == 0 then at.ReadAnnounce (named a c) s else at.Finish s t) is_seq)) refl

  pub Takes-read_announce : (c s help k : ℕ) → k ≡ processes_of a.cells → named a help ≡ announce_of (memory_of a) (s % k)
      → Takes object p mine (at.ReadAnnounce (named a c) s) a a (Some (at.ReadHelpSeq (named a c) s (named a help))) None
  Takes-read_announce c s help k count e =
      Takes-read object p mine (at.ReadAnnounce (named a c) s) a _ None refl
      (ap (λ x. Some (at.ReadHelpSeq (named a c) s x)) (e ∙ ap (λ j. announce_of (memory_of a) (s % j)) count)) refl

  pub Takes-read_help_seq : (c s help own seq prefer : ℕ) → mine ≡ named a own
      → ((name : ℕ → Name) → name prefer ≡ (if seq == 0 then name help else name own)) → seq ≡ seq_of (memory_of a) (named a help)
      → Takes object p mine (at.ReadHelpSeq (named a c) s (named a help)) a a
      (Some (at.DecideAfter (named a c) s (named a prefer))) None
  Takes-read_help_seq c s help own seq prefer is_mine e is_seq =
      Takes-read object p mine (at.ReadHelpSeq (named a c) s (named a help)) a _ None refl
      (ap (λ x. Some (at.DecideAfter (named a c) s x))
      (e (named a) ∙ ap (λ t. if t == 0 then named a help else named a own) is_seq
      ∙ ap (λ y. if seq_of (memory_of a) (named a help) == 0 then named a help else y) (sym is_mine))) refl

  pub Takes-decide_after : (c s prefer d : ℕ) (a' : SharedEntries S I R) → HasShapeOf a a'
      → memory_of a' ≡ memory_with (memory_of a) (AfterOf (named a c)) (Link (option_or (after_of (memory_of a) (named a c)) (Some (named a prefer))))
      → named a d ≡ unwrap_or (after_of (memory_of a) (named a c)) (named a prefer)
      → Takes object p mine (at.DecideAfter (named a c) s (named a prefer)) a a' (Some (at.DecideNew (named a c) s (named a d))) None
  Takes-decide_after c s prefer d a' shape wrote e = record {
    shape = shape;
    memory = wrote;
    stage = ap (λ x. Some (at.DecideNew (named a c) s x)) e;
    told = refl;
  }
