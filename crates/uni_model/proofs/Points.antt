-- The calls that take effect among acts: of acts behind each other, and as the atomic object agrees on them.
use Rattle.uni_model.proofs.Vocabulary.{AcceptsAll, Act, Atomic, Invoke, Linearize, List, Respond, Sequential, [], ap, append-nil, append_assoc, refl, sym, ◌++◌, ◌∙◌, ◌∷◌, ◌≡◌}
use Rattle.uni_model.specs.AtomicObject.{points}

pub points-append : {I R : Type 0} (xs ys : List (Act I R)) → points (xs ++ ys) ≡ points xs ++ points ys
points-append [] ys = refl
points-append (Linearize c ∷ xs) ys = ap (λ l. c ∷ l) (points-append xs ys)
points-append (Invoke p k i ∷ xs) ys = points-append xs ys
points-append (Respond p k r ∷ xs) ys = points-append xs ys

module _ {S I R : Type 0} (object : Sequential S I R) where
  -- the atomic object agrees on the calls that take effect, in their order
  pub agreed-along : (a b : Atomic S I) (acts : List (Act I R)) → AcceptsAll object a acts b → b.agreed ≡ a.agreed ++ points acts
  agreed-along a b [] h = ap (λ (x : Atomic S I). x.agreed) h ∙ sym (append-nil a.agreed)
  agreed-along a b (Invoke p k i ∷ acts) h = agreed-along h.0 b acts h.2 ∙ ap (λ (x : Atomic S I). x.agreed ++ points acts) h.1.2
  agreed-along a b (Linearize c ∷ acts) h = agreed-along h.0 b acts h.2 ∙ ap (λ (x : Atomic S I). x.agreed ++ points acts) h.1.2 ∙ append_assoc a.agreed (c ∷ []) (points acts)
  agreed-along a b (Respond p k r ∷ acts) h = agreed-along h.0 b acts h.2 ∙ ap (λ (x : Atomic S I). x.agreed ++ points acts) h.1.1
