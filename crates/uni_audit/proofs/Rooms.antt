-- The room of the rows of an audit.
use Rattle.uni_audit.proofs.Vocabulary.{List, [], arith, match_ordering, sum_by, sum_by-cons, ℕ, ◌+◌, ◌∷◌, ◌≡◌, ◌≤◌}
use Rattle.std.specs.BTreeMap.{insert_entry}
use Rattle.std.specs.Map.{values_of}
use Rattle.std.specs.declared.cmp.Ordering.{Ordering}
use Rattle.std.specs.declared.cmp.Ordering.TheVariants.{Less, Equal, Greater}

-- a value that is put at a key adds no more to a sum over the values than it has itself
pub sum_by-insert_entry : {K X : Type 0} (f : X → ℕ) (cmp : K → K → Ordering) (es : List (K × X)) (k : K) (v : X)
    → sum_by f (values_of (insert_entry cmp es k v)) ≤ sum_by f (values_of es) + f v
sum_by-insert_entry f cmp [] k v = let one = sum_by-cons f v [] in omega arith
sum_by-insert_entry {K} {X} f cmp (e ∷ es) k v =
    by_order (cmp k e.0) (sum_by-cons f e.1 (values_of es)) (sum_by-insert_entry f cmp es k v) where
      by_order : (o : Ordering) → sum_by f (values_of (e ∷ es)) ≡ f e.1 + sum_by f (values_of es)
          → sum_by f (values_of (insert_entry cmp es k v)) ≤ sum_by f (values_of es) + f v
          → sum_by f (values_of (match_ordering o ((k, v) ∷ e ∷ es) ((e.0, v) ∷ es) (e ∷ insert_entry cmp es k v)))
          ≤ sum_by f (values_of (e ∷ es)) + f v
      by_order Less old rest = let new = sum_by-cons f v (e.1 ∷ values_of es) in omega arith
      by_order Equal old rest = let new = sum_by-cons f v (values_of es) in omega arith
      by_order Greater old rest = let new = sum_by-cons f e.1 (values_of (insert_entry cmp es k v)) in omega arith
