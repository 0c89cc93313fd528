use Rattle.uni_small.proofs.Vocabulary.{List, ap, arith, buffer_words, drop, drop-drop, length, sym, take, take-add, ℕ, ◌*◌, ◌++◌, ◌+◌, ◌∙◌, ◌≡◌}
use Rattle.uni_small.proofs.Rows.{joined-rows}
use Rattle.uni_small.proofs.log.SmallShared.take_copy.Goals as goal

-- three rows of words, one after another
three : (n q w : ℕ) (xs : List ℕ) → take n xs ++ (take q (drop n xs) ++ take w (drop (n + q) xs)) ≡ take (n + q + w) xs
three n q w xs =
    let e : n + (q + w) ≡ n + q + w = omega arith in
    let d : drop (n + q) xs ≡ drop q (drop n xs) = sym (drop-drop q n xs) in
    ap (λ ys. take n xs ++ (take q (drop n xs) ++ take w ys)) d
    ∙ ap (λ ys. take n xs ++ ys) (sym (take-add q w (drop n xs)))
    ∙ sym (take-add n (q + w) xs) ∙ ap (λ k. take k xs) e

pub returns-clause-copy : goal.returns-clause-copy
returns-clause-copy g c =
    let sizes = c.args.self.now.setup.sizes in
    let held = c.args.own.now.held.items in
    let n = sizes.processes in
    let q = sizes.processes * sizes.reply in
    let w = sizes.state in
    let f = c.args.which * c.buffer_words.result in
    let a : c.copy_from_slice.new.self.items ≡ take n (drop f held)
    = c.copy_from_slice.ensures.items ∙ ap (λ k. take k (drop f c.deref.result.now)) (omega arith) ∙ ap (λ xs. take n (drop f xs)) c.deref.ensures.value in
    let b : c.copy_from_slice-2.new.self.items ≡ take q (drop n (drop f held))
    = c.copy_from_slice-2.ensures.items ∙ ap (λ k. take k (drop (f + n) c.deref-2.result.now)) (omega arith) ∙ ap (λ xs. take q (drop (f + n) xs)) c.deref-2.ensures.value ∙ ap (take q) (sym (drop-drop n f held)) in
    let d : c.copy_from_slice-3.new.self.items ≡ take w (drop (n + q) (drop f held))
    = c.copy_from_slice-3.ensures.items ∙ ap (λ k. take k (drop (f + n + q) c.deref-3.result.now)) (omega arith) ∙ ap (λ xs. take w (drop (f + n + q) xs)) c.deref-3.ensures.value
    ∙ ap (λ k. take w (drop k held)) (let z : f + n + q ≡ f + (n + q) = omega arith in z) ∙ ap (take w) (sym (drop-drop (n + q) f held)) in
    let long : length c.copy_from_slice-2.new.self.items ≡ sizes.processes * sizes.reply = (let l = c.copy_from_slice-2.ensures.len in let h = c.requires.room.reply in omega arith) in
    let first : drop f held ≡ drop (c.args.which * buffer_words sizes) held = ap (λ k. drop (c.args.which * k) held) c.buffer_words.ensures in
    ap (λ ws. c.copy_from_slice.new.self.items ++ (ws ++ c.copy_from_slice-3.new.self.items)) (joined-rows sizes.processes sizes.reply c.copy_from_slice-2.new.self.items long)
    ∙ (λ i. a i ++ (b i ++ d i)) ∙ three n q w (drop f held) ∙ ap (take (n + q + w)) first
