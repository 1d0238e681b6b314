-- The equations for the lost data units ks, from the parity units is, one for each: padded with the identity to three.
use Rattle.std.specs.Prelude.{◌≡◌, List, [], ◌∷◌, ℕ, ◌<◌, ◌≤◌, length, get_or}
use Rattle.std.proofs.Common.{le_trans, arith, lit<, lit≤}
use Rattle.std.proofs.Math.Path.{subst⁻¹}
use Rattle.systems.specs.Coef.{coef, coef-lt}
use Rattle.systems.proofs.CoefLaws.{coef_pos, coef_2, coef_3}
use Rattle.systems.specs.Cramer.{cof, det}
use Rattle.systems.specs.System.{system_entry, sys, Rising, pad_1, pad_2}

pub regular : (is ks : List ℕ) → Rising is 3 → Rising ks 16 → length ks ≤ length is → 0 < det (sys is ks)
unfolding system_entry det cof
regular is [] ri rk h = subst⁻¹ (λ (x : ℕ). 0 < x) (pad_1 1 (lit< tt)) (lit< tt)
regular is (a ∷ []) ri rk h =
    subst⁻¹ (λ (x : ℕ). 0 < x) (pad_1 (coef (get_or is 0 0) a) (coef-lt (get_or is 0 0) a))
    (coef_pos (get_or is 0 0) a (ri.bound 0 h) (rk.bound 0 (lit< tt)))
regular is (a ∷ b ∷ []) ri rk h =
    let i = get_or is 0 0 in
    let k = get_or is 1 0 in
    subst⁻¹ (λ (x : ℕ). 0 < x) (pad_2 (coef i a) (coef i b) (coef k a) (coef k b) (coef-lt i a) (coef-lt i b) (coef-lt k a) (coef-lt k b))
    (coef_2 i k a b (ri.rises 0 1 (lit< tt) h) (ri.bound 1 h) (rk.rises 0 1 (lit< tt) (lit< tt)) (rk.bound 1 (lit< tt)))
regular is (a ∷ b ∷ c ∷ []) ri rk h =
    let i = get_or is 0 0 in
    let k = get_or is 1 0 in
    let l = get_or is 2 0 in
    let ik : i < k = ri.rises 0 1 (lit< tt) (le_trans (lit≤ tt) h) in
    let kl : k < l = ri.rises 1 2 (lit< tt) h in
    let l3 : l < 3 = ri.bound 2 h in
    let ei : i ≡ 0 = omega arith in
    let ek : k ≡ 1 = omega arith in
    let el : l ≡ 2 = omega arith in
    rw (ei, ek, el) (coef_3 a b c (rk.rises 0 1 (lit< tt) (lit< tt)) (rk.rises 1 2 (lit< tt) (lit< tt)) (rk.bound 2 (lit< tt)))
regular is (a ∷ b ∷ c ∷ d ∷ ks) ri rk h =
    absurd
    (let h4 : 4 ≤ length is = omega arith in
    let e1 : get_or is 0 0 < get_or is 1 0 = ri.rises 0 1 (lit< tt) (omega arith) in
    let e2 : get_or is 1 0 < get_or is 2 0 = ri.rises 1 2 (lit< tt) (omega arith) in
    let e3 : get_or is 2 0 < get_or is 3 0 = ri.rises 2 3 (lit< tt) (omega arith) in
    let e4 : get_or is 3 0 < 3 = ri.bound 3 (omega arith) in
    omega arith)
