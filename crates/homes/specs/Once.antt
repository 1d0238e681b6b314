-- A list without repetition: its entries are different numbers, and below any bound on them just so many numbers are listed.
use Rattle.std.specs.Prelude.{◌≡◌, refl, true, false, ℕ, zero, suc, ◌+◌, ◌≤◌, ◌<◌, eqb}
use Rattle.std.proofs.Common.{sym, ap, ◌∙◌, arith, eqb-true, eq-eqb, ne_eqb}
use Rattle.lists.specs.Pick.{pick, bit, pick_true, pick-false, equal_or_not, below_or_not}
use Rattle.lists.specs.Count.{count, count-two, count_none, count-one}
use Rattle.lists.specs.Search.{any, lowest, lowest_is}
use Rattle.homes.specs.Listed.{listed, listed_same, unlisted, unlisted_of}

-- none of the first j entries stands at a place before
abbrev pub Once : (ℕ → ℕ) → ℕ → Type 0
Once e j = (i : ℕ) → i < j → listed e i (e i) ≡ false

pub once_differ : (e : ℕ → ℕ) (j : ℕ) → Once e j → (i l : ℕ) → i < j → l < j → e i ≡ e l → i ≡ l
once_differ e j o i l hi hl q =
    equal_or_not i l (λ (z : i ≡ l). z)
    (λ (n : i ≡ l → ⊥).
    below_or_not i l
    (λ (b : i < l). absurd (unlisted e l (e l) (o l hl) i b q))
    (λ (b : l ≤ i). absurd (unlisted e i (e i) (o i hi) l (omega arith) (sym q))))

pub differ_once : (e : ℕ → ℕ) (j : ℕ) → ((i l : ℕ) → i < j → l < j → e i ≡ e l → i ≡ l) → Once e j
differ_once e j d i h = unlisted_of e i (e i) (λ l b q. let z : l ≡ i = d l i (omega arith) h q in absurd (omega arith))

-- where a number that is listed stands first
abbrev pub place_in : (ℕ → ℕ) → ℕ → ℕ → ℕ
place_in e j t = lowest (λ i. eqb (e i) t) j

pub listed_where : (e : ℕ → ℕ) (j t : ℕ) → listed e j t ≡ true → (place_in e j t < j) × (e (place_in e j t) ≡ t)
unfolding listed
listed_where e j t h = let r = lowest_is (λ i. eqb (e i) t) j h in (r.0, eqb-true _ t r.1)

-- ---- how many numbers are listed

-- the list with t at its end
pub listed_more : (e e' : ℕ → ℕ) (k t : ℕ) → ((i : ℕ) → i < k → e' i ≡ e i) → e' k ≡ t → listed e k t ≡ false
    → (x : ℕ) → bit (listed e' (suc k) x) ≡ bit (listed e k x) + bit (eqb x t)
unfolding listed any
listed_more e e' k t same last new x =
    equal_or_not x t
    (λ (q : x ≡ t).
    let before : bit (any (λ i. eqb (e i) x) k) ≡ 0 = ap bit (ap (listed e k) q ∙ new) in
    let on : bit (eqb x t) ≡ 1 = ap bit (eq-eqb x t q) in
    let after : bit (pick (eqb (e' k) x) true (any (λ i. eqb (e' i) x) k)) ≡ 1 = ap bit (pick_true (eqb (e' k) x) true _ (eq-eqb (e' k) x (last ∙ sym q))) in
    omega arith)
    (λ (ne : x ≡ t → ⊥).
    let off : bit (eqb x t) ≡ 0 = ap bit (ne_eqb x t ne) in
    let after : bit (pick (eqb (e' k) x) true (any (λ i. eqb (e' i) x) k)) ≡ bit (any (λ i. eqb (e i) x) k) =
    ap bit (pick-false (eqb (e' k) x) true _ (ne_eqb (e' k) x (λ (z : e' k ≡ x). ne (sym z ∙ last))) ∙ listed_same e' e k x same) in
    omega arith)

pub count-listed : (e : ℕ → ℕ) (j n : ℕ) → ((i : ℕ) → i < j → e i < n) → Once e j → count (listed e j) n ≡ j
count-listed e zero n b o = count_none (listed e zero) n (λ k h. unfold listed in unfold any in refl)
count-listed e (suc j) n b o =
    count-two (listed e (suc j)) (listed e j) (λ t. eqb t (e j)) n (λ t h. listed_more e e j (e j) (λ i l. refl) refl (o j (omega arith)) t)
    ∙ (λ z. count-listed e j n (λ i h. b i (omega arith)) (λ i h. o i (omega arith)) z + count-one (e j) n (b j (omega arith)) z)
    ∙ (let z : j + 1 ≡ suc j = omega arith in z)
