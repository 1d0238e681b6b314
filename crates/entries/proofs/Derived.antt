-- The comparisons of wide numbers and keys, and the derived ones too, are those of the definitions: each field in turn, the first that differs
-- decides.
use Rattle.std.specs.Prelude.{◌≡◌, refl, ℕ, ◌<◌, ◌≤◌, Bool, true, false, ltb, eqb, ◌&&◌, ◌||◌, not, Option, Some, None}
use Rattle.std.proofs.Common.{ap, ◌∙◌, arith, lt-ltb, le-ltb, eq-eqb, ne_eqb}
use Rattle.std.specs.Ordering.{partial_ordering_then, nat_cmp, is_some_and, is_lt}
use Rattle.std.specs.declared.cmp.Ordering.{Ordering}
use Rattle.std.specs.Option.{MatchOption}
use Rattle.lists.specs.Pick.{pick, both, clash, below_or_not}
use Rattle.entries.specs.declared.Wide.{Wide}
use Rattle.entries.specs.declared.Key.{Key}
use Rattle.entries.specs.Wide.{wide_lt, wide_eq}
use Rattle.entries.specs.Key.{key_lt, key_eq}
use Rattle.entries.specs.Plans.{has_cob}

-- a number, and then what is compared after it
in_turn : (a b : ℕ) (o : Option Ordering) (t : Bool) → is_some_and is_lt o ≡ t
    → is_some_and is_lt (partial_ordering_then (Some (nat_cmp a b)) o) ≡ pick (ltb a b) true (pick (ltb b a) false t)
in_turn a b o t e = below_or_not a b less more
  where
    less : a < b → is_some_and is_lt (partial_ordering_then (Some (nat_cmp a b)) o) ≡ pick (ltb a b) true (pick (ltb b a) false t)
    less l = simp (lt-ltb a b l)

    more : b ≤ a → is_some_and is_lt (partial_ordering_then (Some (nat_cmp a b)) o) ≡ pick (ltb a b) true (pick (ltb b a) false t)
    more m =
        below_or_not b a (λ (l : b < a). simp (le-ltb a b m, lt-ltb b a l, ne_eqb a b (λ q. omega (arith, q))))
        (λ (l : a ≤ b). simp (le-ltb a b m, le-ltb b a l, eq-eqb a b (omega arith)) e)

last_word : (a b : ℕ) → is_some_and is_lt (Some (nat_cmp a b)) ≡ ltb a b
last_word a b = below_or_not a b (λ (l : a < b). simp (lt-ltb a b l)) more
  where
    more : b ≤ a → is_some_and is_lt (Some (nat_cmp a b)) ≡ ltb a b
    more m =
        below_or_not b a (λ (l : b < a). simp (le-ltb a b m, ne_eqb a b (λ q. omega (arith, q))))
        (λ (l : a ≤ b). simp (le-ltb a b m, eq-eqb a b (omega arith)))

pub wide_order : (a b : Wide) → is_some_and is_lt (partial_ordering_then (Some (nat_cmp a.first b.first)) (Some (nat_cmp a.second b.second))) ≡ wide_lt a b
unfolding wide_lt
wide_order a b = in_turn a.first b.first (Some (nat_cmp a.second b.second)) (ltb a.second b.second) (last_word a.second b.second)

pub key_order : (a b : Key)
    → is_some_and is_lt (partial_ordering_then (Some (nat_cmp a.device b.device))
    (partial_ordering_then (Some (nat_cmp a.file.first b.file.first)) (Some (nat_cmp a.file.second b.file.second)))) ≡ key_lt a b
unfolding key_lt
key_order a b =
    in_turn a.device b.device (partial_ordering_then (Some (nat_cmp a.file.first b.file.first)) (Some (nat_cmp a.file.second b.file.second)))
    (wide_lt a.file b.file) (wide_order a.file b.file)

both_are : (a b : Bool) → a && b ≡ both a b
both_are true b = refl
both_are false b = refl

pub wide_equality : (a b : Wide) → eqb a.first b.first && eqb a.second b.second ≡ wide_eq a b
unfolding wide_eq
wide_equality a b = both_are (eqb a.first b.first) (eqb a.second b.second)

pub key_equality : (a b : Key) → eqb a.device b.device && (eqb a.file.first b.file.first && eqb a.file.second b.file.second) ≡ key_eq a b
unfolding key_eq
key_equality a b = ap (λ (t : Bool). eqb a.device b.device && t) (wide_equality a.file b.file) ∙ both_are (eqb a.device b.device) (wide_eq a.file b.file)

-- ---- a number, and then what is compared after it, with no test between them

no_test : (a b : ℕ) (t : Bool) → ltb a b || (eqb a b && t) ≡ pick (ltb a b) true (pick (ltb b a) false t)
no_test a b t = below_or_not a b less more
  where
    less : a < b → ltb a b || (eqb a b && t) ≡ pick (ltb a b) true (pick (ltb b a) false t)
    less l = simp (lt-ltb a b l)

    more : b ≤ a → ltb a b || (eqb a b && t) ≡ pick (ltb a b) true (pick (ltb b a) false t)
    more m =
        below_or_not b a (λ (l : b < a). simp (le-ltb a b m, lt-ltb b a l, ne_eqb a b (λ q. omega (arith, q))))
        (λ (l : a ≤ b). simp (le-ltb a b m, le-ltb b a l, eq-eqb a b (omega arith)))

pub wide_below : (a b : Wide) → ltb a.first b.first || (eqb a.first b.first && ltb a.second b.second) ≡ wide_lt a b
unfolding wide_lt
wide_below a b = no_test a.first b.first (ltb a.second b.second)

pub key_below : (a b : Key) {t : Bool} → t ≡ wide_lt a.file b.file → ltb a.device b.device || (eqb a.device b.device && t) ≡ key_lt a b
unfolding key_lt
key_below a b {t} e = no_test a.device b.device t ∙ ap (λ (u : Bool). pick (ltb a.device b.device) true (pick (ltb b.device a.device) false u)) e

-- whether the cob that was found is c, as `is_some_and` answers it
pub found_equality : (o : Option Wide) (c : Wide) {t : Bool} {P : Wide → Type 0} → MatchOption o (t ≡ false) P
    → ((w : Wide) → P w → t ≡ wide_eq w c) → t ≡ has_cob o c
found_equality (Some w) c e h = h w e
found_equality None c e h = e

-- ---- what the opposite of a test says of it

pub off : (t : Bool) → not t ≡ true → t ≡ false
off true e = clash false e refl
off false e = refl

pub on : (t : Bool) → not t ≡ false → t ≡ true
on true e = refl
on false e = clash true refl e
