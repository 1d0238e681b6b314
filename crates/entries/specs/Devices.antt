-- The records of a device: a search past the whole device goes past the keys below k, and past the records that a listing from k on shows.
use Rattle.std.specs.Prelude.{◌≡◌, ◌+◌, ◌≤◌, ◌<◌, Bool, true, false, not, List, [], ◌∷◌, leb, length}
use Rattle.std.proofs.Common.{sym, subst, arith, le-leb, lt-ltb, le-ltb, eq-eqb, ne_eqb}
use Rattle.std.proofs.lemmas.Bool.{lt-leb}
use Rattle.lists.specs.Pick.{pick, below_or_not}
use Rattle.entries.specs.declared.Entry.{Entry}
use Rattle.entries.specs.declared.Key.{Key}
use Rattle.entries.specs.Wide.{wide_lt}
use Rattle.entries.specs.Key.{key_of, key_lt, listable}
use Rattle.entries.specs.Catalogue.{before, onward}
use Rattle.entries.specs.Span.{past_count}

-- the three tests of a key: on an earlier device than k, on the same one, on a later one
data Side : Bool → Bool → Bool → Type 0 where
  earlier : Side true true false
  same : (t : Bool) → Side true t (not t)
  later : Side false false false

abbrev Sided : Key → Key → Type 0
Sided k a = Side (leb a.device k.device) (key_lt a k) (listable k a)

put : {s t u : Bool} {s' t' u' : Bool} → s ≡ s' → t ≡ t' → u ≡ u' → Side s' t' u' → Side s t u
put {s} {t} {u} {s'} {t'} {u'} e f g x =
    subst (λ (b : Bool). Side b t u) (sym e) (subst (λ (b : Bool). Side s' b u) (sym f) (subst (λ (b : Bool). Side s' t' b) (sym g) x))

side : (k a : Key) → Sided k a
unfolding key_lt listable
side k a = below_or_not a.device k.device less more
  where
    less : a.device < k.device → Sided k a
    less l =
        put (le-leb a.device k.device (omega arith)) (simp (lt-ltb a.device k.device l))
        (simp (ne_eqb a.device k.device (λ e. omega (arith, e)))) earlier

    beyond : k.device < a.device → Sided k a
    beyond m =
        put (lt-leb a.device k.device m) (simp (le-ltb a.device k.device (omega arith), lt-ltb k.device a.device m))
        (simp (ne_eqb a.device k.device (λ e. omega (arith, e)))) later

    here : k.device ≤ a.device → a.device ≤ k.device → Sided k a
    here l m =
        put (le-leb a.device k.device m) (simp (le-ltb a.device k.device l, le-ltb k.device a.device m))
        (simp (eq-eqb a.device k.device (omega arith))) (same (wide_lt a.file k.file))

    more : k.device ≤ a.device → Sided k a
    more l = below_or_not k.device a.device beyond (here l)

-- so a record counts once, or not at all
once : {s t u : Bool} → Side s t u → (r : Entry) (ps qs rs : List Entry) → length ps ≡ length qs + length rs
    → length (pick s (r ∷ ps) ps) ≡ length (pick t (r ∷ qs) qs) + length (pick u (r ∷ rs) rs)
once earlier r ps qs rs e = omega arith
once (same true) r ps qs rs e = omega arith
once (same false) r ps qs rs e = omega arith
once later r ps qs rs e = e

pub past_whole : (k : Key) (xs : List Entry) → past_count k true xs ≡ length (before k xs) + length (onward k xs)
past_whole k [] = omega arith
past_whole k (x ∷ xs) = once (side k (key_of x)) x _ (before k xs) (onward k xs) (past_whole k xs)
