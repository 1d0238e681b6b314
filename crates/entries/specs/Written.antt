-- The cobs of a run of records, written one by one, and what that leaves, said with lists.
use Rattle.std.specs.Prelude.{◌≡◌, ℕ, zero, suc, ◌+◌, ◌-◌, ◌≤◌, get_or, set, take, drop, replicate}
use Rattle.std.proofs.Math.Path.{refl, sym, ap}
use Rattle.std.proofs.Common.{◌∙◌, arith, length-drop, length-take-le, take-suc, drop-cons, get_or-drop}
use mathlib.Core.List.{List, [], ◌∷◌, ◌++◌, map, append_assoc}
use Rattle.std.proofs.Math.ListN.{length, length-map, get_or-map}
use Rattle.std.proofs.lemmas.List.{set_at}
use Rattle.entries.specs.declared.Wide.{Wide}
use Rattle.entries.specs.declared.Entry.{Entry}
use Rattle.entries.specs.Wide.{nought}
use Rattle.entries.specs.Blank.{blank}

abbrev record_cob : Entry → Wide
record_cob r = r.cob

-- out, with the cobs of m records of ys from f on in its first m places
unfoldable pub listed : ℕ → ℕ → List Entry → List Wide → List Wide
listed zero f ys out = out
listed (suc m) f ys out = set (listed m f ys out) m (get_or ys (f + m) blank).cob

-- out, with zeros in its first m places
abbrev pub wiped : ℕ → List Wide → List Wide
wiped m out = replicate m nought ++ drop m out

-- ---- the loop over the cobs, said with lists
pub listed-step : (m f : ℕ) (ys : List Entry) (os zs : List Wide) → f + suc m ≤ length ys → suc m ≤ length os
    → zs ≡ take m (map record_cob (drop f ys)) ++ drop m os
    → set zs m (get_or ys (f + m) blank).cob ≡ take (suc m) (map record_cob (drop f ys)) ++ drop (suc m) os
listed-step m f ys os zs h l e =
    ap (λ (t : List Wide). set t m c) (e ∙ ap (λ (t : List Wide). front ++ t) (drop-cons os m nought l))
    ∙ set_at front (get_or os m nought) (drop (suc m) os) c m (length-take-le m all (omega (arith, size)))
    ∙ sym (ap (λ (t : List Wide). t ++ drop (suc m) os) (take-suc all m nought (omega (arith, size)) ∙ ap (λ (w : Wide). front ++ (w ∷ []))
    (get_or-map record_cob (drop f ys) m blank ∙ ap record_cob (get_or-drop f ys m blank))) ∙ append_assoc front (c ∷ []) (drop (suc m) os))
  where
    all : List Wide
    all = map record_cob (drop f ys)

    front : List Wide
    front = take m all

    c : Wide
    c = (get_or ys (f + m) blank).cob

    size : length all ≡ length ys - f
    size = length-map (drop f ys) record_cob ∙ length-drop f ys

pub listed_is : (m f : ℕ) (ys : List Entry) (os : List Wide) → f + m ≤ length ys → m ≤ length os
    → listed m f ys os ≡ take m (map record_cob (drop f ys)) ++ drop m os
unfolding listed
listed_is zero f ys os h l = refl
listed_is (suc m) f ys os h l = listed-step m f ys os (listed m f ys os) h l (listed_is m f ys os (omega arith) (omega arith))
