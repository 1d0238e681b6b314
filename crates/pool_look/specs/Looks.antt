-- What the two steps of a look find, once nothing is refused and the group's plan is in hand.
use Rattle.std.specs.Prelude.{◌≡◌, Bool, take, drop}
use Rattle.std.proofs.Math.Path.{refl, sym, ap, subst⁻¹}
use Rattle.std.proofs.Common.{◌∙◌}
use Rattle.std.proofs.Math.Bool.{true, false}
use mathlib.Core.List.{List, []}
use Prim.Native.Nat.{ℕ, zero, suc, ◌+◌, ◌-◌, ◌≤◌, ◌<◌}
use native.Mathlib.Omega.{arith}
use Rattle.std.proofs.Math.ListN.{length, get_or}
use Rattle.lists.specs.Pick.{pick, pick_true, pick-false, equal_or_not}
use Rattle.lists.specs.Refusal.{grant, grant_no}
use Rattle.lists.specs.Tabulate.{tabulate, zeros, length-tabulate, tabulated, tabulate_ext}
use Rattle.numbers.specs.declared.Layout.{Layout}
use Rattle.homes.specs.declared.Record.{Record}
use Rattle.place.specs.Bytes.{spot}
use Rattle.place.specs.ByteLaws.{spot_in}
use Rattle.homes.specs.Missing.{home, missing}
use Rattle.homes.proofs.MissingLaws.{home-lt}
use Rattle.pool.specs.Contents.{home_spot, content_byte}
use Rattle.pool.specs.Refusals.{look_refusal}
use Rattle.pool.specs.Looking.{look_shown}
use Rattle.pool.specs.Calls.{Shows}
use Rattle.pool.specs.Asked.{LookAsked, look_asked}
use Rattle.pool.specs.Unread.{Alike}
use Rattle.pool.proofs.UnreadLaws.{look_unread, homes_unread, lost_unread}
use Rattle.plan.specs.declared.Plan.{Plan}
use Rattle.plan.specs.Plans.{at_of, miss_of, Fits, held}
use Rattle.runs.specs.Run.{run_set, length-run_set, run_set_in}
use Rattle.runs.specs.Held.{held_run}
use Rattle.survey.specs.Surveyed.{Surveyed, fits, held_is, spot_plus}
use Rattle.pool_look.specs.declared.Shown.{Shown}
use Rattle.pool_look.specs.Shown.{shown_by, shown_at, part_at}

-- the plan serves the image, and the content is one of its contents
module _ (y : Layout) (R : Record) (len room g c : ℕ) (a : LookAsked y R len room g c) where
  pub content-small : c < 19
  content-small = omega (arith, a.content-lt, a.sound.valid.few_data, a.sound.valid.few_parity)

  module _ (P : Plan) (s : Surveyed y R R.q g P) where
    pub plan_fits : Fits P len
    plan_fits =
        let q = a.sound in
        subst⁻¹ (Fits P) q.len_is
        (fits y q.valid R q.good R.q (omega (arith, q.good.mended, q.good.few)) g a.group_lt P s)

    pub content_in : c < P.n + P.k
    content_in = omega (arith, a.content-lt, s.n_is, s.k_is)

module _ (y : Layout) (R : Record) (img : List ℕ) (room g c : ℕ) (a : LookAsked y R (length img) room g c) (P : Plan) (s : Surveyed y R R.q g P) where
  -- a missing content's scratch is the rebuilt unit
  pub rebuilt_scratch : (l l' : List ℕ) → l ≡ zeros room → miss_of P c ≡ true → l' ≡ run_set 0 (length l) (held_run P img 0 c) l
      → l' ≡ tabulate room (λ o. pick (missing y R g c) (content_byte y R img g o c) 0)
  unfolding held_run
  rebuilt_scratch l l' e t d =
      tabulated room _ l' 0 (ap length d ∙ length-run_set 0 (length l) (held_run P img 0 c) l ∙ size)
      (λ o h.
      let from : 0 + o ≡ o = omega arith in
      ap (λ (m : List ℕ). get_or m o 0) d
      ∙ ap (λ (x : ℕ). get_or (run_set 0 (length l) (held_run P img 0 c) l) x 0) (sym from)
      ∙ run_set_in 0 (length l) (held_run P img 0 c) l o (omega (arith, size)) (omega arith)
      ∙ ap (λ (x : ℕ). held P img x c) from
      ∙ held_is y a.sound.valid R a.sound.good g P s img o c a.content-lt
      ∙ sym (pick_true (missing y R g c) _ _ (sym (s.flags_are c a.content-lt) ∙ t)))
    where
      size : length l ≡ room
      size = ap length e ∙ length-tabulate room _

  -- another's stays zeros
  pub blank_scratch : miss_of P c ≡ false → zeros room ≡ tabulate room (λ o. pick (missing y R g c) (content_byte y R img g o c) 0)
  blank_scratch t =
      tabulate_ext 0 room _ _ (λ o h. sym (pick-false (missing y R g c) _ _ (sym (s.flags_are c a.content-lt) ∙ t)))

-- the place that is answered, from what the plan says
pub located : (y : Layout) (R : Record) (len room g c : ℕ) → LookAsked y R len room g c → (P : Plan) → Surveyed y R R.q g P → (n : ℕ) → n ≡ 0
    → (b : Bool) (from : ℕ) → miss_of P c ≡ b → from ≡ pick b 0 (at_of P c)
    → ◌≡◌ {A = Shown} (record { refusal = 0; missing = b; begins = from; length = P.u }) (shown_by y R g c n)
located y R len room g c a P s n e b from t f =
    (λ i. record { refusal = 0; missing = is i; begins = starts i; length = s.u_is i }) ∙ sym (ap (shown_by y R g c) e)
  where
    is : b ≡ missing y R g c
    is = sym t ∙ s.flags_are c a.content-lt

    starts : from ≡ pick (missing y R g c) 0 (home_spot y R g 0 c)
    starts = f ∙ (λ i. pick (is i) 0 (s.at_is c a.content-lt i))

-- ---- the part at the place that is answered

module _ (y : Layout) (R : Record) (len room g c : ℕ) where
  -- lies in the image
  pub shown-inside : (shown_at y R len room g c).begins + (shown_at y R len room g c).length ≤ len
  unfolding shown_at
  shown-inside = inside (look_refusal y R len room g c) refl
    where
      unit_inside : LookAsked y R len room g c → home_spot y R g 0 c + y.u ≤ len
      unit_inside a =
          let v = a.sound.valid in
          let good = a.sound.good in
          let few : R.q ≤ y.k = omega (arith, good.mended, good.few) in
          let last = spot_in y v g (home y R R.q g c) (y.u - 1) a.group_lt (home-lt y v R g R.q few c a.content-lt) (omega (arith, v.some_bytes)) in
          omega (arith, last, spot_plus y g (home y R R.q g c) (y.u - 1), v.some_bytes, a.sound.len_is)

      chosen : (b : Bool) (from : ℕ) → from + y.u ≤ len → pick b 0 from + y.u ≤ len
      chosen true from h = omega arith
      chosen false from h = h

      inside : (n : ℕ) → look_refusal y R len room g c ≡ n → (shown_by y R g c n).begins + (shown_by y R g c n).length ≤ len
      inside (suc n) e = omega arith
      inside zero e = chosen (missing y R g c) (home_spot y R g 0 c) (unit_inside (look_asked y R len room g c e))

  pub shown_refusal : (shown_at y R len room g c).refusal ≡ look_refusal y R len room g c
  unfolding shown_at
  shown_refusal = numbered (look_refusal y R len room g c)
    where
      numbered : (n : ℕ) → (shown_by y R g c n).refusal ≡ n
      numbered zero = refl
      numbered (suc n) = refl

-- it depends on the record as the calls of the pool do: entries from k on are never read
pub locate_unread : (y : Layout) (R R' : Record) → Alike R R' → (len room g c : ℕ) → shown_at y R len room g c ≡ shown_at y R' len room g c
unfolding shown_at
locate_unread y R R' alike len room g c =
    equal_or_not (look_refusal y R len room g c) 0
    (λ (z : look_refusal y R len room g c ≡ 0).
    let le = (look_asked y R len room g c z).sound.good.mended in
    ap (shown_by y R g c) z
    ∙ (λ i. record {
      refusal = 0;
      missing = lost_unread y R R' alike le i g c;
      begins = pick (lost_unread y R R' alike le i g c) 0 (spot y g (homes_unread y R R' alike le i g c) 0);
      length = y.u;
    })
    ∙ ap (shown_by y R' g c) (sym z ∙ look_unread y R R' alike len room g c))
    (λ (never : look_refusal y R len room g c ≡ 0 → ⊥).
    grant_no (look_refusal y R len room g c) _ _ never
    ∙ ap (λ (n : ℕ). record { refusal = n; missing = false; begins = 0; length = 0 }) (look_unread y R R' alike len room g c)
    ∙ sym (grant_no (look_refusal y R' len room g c) _ _ (λ (z : look_refusal y R' len room g c ≡ 0). never (look_unread y R R' alike len room g c ∙ z))))

module _ (y : Layout) (R : Record) (img scratch : List ℕ) (g c : ℕ) where
  -- and is what document 01 shows
  pub shown-part : part_at (shown_at y R (length img) (length scratch) g c) img scratch ≡ look_shown y R img scratch g c
  unfolding shown_at look_shown
  shown-part = part (look_refusal y R (length img) (length scratch) g c)
    where
      chosen : (b : Bool) → pick b scratch (take y.u (drop (pick b 0 (home_spot y R g 0 c)) img)) ≡ pick b scratch (take y.u (drop (home_spot y R g 0 c) img))
      chosen true = refl
      chosen false = refl

      part : (n : ℕ) → part_at (shown_by y R g c n) img scratch ≡ grant n (pick (missing y R g c) scratch (take y.u (drop (home_spot y R g 0 c) img))) []
      part zero = chosen (missing y R g c)
      part (suc n) = refl

  -- so that a call that shows it meets its promise
  module _ (x : Shown) (e : x ≡ shown_at y R (length img) (length scratch) g c) where
    answered : x.refusal ≡ look_refusal y R (length img) (length scratch) g c
    answered = ap (λ (z : Shown). z.refusal) e ∙ shown_refusal y R (length img) (length scratch) g c

    part-shown : part_at x img scratch ≡ look_shown y R img scratch g c
    part-shown = ap (λ (z : Shown). part_at z img scratch) e ∙ shown-part

    pub part-inside : x.begins + x.length ≤ length img
    part-inside = subst⁻¹ (λ (z : Shown). z.begins + z.length ≤ length img) e (shown-inside y R (length img) (length scratch) g c)

    pub shows_scratch : x.missing ≡ true → Shows y R img scratch g c x.refusal scratch
    shows_scratch t = record { answer = answered; bytes = sym (pick_true x.missing _ _ t) ∙ part-shown }

    pub shows_image : x.missing ≡ false → Shows y R img scratch g c x.refusal (take (x.begins + x.length - x.begins) (drop x.begins img))
    shows_image t =
        let size : x.begins + x.length - x.begins ≡ x.length = omega arith in
        record {
          answer = answered;
          bytes = ap (λ (m : ℕ). take m (drop x.begins img)) size ∙ sym (pick-false x.missing _ _ t) ∙ part-shown;
        }
