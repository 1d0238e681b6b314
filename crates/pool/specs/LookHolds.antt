-- The two steps of a look show what encoding the file puts into the content, also where it is missing.
use Rattle.std.specs.Prelude.{◌≡◌, true, false, List, [], ℕ, ◌+◌, ◌-◌, ◌<◌, length, take, drop}
use Rattle.std.proofs.Common.{sym, ap, ◌∙◌, ⊎_elim, add_assoc, zero-add, arith}
use Rattle.lists.specs.Pick.{pick, pick_true, pick-false, either_way}
use Rattle.lists.specs.Tabulate.{at, tabulate, zeros, length-tabulate, tabulate_ext, part_tabulated}
use Rattle.lists.specs.Refusal.{grant_yes, grant-either}
use Rattle.numbers.specs.declared.Layout.{Layout}
use Rattle.numbers.specs.Layouts.{all_groups, contents, image_length}
use Rattle.place.specs.Bytes.{spot_of}
use Rattle.homes.specs.declared.Record.{Record}
use Rattle.homes.specs.Missing.{missing}
use Rattle.pool.specs.Contents.{home_spot, stored, content_byte}
use Rattle.pool.specs.Refusals.{look_refusal}
use Rattle.pool.specs.Looking.{look_scratch, look_shown}
use Rattle.pool.specs.Files.{encoded}
use Rattle.pool.specs.Asked.{Sound, look_asked}
use Rattle.pool.specs.Holds.{Holds, home-spot-lt, content_holds}

pub scratch_length : (y : Layout) (R : Record) (img : List ℕ) (room g c : ℕ) → length (look_scratch y R img room g c) ≡ room
unfolding look_scratch
scratch_length y R img room g c =
    grant-either (look_refusal y R (length img) room g c) (tabulate room (λ o. pick (missing y R g c) (content_byte y R img g o c) 0)) (zeros room)
    (λ (l : List ℕ). length l ≡ room) (λ z. length-tabulate room _) (λ z. length-tabulate room _)

-- byte o of a unit is o bytes after its first
home-spot-add : (y : Layout) (R : Record) (g o c : ℕ) → home_spot y R g 0 c + o ≡ home_spot y R g o c
unfolding spot_of
home-spot-add y R g o c = add_assoc _ 0 o ∙ ap (◌+◌ _) (zero-add o)

-- the unit at a present content's home, as a part of the image
pub part-stored : (y : Layout) (R : Record) (img : List ℕ) → Sound y R (length img) → (g c : ℕ) → g < all_groups y → c < contents y
    → take y.u (drop (home_spot y R g 0 c) img) ≡ tabulate y.u (λ o. stored y R img g o c)
unfolding stored
part-stored y R img s g c hg hc =
    let u = s.valid.some_bytes in
    let last : home_spot y R g (y.u - 1) c < image_length y = home-spot-lt y R s.valid s.good g (y.u - 1) c hg (omega arith) hc in
    part_tabulated y.u (home_spot y R g 0 c) img (omega (arith, home-spot-add y R g (y.u - 1) c, s.len_is))
    ∙ tabulate_ext 0 y.u _ _ (λ o h. ap (at img) (home-spot-add y R g o c))

pub scratch_is : (y : Layout) (R : Record) (img : List ℕ) (room g c : ℕ) → look_refusal y R (length img) room g c ≡ 0
    → look_scratch y R img room g c ≡ tabulate y.u (λ o. pick (missing y R g c) (content_byte y R img g o c) 0)
unfolding look_scratch
scratch_is y R img room g c z =
    grant_yes (look_refusal y R (length img) room g c) _ (zeros room) z
    ∙ ap (λ (n : ℕ). tabulate n (λ o. pick (missing y R g c) (content_byte y R img g o c) 0)) (look_asked y R (length img) room g c z).room_is

-- on any image, the two steps show the content
pub look_shows : (y : Layout) (R : Record) (img : List ℕ) (room g c : ℕ) → look_refusal y R (length img) room g c ≡ 0
    → look_shown y R img (look_scratch y R img room g c) g c ≡ tabulate y.u (λ o. pick (missing y R g c) (content_byte y R img g o c) (stored y R img g o c))
unfolding look_shown
look_shows y R img room g c z =
    let a = look_asked y R (length img) room g c z in
    grant_yes (look_refusal y R (length img) (length scratch) g c) _ [] (ap (λ (n : ℕ). look_refusal y R (length img) n g c) (scratch_length y R img room g c) ∙ z)
    ∙ ⊎_elim
    (λ (m : missing y R g c ≡ true).
    pick_true (missing y R g c) scratch whole m ∙ scratch_is y R img room g c z
    ∙ tabulate_ext 0 y.u _ _ (λ o h. pick_true (missing y R g c) _ _ m ∙ sym (pick_true (missing y R g c) _ _ m)))
    (λ (m : missing y R g c ≡ false).
    pick-false (missing y R g c) scratch whole m ∙ part-stored y R img a.sound g c a.group_lt a.content-lt
    ∙ tabulate_ext 0 y.u _ _ (λ o h. sym (pick-false (missing y R g c) _ _ m)))
    (either_way (missing y R g c))
  where
    scratch : List ℕ
    scratch = look_scratch y R img room g c

    whole : List ℕ
    whole = take y.u (drop (home_spot y R g 0 c) img)

pub look_right : (y : Layout) (R : Record) (img file : List ℕ) → Holds y R img file → (room g c : ℕ) → look_refusal y R (length img) room g c ≡ 0
    → look_shown y R img (look_scratch y R img room g c) g c ≡ tabulate y.u (λ o. encoded y file g o c)
look_right y R img file k room g c z =
    let a = look_asked y R (length img) room g c z in
    look_shows y R img room g c z
    ∙ tabulate_ext 0 y.u _ _
    (λ o h.
    ⊎_elim
    (λ (m : missing y R g c ≡ true).
    pick_true (missing y R g c) _ _ m ∙ content_holds y R img file a.sound.valid a.sound.good k g o c a.group_lt h a.content-lt)
    (λ (m : missing y R g c ≡ false). pick-false (missing y R g c) _ _ m ∙ k.present g o c a.group_lt h a.content-lt m)
    (either_way (missing y R g c)))
