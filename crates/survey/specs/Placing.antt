-- The bytes of the image by group, content and unit offset, where contents stand at their homes under the first j entries: each byte of a
-- content is found back, and each byte at which some content stands is that content's.
use Rattle.std.specs.Prelude.{◌≡◌, ℕ, ◌+◌, ◌-◌, ◌≤◌, ◌<◌}
use Rattle.std.proofs.Common.{sym, ap, ◌∙◌, arith}
use Rattle.lists.specs.Sweep.{Placed}
use Rattle.numbers.specs.declared.Layout.{Layout}
use Rattle.numbers.specs.Layouts.{Valid, contents, all_groups, image_length}
use Rattle.place.specs.Bytes.{spot, unit_here, offset_here}
use Rattle.place.specs.ByteLaws.{spot_in, group_there, unit_there', offset_there, spot-here, group_here-lt, offset_here-lt}
use Rattle.homes.specs.declared.Record.{Record}
use Rattle.homes.specs.Missing.{home}
use Rattle.homes.proofs.MissingLaws.{home-lt}
use Rattle.pool.specs.Storing.{owner}
use Rattle.pool.specs.StoringLaws.{owner-home, home-owner}
use Rattle.survey.specs.Surveyed.{spot_plus}

-- where content c of group g begins
abbrev pub start_of : Layout → Record → ℕ → ℕ → ℕ → ℕ
start_of y R j g c = spot y g (home y R j g c) 0

-- the group that image byte x belongs to, and the content that stands there (the number of contents where none does)
abbrev pub group_here : Layout → ℕ → ℕ
group_here y x = (unit_here y x).group

abbrev pub content_here : Layout → Record → ℕ → ℕ → ℕ
content_here y R j x = owner y R j (group_here y x) (unit_here y x).unit

module _ (y : Layout) (v : Valid y) (R : Record) (j : ℕ) (le : j ≤ y.k) where
  start-inside : (g c : ℕ) → g < all_groups y → c < contents y → start_of y R j g c + y.u ≤ image_length y
  start-inside g c hg hc =
      let last = spot_in y v g (home y R j g c) (y.u - 1) hg (home-lt y v R g j le c hc) (omega (arith, v.some_bytes)) in
      omega (arith, last, spot_plus y g (home y R j g c) (y.u - 1), v.some_bytes)

  content-there : (x : ℕ) → x < image_length y → content_here y R j x < contents y → x ≡ start_of y R j (group_here y x) (content_here y R j x) + offset_here y x
  content-there x h lt =
      let g = group_here y x in
      let o = offset_here y x in
      sym
      (spot_plus y g (home y R j g (content_here y R j x)) o
      ∙ ap (λ (u : ℕ). spot y g u o) (home-owner y R g j (unit_here y x).unit lt)
      ∙ spot-here y v x h)

  module _ (g c o : ℕ) (hg : g < all_groups y) (hc : c < contents y) (ho : o < y.u) where
    group_found : group_here y (start_of y R j g c + o) ≡ g
    group_found =
        ap (λ (x : ℕ). (unit_here y x).group) (spot_plus y g (home y R j g c) o)
        ∙ group_there y v g (home y R j g c) o hg (home-lt y v R g j le c hc) ho

    unit_found_lem : (unit_here y (start_of y R j g c + o)).unit ≡ home y R j g c
    unit_found_lem =
        ap (λ (x : ℕ). (unit_here y x).unit) (spot_plus y g (home y R j g c) o)
        ∙ unit_there' y v g (home y R j g c) o hg (home-lt y v R g j le c hc) ho

    content-found : content_here y R j (start_of y R j g c + o) ≡ c
    content-found = (λ i. owner y R j (group_found i) (unit_found_lem i)) ∙ owner-home y v R g j le c hc

    offset_found : offset_here y (start_of y R j g c + o) ≡ o
    offset_found =
        ap (offset_here y) (spot_plus y g (home y R j g c) o) ∙ offset_there y v g (home y R j g c) o hg (home-lt y v R g j le c hc) ho

  -- so a loop over the groups that lays bytes of their contents is a sweep
  pub placed : Placed (all_groups y) (contents y) y.u (image_length y) (start_of y R j) (group_here y) (content_here y R j) (offset_here y)
  placed =
      record {
        inside = start-inside;
        group_lt = group_here-lt y v;
        off_lt = λ x h. offset_here-lt y v x;
        there = content-there;
        group_at_lem = group_found;
        own_at = content-found;
        off_at = offset_found;
      }
