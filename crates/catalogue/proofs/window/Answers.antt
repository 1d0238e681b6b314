-- What is searched lies in the slice, and the place of the key is before the end of its device.
use Rattle.std.proofs.Common.{◌≡◌, sym, ap, subst, ◌∙◌, ℕ, ◌≤◌, true, List, length, take, length-take-le}
use Rattle.std.specs.Prelude.{Result}
use Rattle.lists.specs.declared.Refusal.{Refusal}
use Rattle.entries.specs.declared.Entry.{Entry}
use Rattle.entries.specs.declared.Key.{Key}
use Rattle.entries.specs.declared.Look.{Look}
use Rattle.entries.specs.declared.Show.{Show}
use Rattle.entries.specs.Key.{rising}
use Rattle.entries.specs.Span.{past_count}
use Rattle.entries.specs.Look.{scan_of}
use Rattle.entries.specs.Looks.{scan_searchable, scan_upto}
use Rattle.entries.specs.Plans.{end_of, shown_of, window_of}
use Rattle.entries.specs.Listings.{place-before-end, AnyWithin, listing_inside}
use Rattle.catalogue.proofs.window.Goals as goal

module _ (k : Key) (n : ℕ) (ys : List Entry) {x : Look} (is : x ≡ scan_of k n ys) where
  searchable : (x.upto ≤ length ys) × (rising (take x.upto ys) ≡ true)
  searchable = subst (λ (y : Look). (y.upto ≤ length ys) × (rising (take y.upto ys) ≡ true)) (sym is) (scan_searchable k n ys)

  the_end : {end : ℕ} → end ≡ past_count k true (take x.upto ys) → end ≡ end_of k n ys
  the_end e = e ∙ ap (λ (y : Look). past_count k true (take y.upto ys)) is ∙ ap (λ (m : ℕ). past_count k true (take m ys)) (scan_upto k n ys)

  the_window : (room : ℕ) {end : ℕ} {w : Result Show Refusal} → end ≡ past_count k true (take x.upto ys) → w ≡ shown_of x end room
      → w ≡ window_of k n room ys
  the_window room {end} e₁ e₂ =
      e₂ ∙ ap (λ (y : Look). shown_of y end room) is ∙ ap (λ (j : ℕ). shown_of (scan_of k n ys) j room) (the_end e₁)

pub slice_bounds-device_end-end : goal.slice_bounds-device_end-end
slice_bounds-device_end-end c =
    sym (length-take-le c.scan-x.result.upto c.args.s.now (searchable c.args.key c.args.n c.args.s.now c.scan-x.ensures).0)

pub device_end-end-requires : goal.device_end-end-requires
device_end-end-requires c = (searchable c.args.key c.args.n c.args.s.now c.scan-x.ensures).1

pub shown-requires : goal.shown-requires
shown-requires c =
    subst (λ (j : ℕ). c.scan-x.result.at ≤ j) (sym (the_end c.args.key c.args.n c.args.s.now c.scan-x.ensures c.device_end-end.ensures))
    (subst (λ (x : Look). x.at ≤ end_of c.args.key c.args.n c.args.s.now) (sym c.scan-x.ensures)
    (place-before-end c.args.key c.args.n c.args.s.now))

pub returns : goal.returns
returns c =
    let e : c.shown.result ≡ window_of c.args.key c.args.n c.args.room c.args.s.now =
    the_window c.args.key c.args.n c.args.s.now c.scan-x.ensures c.args.room c.device_end-end.ensures c.shown.ensures in
    record {
      shows = e;
      inside =
          subst (λ (w : Result Show Refusal). AnyWithin w (length c.args.s.now) c.args.room) (sym e)
          (listing_inside c.args.key c.args.n c.args.s.now c.args.room);
    }
