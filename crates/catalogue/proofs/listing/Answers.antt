-- The answer and the output are those of the documents.
use Rattle.std.specs.Prelude.{◌≡◌, ℕ, Result, Ok, Err, List, Option, length, take, drop, ◌+◌, ◌-◌}
use Rattle.std.proofs.Common.{ap, ◌∙◌, arith}
use Rattle.lists.specs.declared.Refusal.{Refusal}
use Rattle.entries.specs.declared.Wide.{Wide}
use Rattle.entries.specs.declared.Entry.{Entry}
use Rattle.entries.specs.declared.Key.{Key}
use Rattle.entries.specs.declared.Show.{Show}
use Rattle.entries.specs.declared.Listed.{Listed}
use Rattle.entries.specs.Answered.{page_of}
use Rattle.entries.specs.Listed.{listed}
use Rattle.entries.specs.Plans.{window_of, record_at, report_of}
use Rattle.entries.specs.Listings.{finished, output, listing_report, listing_output}
use Rattle.entries.specs.Promise.{Listing}
use Rattle.catalogue.proofs.listing.Goals as goal

module _ (k : Key) (n : ℕ) (ys : List Entry) (os : List Wide) where
  accepted : {w : Show} {first : Option Entry} {p : Listed} {zs : List Wide} → Ok w ≡ window_of k n (length os) ys → first ≡ record_at ys w.after
      → p ≡ report_of w.count first → zs ≡ listed (take (w.from + w.count - w.from) (drop w.from ys)) os → Listing k n ys os (page_of (Ok p)) zs
  accepted {w} e f g h = record {
    answer =
        ap (λ (p : Listed). page_of (Ok p)) (g ∙ ap (report_of w.count) f) ∙ ap (λ (v : Result Show Refusal). page_of (finished ys v)) e
        ∙ listing_report k n ys os;
    output =
        h ∙ ap (λ (j : ℕ). listed (take j (drop w.from ys)) os) (many w.from w.count)
        ∙ ap (λ (v : Result Show Refusal). output v ys os) e ∙ listing_output k n ys os;
  }
    where
      many : (a b : ℕ) → a + b - a ≡ b
      many a b = omega arith

  refused : {r : Refusal} {zs : List Wide} → Err r ≡ window_of k n (length os) ys → zs ≡ output (Err r) ys os
      → Listing k n ys os (page_of (Err r)) zs
  refused e h = record {
    answer = ap (λ (v : Result Show Refusal). page_of (finished ys v)) e ∙ listing_report k n ys os;
    output = h ∙ ap (λ (v : Result Show Refusal). output v ys os) e ∙ listing_output k n ys os;
  }

pub returns-in-Ok : goal.returns-in-Ok
returns-in-Ok c =
    accepted c.args.key c.args.n c.args.s.now c.args.out.now c.in-Ok.ensures.shows c.record_at.ensures c.report.ensures c.list.ensures

pub returns-in-Err : goal.returns-in-Err
returns-in-Err c = refused c.args.key c.args.n c.args.s.now c.args.out.now c.in-Err.ensures.shows c.wipe.ensures
