-- `entries::answer` meets its contract: each return is the arm that its test picks.
use Rattle.std.specs.Prelude.{◌≡◌, refl, true, false, Option, Some, None, Result, Err}
use Rattle.std.specs.Option.{ok_or}
use Rattle.std.proofs.Common.{◌∙◌, sym}
use Rattle.lists.specs.Pick.{pick_true, pick-false}
use Rattle.lists.specs.declared.Refusal.{Refusal}
use Rattle.lists.specs.declared.Refusal.TheVariants.{BadCatalogue, NotThere}
use Rattle.entries.specs.declared.Wide.{Wide}
use Rattle.entries.specs.declared.Look.{Look}
use Rattle.entries.specs.Plans.{given, answer_of}
use Rattle.entries.proofs.Derived.{off, on}
use Rattle.entries.proofs.answer.Goals as goal

bad : (x : Look) → x.sound ≡ false → ◌≡◌ {A = Result Wide Refusal} (Err BadCatalogue) (answer_of x)
unfolding answer_of
bad x s = sym (pick-false x.sound (given x.found) (Err BadCatalogue) s)

given-is : (o : Option Wide) → ok_or o NotThere ≡ given o
given-is (Some c) = refl
given-is None = refl

held : (x : Look) → x.sound ≡ true → ok_or x.found NotThere ≡ answer_of x
unfolding answer_of
held x s = given-is x.found ∙ sym (pick_true x.sound (given x.found) (Err BadCatalogue) s)

pub returns-then-not-x : goal.returns-then-not-x
returns-then-not-x c = bad c.args.x (off c.args.x.sound c.if-not-x.true)

pub returns : goal.returns
returns c = c.ok_or.ensures.value ∙ held c.args.x (on c.args.x.sound c.if-not-x.false)
