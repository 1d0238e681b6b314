-- `lists::clear` meets its contract: what is filled with one value has it at every place.
use Rattle.std.proofs.Common.{◌∙◌, length}
use Rattle.std.proofs.lemmas.List.{get_or-replicate, length-replicate}
use Rattle.lists.specs.Tabulate.{tabulated}
use Rattle.lists.proofs.clear.Goals as goal

pub returns : goal.returns
returns c = let n = length c.args.out.now in
    c.fill.ensures.after (λ y e. e) ∙ tabulated n (λ i. 0) _ 0 (length-replicate n 0) (λ i b. get_or-replicate n i 0 0 b)
