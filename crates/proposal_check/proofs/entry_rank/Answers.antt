-- `proposal_check::entry_rank` meets its contract: each test that fails shows that the entry is not good, and where none does the flags below the
-- content are counted.
use Rattle.std.proofs.Common.{arith, length-drop}
use Rattle.std.proofs.lemmas.List.{take_all}
use Rattle.proposal_check.specs.Entry.{content_above, content-present, sources_bad, rank_here, few_below}
use Rattle.proposal_check.proofs.entry_rank.Goals as goal
use Rattle.proposal_check.proofs.entry_rank.Goals.{then-m-c-via-then-m-c, then-m-c-via-else-m-c+then-not-missing-c}

pub returns-then-m-c : goal.returns-then-m-c
returns-then-m-c c plan e is =
    let stand = c.stand_of-stand in
    elim c.then-m-c.branch [
      | then-m-c-via-then-m-c w ↦ content_above _ c.args.r _ e _ is stand.result.missing stand.ensures.flags w.if-m-c.true
      | then-m-c-via-else-m-c+then-not-missing-c w ↦
          content-present _ c.args.r _ e _ is stand.result.missing stand.ensures.flags w.if-m-c.false w.if-not-missing-c.true
    ]

pub returns-then-not-sources_good : goal.returns-then-not-sources_good
returns-then-not-sources_good c plan e is =
    sources_bad _ c.args.r _ e _ is c.stand_of-stand.result.missing c.stand_of-stand.ensures.flags
    _ _ (take_all _ _ (omega (arith, length-drop 2 c.args.entry.now))) c.sources_good.ensures c.if-not-sources_good.true

pub missing_below-below-requires : goal.missing_below-below-requires
missing_below-below-requires c =
    let t = c.requires.1 in
    let stand = c.stand_of-stand in
    (omega (arith, t.valid, c.if-m-c.false), few_below _ c.args.r t.valid c.requires.0 _ stand.result.missing stand.ensures.flags _ c.if-m-c.false)

pub returns : goal.returns
returns c plan e is =
    rank_here _ c.args.r _ e _ is c.stand_of-stand.result.missing c.stand_of-stand.ensures.flags
    c.requires.1.group c.if-m-c.false c.if-not-missing-c.false
    _ _ (take_all _ _ (omega (arith, length-drop 2 c.args.entry.now))) c.sources_good.ensures c.if-not-sources_good.false _ c.missing_below-below.ensures.count_is
