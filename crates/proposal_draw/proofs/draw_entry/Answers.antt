-- `proposal_draw::draw_entry` meets its contract: group and content, and behind them the sources (`entry_drawn`).
use Rattle.proposal_draw.specs.Entry.{entry_drawn}
use Rattle.proposal_draw.proofs.draw_entry.Goals as goal

pub returns : goal.returns
returns c = entry_drawn _ _ _ _ _ _ _ _ c.requires.2 c.draw_sources.ensures
