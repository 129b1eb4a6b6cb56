-- A new block leaves the answers where they are.
use Rattle.scq_collect.proofs.BlockLemmas.{block-begun}
use Rattle.scq_collect.proofs.blocks.make_room.Goals as goal

pub returns-clause-held : goal.returns-clause-held
returns-clause-held c = λ answers held.
    let began = c.in_ok-begin_block.ensures in
    block-begun c.args.full.now.items c.begin_block.new.full.items c.args.block.now c.begin_block.new.block c.args.before answers began.kept began.begun held
