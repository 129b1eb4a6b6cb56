use Rattle.std.proofs.Common.{length, ap, ◌∙◌, rules, tests}
use Rattle.std.specs.Prelude.{unwrap_or}
use Rattle.std.proofs.lemmas.Iterator.{YieldsList-from_slice}
use Rattle.std.proofs.lemmas.Iterator.Search.{position_from_yields_List}
use Rattle.scq_topics.specs.Exports.{has_name, topic_of}
use Rattle.scq_topics.proofs.Found.{place_or_len, position_or_len-le}
use Rattle.scq_topics.proofs.topics.Topics.find.Goals as goal

pub returns-clause-value : goal.returns-clause-value
returns-clause-value c =
    let found = position_from_yields_List (has_name c.args.name.now) _ _ c.position-found.result c.position-found.ensures.ran
    (YieldsList-from_slice c.args.self.now cc) (λ x b q k. search (rules, tests)) in
    c.unwrap_or.ensures ∙ ap (unwrap_or c.position-found.result) (c.len.ensures.value ∙ ap length c.self.view_is)
    ∙ place_or_len (topic_of c.args.self.now c.args.name.now) (length c.args.self.now) c.position-found.result
    (position_or_len-le (has_name c.args.name.now) c.args.self.now) found
